-- Names, by their places.
use Rattle.std.specs.Prelude.{Bool, nat_eq}
use Rattle.rp_base.specs.declared.value.Name.{Name}

-- the two names have one place
abbrev pub is_name : Name → Name → Bool
is_name a b = nat_eq a.0 b.0
