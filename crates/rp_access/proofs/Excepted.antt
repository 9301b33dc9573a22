-- The kinds that the value in `except` names.
use Rattle.std.proofs.Common.{◌≡◌, Bool, ◌||◌, List, Option, Some, None, option_map, codes, refl}
use Rattle.std.specs.List.{list_any}
use Rattle.rp_base.specs.Kind.{is_under}
use Rattle.rp_base.specs.declared.kind.Kind.{Kind}
use Rattle.rp_base.specs.declared.kind.Kind.TheVariants.{TypeError}
use Rattle.rp_base.specs.declared.value.Raised.{Raised}
use Rattle.rp_base.specs.declared.value.Value.{Value}
use Rattle.rp_meaning.specs.Exceptions.{kinds_named, kinds_of, matches}
use Rattle.rp_meaning.specs.State.{State, heap_of}
use Rattle.rp_ops.specs.Outcome.{raises}

-- what is found among some values, where so much was found before
abbrev pub found_in : Kind → Bool → List Value → Option Bool
found_in k found vs = option_map (λ ks. found || list_any (is_under k) ks) (kinds_of vs)

-- a value that names none
pub names_none : (v : Value) (r : Raised) (s : State) (o : Option (List Kind)) → kinds_named (heap_of s) v ≡ o → None ≡ option_map (list_any (is_under r.kind)) o
    → matches v r s ≡ raises TypeError (codes "except") s
names_none v r s None is e = rw is refl
names_none v r s (Some ks) is e = absurd (cc)
