-- What expanding gives, in the words of the definition.
use Rattle.std.specs.Prelude.{◌≡◌, ℕ, List, map, Result, Ok, Err, ⊤}
use Rattle.std.specs.declared.alloc.Global.{Global}
use Rattle.std.specs.declared.vec.Vec.{Vec}
use Rattle.rp_token.specs.declared.token.Token.{Token}
use Rattle.rp_token.specs.Form.{Item}
use Rattle.rp_token.specs.View.{item_view}
use Rattle.rp_more.specs.declared.fault.MoreFault.{MoreFault}
use Rattle.rp_more.specs.declared.fault.MoreFault.TheVariants as fault

-- the tokens are those of the definition, or the fault is; a want of memory is none of its faults
abbrev pub Gives : List (List ℕ) → Result (List Item) MoreFault → Result (Vec Token Global) MoreFault → Type 0
Gives names expected (Ok tokens) = expected ≡ Ok (map (item_view names) tokens.items)
Gives names expected (Err fault.Memory) = ⊤
Gives names expected (Err f) = expected ≡ Err f
