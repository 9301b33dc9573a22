use Rattle.std.proofs.Common.{◌≡◌, List, ℕ, IfOk, Some, map, subst}
use Rattle.std.specs.Option.{option_map}
use Rattle.rp_base.specs.declared.value.Value.{Value}
use Rattle.rp_calls.specs.Binding.{filled, offered}
use Rattle.rp_calls.proofs.parameters.plain_slots.Goals as goal

pub returns : goal.returns
returns c =
    subst (λ (named : List (List ℕ × Value)). IfOk c.slots_from.result (λ r. option_map (λ slots. slots.items) r
    ≡ option_map (map Some) (filled (offered c.args.names.now c.args.plain.now c.args.args.now c.args.defaults.now) named)))
    c.in_ok-named.ensures c.slots_from.ensures
