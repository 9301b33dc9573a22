use Rattle.std.proofs.Common.{◌≡◌, ◌<◌, ◌*◌, ◌^◌, ℕ, List, ap, arith, length, rules, subst, take}
use Rattle.std.specs.Prelude.{IfOk}
use Rattle.std.proofs.lemmas.Grind.{common_steps}
use Rattle.std.proofs.lemmas.List.{length-reverse, length-take}
use Rattle.rp_base.specs.declared.value.Value.{Value}
use Rattle.rp_expressions.proofs.NamedValues.{named_is}
use Rattle.rp_expressions.proofs.named_values.named_at_hand.Goals as goal

pub all_named-requires : goal.all_named-requires
all_named-requires c =
    let vs = c.args.machine.now.values in
    let n = 2 * c.args.hand.named in
    let small : c.args.hand.named < 2 ^ 32 = first_of (search rules, grind (arith, common_steps)) in
    omega (arith, small, ap length c.last-pairs.ensures, length-reverse (take n vs), length-take n vs)

pub returns : goal.returns
returns c =
    subst (λ (ns : List (List ℕ × Value)). IfOk c.all_named.result (λ all. all.items ≡ ns))
    (named_is c.args.hand c.args.machine.now.values c.last-pairs.result.now c.last-pairs.ensures) c.all_named.ensures
