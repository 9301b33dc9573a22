use Rattle.std.proofs.Common.{Bool, List, arith, ap, sym, ◌∙◌}
use Rattle.rp_base.specs.declared.value.Value.{Value}
use Rattle.rp_ops.specs.Outcome.{gives}
use Rattle.rp_methods.specs.Texts.{isdigit, truth}
use Rattle.rp_methods.proofs.Sound.{none-of}
use Rattle.rp_methods.proofs.text_tests.isdigit.Goals as goal

pub returns-clause-plain : goal.returns-clause-plain
returns-clause-plain c =
    let none = none-of c.args.args.now (omega (c.in-empty.len_below, arith)) in
    (λ s. ap (λ (xs : List Value). isdigit c.args.text.now xs s) none ∙ ap (λ (b : Bool). gives (truth b) s) (sym c.is_digits.ensures))
