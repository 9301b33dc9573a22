use Rattle.std.proofs.Common.{ap, sym, ◌∙◌}
use Rattle.rp_meaning.specs.Classes.{are_functions}
use Rattle.rp_access.proofs.Occupants.{functions_next, functions_not}
use Rattle.rp_access.proofs.standing.are_functions.Goals as goal

pub loop-at-init : goal.loop-at-init
loop-at-init c = ap (are_functions c.args.store.now.heap) c.walk-walk.ensures.pairs

pub loop-at-preserved : goal.loop-at-preserved
loop-at-preserved c =
    functions_next c.args.store.now.heap c.loop-at.walk c.next.new.self (c.in-Some.field-0-0.now, c.in-Some.at.now) c.in-Some.ensures
    (sym c.is_function.ensures ∙ c.if-not-is_function.false)
    ∙ c.loop-at.invariant

pub returns-then-not-is_function : goal.returns-then-not-is_function
returns-then-not-is_function c =
    functions_not c.args.store.now.heap c.loop-at.walk c.next.new.self (c.in-Some.field-0-0.now, c.in-Some.at.now) c.in-Some.ensures
    (sym c.is_function.ensures ∙ c.if-not-is_function.true)
    ∙ c.loop-at.invariant

pub returns : goal.returns
returns c = sym (ap (are_functions c.args.store.now.heap) c.in_default.ensures.0) ∙ c.loop-at.invariant
