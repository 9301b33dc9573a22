use Rattle.std.proofs.Common.{[], List, subst, sym}
use Rattle.std.specs.Prelude.{OnOk}
use Rattle.std.proofs.lemmas.List.Elements.{All-cons, All-nil}
use Rattle.rp_base.specs.declared.value.Value.{Value}
use Rattle.rp_store.specs.Kept.{AreFit, IsFit}
use Rattle.rp_expressions.proofs.LaterArguments.{Later}
use Rattle.rp_engine.specs.Does as does
use Rattle.rp_expressions.proofs.later_arguments.after_later.Goals as goal

pub plain_over-requires-clause-fit : goal.plain_over-requires-clause-fit
plain_over-requires-clause-fit c =
    let heap = c.args.world.now.store.heap in
    let side = c.args.machine.now.frame.side in
    subst (λ (us : List Value). AreFit heap side us) (sym c.in_ok-values.ensures) (All-cons (IsFit heap side) c.args.value [] c.requires.value (All-nil (IsFit heap side)))

pub returns-clause-law : goal.returns-clause-law
returns-clause-law c =
    let r = c.plain_over.result in
    subst
    (λ (us : List Value). OnOk r (Later c.args.machine.now c.plain_over.new.machine c.args.world.now c.plain_over.new.world r (does.args c.args.args.now) (does.trailers c.args.rest.now) c.args.hand us))
    c.in_ok-values.ensures c.plain_over.ensures.law
