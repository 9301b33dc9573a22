use Rattle.std.proofs.Common.{sym, ap, subst}
use Rattle.rp_decl.specs.InOrder.{AreInOrder}
use Rattle.rp_interact.specs.Answers.{AnswersAs}
use Rattle.rp_proxy.specs.Faithful.{MayGrowTo}
use Rattle.rp_proxy.specs.declared.world.World.{World}
use Rattle.rp_proxy.proofs.LaterRecords.{declarations-later}
use Rattle.rp_tests_stage.proofs.stage.staged.Goals as goal

pub begin-requires-clause-grants : goal.begin-requires-clause-grants
begin-requires-clause-grants c = λ later grows.
    let w = c.args.world in
    let names = ap (λ (v : World). v.names) c.new-sessions.ensures.world in
    let decl = ap (λ (v : World). v.decl) c.new-sessions.ensures.world in
    let grown = subst (λ ns. MayGrowTo ns later) names grows in
    let ordered = subst AreInOrder (sym (declarations-later w.names later grown.grown w.decl c.requires.faithful.read.held)) c.requires.faithful.ordered in
    let granted = rw c.in-Some.is at c.in_ok-who.ensures.grants in
    subst (λ d. AnswersAs later d c.in-Some.who) (sym decl) (granted later ordered)
