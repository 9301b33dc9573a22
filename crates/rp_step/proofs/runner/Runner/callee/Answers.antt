use Rattle.std.proofs.Common.{◌≡◌, Bool, Option, drop, sym, ap, ◌∙◌, subst}
use Rattle.std.specs.Prelude.{IfSome}
use Rattle.rp_base.specs.declared.value.Oid.{Oid}
use Rattle.rp_base.specs.declared.value.Value.TheVariants as value
use Rattle.rp_frame.specs.Top.{top}
use Rattle.rp_store.specs.Kept.{IsSound}
use Rattle.rp_engine.proofs.AtHand.{drop_ready, top_fit}
use Rattle.rp_engine.specs.DefinitionSteps.{callee_of}
use Rattle.rp_engine.specs.HandSteps.{size_of}
use Rattle.rp_step.proofs.Entries.{callee_held}
use Rattle.rp_step.proofs.runner.Runner.callee.Goals as goal

pub returns-clause-value : goal.returns-clause-value
returns-clause-value c = c.callee_of.ensures ∙ ap callee_of (c.under.ensures ∙ ap (λ k. top (drop k c.args.self.now.machine.values)) c.size.ensures)

pub returns-clause-sound : goal.returns-clause-sound
returns-clause-sound c = λ w ready.
    let m = c.args.self.now.machine in
    let vs = drop (size_of c.args.hand) m.values in
    let found : c.callee_of.result ≡ callee_of (top vs) = c.callee_of.ensures ∙ ap callee_of (c.under.ensures ∙ ap (λ k. top (drop k m.values)) c.size.ensures) in
    subst (λ (o : Option (Oid × Bool)). IfSome o (λ (p : Oid × Bool). IsSound w.store.heap (value.Ref p.0))) (sym found)
    (callee_held w.store.heap (top vs) (top_fit m.units.now m.frame vs w (drop_ready m.units.now m.frame (size_of c.args.hand) m.values w ready.machine)).0)
