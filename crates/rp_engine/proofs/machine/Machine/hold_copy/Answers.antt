use Rattle.std.proofs.Common.{◌≡◌, ◌∷◌, subst, sym}
use Rattle.std.specs.Prelude.{OnOk}
use Rattle.rp_base.specs.declared.value.Value.{Value}
use Rattle.rp_store.specs.Kept.{IsFit}
use Rattle.rp_engine.proofs.machine.Machine.hold_copy.Goals as goal

pub returns-clause-held : goal.returns-clause-held
returns-clause-held c =
    let m = c.args.self.now in
    subst (λ (v : Value). OnOk c.hold.result (c.hold.new.self ≡ record m { values = v ∷ m.values })) c.in_ok-copy.ensures c.hold.ensures.held

pub returns-clause-ready : goal.returns-clause-ready
returns-clause-ready c = λ w ready fit.
    c.hold.ensures.ready w ready (subst (λ (v : Value). IsFit w.store.heap c.args.self.now.frame.side v) (sym c.in_ok-copy.ensures) fit)
