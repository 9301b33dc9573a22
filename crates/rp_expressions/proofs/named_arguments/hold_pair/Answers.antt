use Rattle.std.proofs.Common.{◌≡◌, ◌∷◌, subst, sym}
use Rattle.std.specs.Prelude.{OnOk}
use Rattle.rp_store.specs.Kept.{IsFit}
use Rattle.rp_engine.specs.declared.machine.Machine.{Machine}
use Rattle.rp_expressions.proofs.named_arguments.hold_pair.Goals as goal

pub returns-in_err-hold-clause-ready : goal.returns-in_err-hold-clause-ready
returns-in_err-hold-clause-ready c = λ w r f. c.hold.ensures.ready w r (tt, tt)

pub returns-clause-held : goal.returns-clause-held
returns-clause-held c =
    subst (λ (z : Machine). OnOk c.hold-2.result (c.hold-2.new.self ≡ record z { values = c.args.value ∷ z.values })) c.in_ok-hold.ensures.held c.hold-2.ensures.held

pub returns-clause-ready : goal.returns-clause-ready
returns-clause-ready c = λ w r f.
    c.hold-2.ensures.ready w (c.hold.ensures.ready w r (tt, tt))
    (subst (λ (z : Machine). IsFit w.store.heap z.frame.side c.args.value) (sym c.in_ok-hold.ensures.held) f)
