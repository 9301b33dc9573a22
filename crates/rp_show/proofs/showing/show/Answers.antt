use Rattle.std.proofs.Common.{ℕ, List, sym, ap, ◌∙◌, subst}
use Rattle.rp_base.specs.declared.value.Value.{Value}
use Rattle.rp_ops.specs.Outcome.{Meets, Outcome, state_of}
use Rattle.rp_show.specs.Show.{show}
use Rattle.rp_show.proofs.Turns.{show-prox, show-ref, show-rock}
use Rattle.rp_show.proofs.showing.show.Goals as goal

pub returns-in-Rock-clause-plain : goal.returns-in-Rock-clause-plain
returns-in-Rock-clause-plain c =
    let s = state_of c.args.store.now c.args.meter.now.left in
    subst (λ (o : Outcome (List ℕ)). Meets c.show_rock.result (state_of c.show_rock.new.store c.args.meter.now.left) o)
    (sym (ap (λ (v : Value). show c.args.names.now v s) c.in-Rock.is ∙ show-rock c.args.names.now c.in-Rock.rock s))
    (c.show_rock.ensures.plain c.args.meter.now.left)

pub returns-in-Ref-clause-plain : goal.returns-in-Ref-clause-plain
returns-in-Ref-clause-plain c =
    let s = state_of c.args.store.now c.args.meter.now.left in
    subst (λ (o : Outcome (List ℕ)). Meets c.show_at.result (state_of c.show_at.new.store c.show_at.new.meter.left) o)
    (sym (ap (λ (v : Value). show c.args.names.now v s) c.in-Ref.is ∙ show-ref c.args.names.now c.in-Ref.at s))
    c.show_at.ensures.plain

pub returns-in-Prox-clause-plain : goal.returns-in-Prox-clause-plain
returns-in-Prox-clause-plain c =
    let s = state_of c.args.store.now c.args.meter.now.left in
    subst (λ (o : Outcome (List ℕ)). Meets c.show_at-in-Prox.result (state_of c.show_at-in-Prox.new.store c.show_at-in-Prox.new.meter.left) o)
    (sym (ap (λ (v : Value). show c.args.names.now v s) c.in-Prox.is ∙ show-prox c.args.names.now c.in-Prox.at s))
    c.show_at-in-Prox.ensures.plain
