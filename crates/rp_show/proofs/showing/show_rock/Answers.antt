use Rattle.std.proofs.Common.{◌≡◌, ℕ, List, Result, refl, sym, ap, ◌∙◌, subst}
use Rattle.rp_base.specs.declared.value.OpEnd.{OpEnd}
use Rattle.rp_base.specs.declared.value.Rock.{Rock}
use Rattle.rp_base.specs.declared.value.Rock.TheVariants as rock
use Rattle.rp_ops.specs.Outcome.{Meets, Outcome, State, state_of}
use Rattle.rp_show.specs.Show.{printed}
use Rattle.rp_show.specs.Shown.{shown_inside}
use Rattle.rp_show.specs.ShowView.{rock_shown}
use Rattle.rp_show.proofs.showing.show_rock.Goals as goal

-- neither a text nor an exception value
plain : (result : Result (List ℕ) OpEnd) (t s : State) (r q : Rock) → r ≡ q → rock_shown q s ≡ printed (shown_inside q) s → Meets result t (printed (shown_inside r) s)
    → Meets result t (rock_shown r s)
plain result t s r q e h k =
    subst (λ (o : Outcome (List ℕ)). Meets result t o) (sym (ap (λ (x : Rock). rock_shown x s) e ∙ h ∙ ap (λ (x : Rock). printed (shown_inside x) s) (sym e))) k

pub returns-in-Nil-clause-plain : goal.returns-in-Nil-clause-plain
returns-in-Nil-clause-plain c = λ steps.
    plain c.show_plain.result (state_of c.show_plain.new.store steps) (state_of c.args.store.now steps) c.args.rock.now rock.Nil c.in-Nil.is refl (c.show_plain.ensures.plain steps)

pub returns-in-Kind-clause-plain : goal.returns-in-Kind-clause-plain
returns-in-Kind-clause-plain c = λ steps.
    plain c.show_plain-in-Kind.result (state_of c.show_plain-in-Kind.new.store steps) (state_of c.args.store.now steps) c.args.rock.now (rock.Kind c.in-Kind.field-0) c.in-Kind.is refl
    (c.show_plain-in-Kind.ensures.plain steps)

pub returns-in-Native-clause-plain : goal.returns-in-Native-clause-plain
returns-in-Native-clause-plain c = λ steps.
    plain c.show_plain-in-Native.result (state_of c.show_plain-in-Native.new.store steps) (state_of c.args.store.now steps) c.args.rock.now (rock.Native c.in-Native.field-0) c.in-Native.is refl
    (c.show_plain-in-Native.ensures.plain steps)
