-- `and` and `or`, from what is known of the truth of an operand.
use Rattle.std.proofs.Common.{◌≡◌, Bool, true, false, [], ◌∷◌, List, Result, refl}
use mathlib.Core.Bool.{beq}
use Rattle.std.specs.Prelude.{OnOk}
use Rattle.rp_base.specs.declared.value.OpEnd.{OpEnd}
use Rattle.rp_base.specs.declared.value.Value.{Value}
use Rattle.rp_meaning.specs.Expressions as forms
use Rattle.rp_meaning.specs.Frame.{Frame, Meaning, Run}
use Rattle.rp_meaning.specs.State.{State, Outcome}
use Rattle.rp_ops.specs.Outcome.{gives}
use Rattle.rp_proxy.specs.declared.world.World.{World}
use Rattle.rp_access.specs.Comes.{IsEnd}
use Rattle.rp_engine.specs.ExpressionSteps.{either, put_to, step_to}
use Rattle.rp_engine.specs.JoinSteps.{joined, later}
use Rattle.rp_engine.specs.Law.{Evaluates, frame_in, rest_of}
use Rattle.rp_access.specs.Moment.{state_of}
use Rattle.rp_access.specs.Parts.{truth_asked}
use Rattle.rp_engine.specs.Rest.{gave, rest}
use Rattle.rp_engine.specs.declared.halt.Halt.{Halt}
use Rattle.rp_engine.specs.declared.machine.Machine.{Machine}
use Rattle.rp_engine.proofs.Moves.{as_ok}
use Rattle.rp_expressions.proofs.Truths.{no_truth, one_of_two}

-- behind no operand
pub later_none : (all : Bool) (v : Value) (f : Frame) (s : State) → later all [] v f s ≡ gives v s
later_none true v f s = refl
later_none false v f s = refl

pub joined_none : (all : Bool) (f : Frame) (s : State) → joined all [] f s ≡ gives forms.nil s
joined_none true f s = refl
joined_none false f s = refl

-- from the first operand on
joined_is : (all : Bool) (x : Meaning) (ms : List Meaning) (f : Frame) (s : State) → joined all (x ∷ ms) f s ≡ put_to x (later all ms) f s
joined_is true x ms f s = refl
joined_is false x ms f s = refl

pub joined_first : (m n : Machine) (w v : World) (r : Result (Unit {0}) Halt) (all : Bool) (x : Meaning) (ms : List Meaning)
    → OnOk r (Evaluates (put_to x (later all ms)) m w n v) → OnOk r (Evaluates (joined all (x ∷ ms)) m w n v)
joined_first m n w v r all x ms law =
    as_ok m n w v r (joined all (x ∷ ms)) (put_to x (later all ms)) w (λ base. joined_is all x ms (frame_in base m) (state_of w)) law

abbrev itself : Value → Meaning
itself a f s = gives a s

-- the machine before and after, the world before, once the truth was asked, and after, and what was answered
module _ (m n : Machine) (w u v : World) (r : Result (Unit {0}) Halt) (a : Value) where
  truly : (A B : Meaning) → truth_asked a (state_of w) ≡ gives true (state_of u) → OnOk r (Evaluates A m u n v) → OnOk r (Evaluates (either A B a) m w n v)
  truly A B is law = one_of_two m n w u v r a A B true is law

  falsely : (A B : Meaning) → truth_asked a (state_of w) ≡ gives false (state_of u) → OnOk r (Evaluates B m u n v) → OnOk r (Evaluates (either A B a) m w n v)
  falsely A B is law = one_of_two m n w u v r a A B false is law

  -- an operand that does not settle the whole
  pub unsettled : (all b : Bool) (x : Meaning) (ms : List Meaning) → beq b all ≡ true → truth_asked a (state_of w) ≡ gives b (state_of u)
      → OnOk r (Evaluates (step_to x (later all ms)) m u n v) → OnOk r (Evaluates (later all (x ∷ ms) a) m w n v)
  unsettled true true x ms same is law = truly (step_to x (later true ms)) (itself a) is law
  unsettled true false x ms same is law = absurd (cc)
  unsettled false true x ms same is law = absurd (cc)
  unsettled false false x ms same is law = falsely (itself a) (step_to x (later false ms)) is law

  -- one that does
  pub settled : (all b : Bool) (x : Meaning) (ms : List Meaning) → beq b all ≡ false → truth_asked a (state_of w) ≡ gives b (state_of u)
      → OnOk r (Evaluates (itself a) m u n v) → OnOk r (Evaluates (later all (x ∷ ms) a) m w n v)
  settled true true x ms other is law = absurd (cc)
  settled true false x ms other is law = falsely (step_to x (later true ms)) (itself a) is law
  settled false true x ms other is law = truly (itself a) (step_to x (later false ms)) is law
  settled false false x ms other is law = absurd (cc)

-- it has no truth
pub no_settling : (m n : Machine) (w u : World) (r : Result (Unit {0}) Halt) (a : Value) (all : Bool) (x : Meaning) (ms : List Meaning) (e : OpEnd) → IsEnd e (state_of u) (truth_asked a (state_of w))
    → OnOk r ((base : Run) (s : State) (o : Outcome Value) → IsEnd e s o → rest_of base n s ≡ rest m.tasks (gave (frame_in base m) m.values o)) → OnOk r (Evaluates (later all (x ∷ ms) a) m w n u)
no_settling m n w u r a true x ms e is law = no_truth m n w u r a (step_to x (later true ms)) (itself a) e is law
no_settling m n w u r a false x ms e is law = no_truth m n w u r a (itself a) (step_to x (later false ms)) e is law
