-- The law of a form, and what its code may hold, where the code matched on what a part gave.
use Rattle.std.proofs.Common.{◌≡◌, List, Option, Some, Ok, Result, subst}
use Rattle.std.specs.Prelude.{IfSome, OnOk}
use Rattle.rp_base.specs.declared.value.Side.{Side}
use Rattle.rp_base.specs.declared.value.Value.{Value}
use Rattle.rp_meaning.specs.Frame.{Meaning, Run}
use Rattle.rp_meaning.specs.State.{State, Outcome, stepped}
use Rattle.rp_ops.specs.Outcome.{gives}
use Rattle.rp_proxy.specs.declared.world.World.{World}
use Rattle.rp_store.specs.Heap.{Owned}
use Rattle.rp_store.specs.Kept.{IsFit}
use Rattle.rp_access.specs.Comes.{ComesIfAny}
use Rattle.rp_access.specs.Moment.{state_of}
use Rattle.rp_engine.specs.ExpressionSteps.{put_to, step_to}
use Rattle.rp_engine.specs.Law.{Evaluates, frame_in}
use Rattle.rp_engine.specs.declared.halt.Halt.{Halt}
use Rattle.rp_engine.specs.declared.machine.Machine.{Machine}
use Rattle.rp_engine.proofs.Answering.{put, step_put}

module _ (o : Option Value) (a : Value) (is : o ≡ Some a) where
  pub found_fit : (heap : List Owned) (side : Side) → IfSome o (IsFit heap side) → IsFit heap side a
  found_fit heap side fit = subst (λ (o : Option Value). IfSome o (IsFit heap side)) is fit

  found_gives : (s : State) (f : Run → Outcome Value) → ((base : Run) → ComesIfAny (Ok o) s (f base)) → (base : Run) → f base ≡ gives a s
  found_gives s f law = subst (λ (o : Option Value). (base : Run) → ComesIfAny (Ok o) s (f base)) is law

  -- the machine before and after, the world before, once the part was tried, and after, and what was answered
  module _ (m n : Machine) (w u v : World) (r : Result (Unit {0}) Halt) (x : Meaning) (go : Value → Meaning) where
    pub put_found : ((base : Run) → ComesIfAny (Ok o) (state_of u) (x (frame_in base m) (state_of w))) → OnOk r (Evaluates (go a) m u n v) → OnOk r (Evaluates (put_to x go) m w n v)
    put_found law = put m n w u v r x go a (found_gives (state_of u) (λ base. x (frame_in base m) (state_of w)) law)

    pub step_found : ((base : Run) → ComesIfAny (Ok o) (state_of u) (stepped (state_of w) (x (frame_in base m)))) → OnOk r (Evaluates (go a) m u n v) → OnOk r (Evaluates (step_to x go) m w n v)
    step_found law = step_put m n w u v r x go a (found_gives (state_of u) (λ base. stepped (state_of w) (x (frame_in base m))) law)
