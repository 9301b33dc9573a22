-- Statements, from what is known of the next part.
use Rattle.std.proofs.Common.{◌≡◌, Bool, Result, Ok, Err, refl, ◌∙◌}
use Rattle.rp_base.specs.declared.value.OpEnd.{OpEnd}
use Rattle.rp_base.specs.declared.value.Value.{Value}
use Rattle.rp_meaning.specs.Frame.{Doing, Meaning, Run}
use Rattle.rp_meaning.specs.State.{State, Outcome, Flow, broke, choose, continued, done, next, on_next, returned, stepped}
use Rattle.rp_meaning.specs.Statements as forms
use Rattle.rp_meaning.specs.Statements.{Store}
use Rattle.rp_meaning.specs.Walks.{on_truth}
use Rattle.rp_ops.specs.Outcome.{End, gives, on_value}
use Rattle.rp_proxy.specs.declared.world.World.{World}
use Rattle.rp_access.specs.Comes.{IsEnd}
use Rattle.rp_engine.specs.Law.{frame_in}
use Rattle.rp_access.specs.Moment.{state_of}
use Rattle.rp_access.specs.Parts.{step_end, truth_asked}
use Rattle.rp_engine.specs.Rest.{tested_turn, turn}
use Rattle.rp_engine.specs.declared.machine.Machine.{Machine}
use Rattle.rp_access.proofs.Going.{IsEnd-same, IsEnd-then, gives-then}
use Rattle.rp_engine.proofs.Going.{truth_then}

module _ (m : Machine) (w u : World) where
  -- a step is taken
  pub stepped_gives : (D : Doing) → step_end (state_of w) ≡ gives (tt {0}) (state_of u) → (base : Run)
      → stepped (state_of w) (D (frame_in base m)) ≡ D (frame_in base m) (state_of u)
  stepped_gives D is base = gives-then (tt {0}) (state_of u) _ (λ _ s. D (frame_in base m) s) is

  pub stepped_ends : (D : Doing) (e : OpEnd) → IsEnd e (state_of u) (step_end (state_of w)) → (base : Run)
      → IsEnd e (state_of u) (stepped (state_of w) (D (frame_in base m)))
  stepped_ends D e is base = IsEnd-then e (state_of u) _ (λ _ s. D (frame_in base m) s) is

  -- the right side of an assignment
  pub assign_gives : (x : Meaning) (store : Store) (a : Value) → ((base : Run) → x (frame_in base m) (state_of w) ≡ gives a (state_of u)) → (base : Run)
      → forms.assign x store (frame_in base m) (state_of w) ≡ store a (frame_in base m) (state_of u)
  assign_gives x store a is base = gives-then a (state_of u) _ (λ a s. store a (frame_in base m) s) (is base)

  pub assign_ends : (x : Meaning) (store : Store) (e : OpEnd) → ((base : Run) → IsEnd e (state_of u) (x (frame_in base m) (state_of w))) → (base : Run)
      → IsEnd e (state_of u) (forms.assign x store (frame_in base m) (state_of w))
  assign_ends x store e is base = IsEnd-then e (state_of u) _ (λ a s. store a (frame_in base m) s) (is base)

  -- the truth of a value
  pub truth_gives : (v : Value) (this other : Doing) (b : Bool) → truth_asked v (state_of w) ≡ gives b (state_of u) → (base : Run)
      → on_truth v (frame_in base m) (state_of w) (this (frame_in base m)) (other (frame_in base m))
      ≡ choose b (this (frame_in base m)) (other (frame_in base m)) (state_of u)
  truth_gives v this other b is base = truth_then base m.units.now m.frame v (state_of w) (this (frame_in base m)) (other (frame_in base m))
      ∙ gives-then b (state_of u) _ (λ b s. choose b (this (frame_in base m)) (other (frame_in base m)) s) is

  pub truth_ends : (v : Value) (this other : Doing) (e : OpEnd) → IsEnd e (state_of u) (truth_asked v (state_of w)) → (base : Run)
      → IsEnd e (state_of u) (on_truth v (frame_in base m) (state_of w) (this (frame_in base m)) (other (frame_in base m)))
  truth_ends v this other e is base = IsEnd-same e (state_of u) _ _
      (truth_then base m.units.now m.frame v (state_of w) (this (frame_in base m)) (other (frame_in base m)))
      (IsEnd-then e (state_of u) _ (λ b s. choose b (this (frame_in base m)) (other (frame_in base m)) s) is)

-- a turn of a loop, behind its step
module _ (m : Machine) (w t u : World) (x : Meaning) (body : Doing) (is : step_end (state_of w) ≡ gives (tt {0}) (state_of t)) where
  pub turn_stepped : (base : Run)
      → turn x body (frame_in base m) (state_of w) ≡ on_value (x (frame_in base m) (state_of t)) (λ v s. tested_turn v body (frame_in base m) s)
  turn_stepped base = gives-then (tt {0}) (state_of t) _ (λ _ s. on_value (x (frame_in base m) s) (λ v s. tested_turn v body (frame_in base m) s)) is

  pub turn_gives : (v : Value) → ((base : Run) → x (frame_in base m) (state_of t) ≡ gives v (state_of u)) → (base : Run)
      → turn x body (frame_in base m) (state_of w) ≡ tested_turn v body (frame_in base m) (state_of u)
  turn_gives v gave base = turn_stepped base ∙ gives-then v (state_of u) _ (λ v s. tested_turn v body (frame_in base m) s) (gave base)

  pub turn_ends : (e : OpEnd) → ((base : Run) → IsEnd e (state_of u) (x (frame_in base m) (state_of t))) → (base : Run)
      → IsEnd e (state_of u) (turn x body (frame_in base m) (state_of w))
  turn_ends e ended base = IsEnd-same e (state_of u) _ _ (turn_stepped base)
      (IsEnd-then e (state_of u) _ (λ v s. tested_turn v body (frame_in base m) s) (ended base))

-- behind the last part nothing is done
done_last : (r : Result Flow End) (s : State) → on_next (record { answer = r; state = s }) done ≡ record { answer = r; state = s }
done_last (Ok next) s = refl
done_last (Ok broke) s = refl
done_last (Ok continued) s = refl
done_last (Ok (returned v)) s = refl
done_last (Err e) s = refl

pub on_done : (o : Outcome Flow) → on_next o done ≡ o
on_done o = done_last o.answer o.state
