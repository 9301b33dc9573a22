-- A turn of a loop is the first of the turns that it may make.
use Rattle.std.proofs.Common.{◌≡◌, ℕ, suc, Bool, true, false, Option, Some, None, Ok, Err, refl, sym, ◌∙◌}
use Rattle.rp_base.specs.declared.value.Value.{Value}
use Rattle.rp_base.specs.declared.word.TheConstants.{BOOL}
use Rattle.rp_base.specs.Names.{word_of}
use Rattle.rp_checker.specs.RowOf.{reading}
use Rattle.rp_meaning.specs.Expressions.{nil}
use Rattle.rp_meaning.specs.Frame.{Frame, Meaning, Doing, on_decision}
use Rattle.rp_meaning.specs.State.{State, Outcome, Flow, broke, choose, heap_of, monitor_of, with_monitor}
use Rattle.rp_meaning.specs.Statements as stmt_forms
use Rattle.rp_meaning.specs.Walks.{on_more, on_truth, on_turn}
use Rattle.rp_meaning.proofs.Laws.{then_then}
use Rattle.rp_ops.specs.Operand.{truth_of}
use Rattle.rp_ops.specs.Outcome.{gives, on_value}
use Rattle.rp_proxy.specs.Decide.{Decision}
use Rattle.rp_access.specs.Parts.{step_end}
use Rattle.rp_engine.specs.Rest.{loop, tested_turn, turn}
use Rattle.rp_access.proofs.Going.{on_same}

-- the loop goes on from a part of a turn
pub turn_then : {A : Type 0} (o : Outcome A) (go : A → State → Outcome Flow) (again : State → Outcome Flow)
    → on_turn (on_value o go) again ≡ on_value o (λ a s. on_turn (go a s) again)
turn_then o go again = then_then o go _

module _ (body : Doing) (f : Frame) (again : State → Outcome Flow) where
  abbrev more : Option (Value × Unit {0}) → State → Outcome Flow
  more e s = on_more e s (λ v w s. on_turn (body f s) again)

  chosen : (b : Bool) (s : State) → on_value (choose b (gives (Some (nil, tt {0}))) (gives None) s) more ≡ on_turn (choose b (body f) (gives broke) s) again
  chosen true s = refl
  chosen false s = refl

  decided : (d : Decision) (v : Value) (s : State)
      → on_value (on_decision d s (λ s. choose (truth_of (heap_of s) v) (gives (Some (nil, tt {0}))) (gives None) s)) more
      ≡ on_turn (on_decision d s (λ s. choose (truth_of (heap_of s) v) (body f) (gives broke) s)) again
  decided (Ok x) v s = chosen (truth_of (heap_of s) v) s
  decided (Err e) v s = refl

  tested : (v : Value) (s : State) → on_value (on_truth v f s (gives (Some (nil, tt {0}))) (gives None)) more ≡ on_turn (tested_turn v body f s) again
  tested v s =
      let d = f.run.decide v (reading (word_of s.names BOOL)) (monitor_of s) in
      decided d.0 v (with_monitor d.1 s)

  pub first_turn : (m : Meaning) (s : State) → on_value (stmt_forms.tested m f (tt {0}) s) more ≡ on_turn (turn m body f s) again
  first_turn m s =
      then_then (step_end s) (λ _ s. on_value (m f s) (λ v s. on_truth v f s (gives (Some (nil, tt {0}))) (gives None))) more
      ∙ on_same (step_end s) _ _ (λ u t.
      then_then (m f t) (λ v s. on_truth v f s (gives (Some (nil, tt {0}))) (gives None)) more
      ∙ on_same (m f t) _ _ tested
      ∙ sym (turn_then (m f t) (λ v s. tested_turn v body f s) again))
      ∙ sym (turn_then (step_end s) (λ _ s. on_value (m f s) (λ v s. tested_turn v body f s)) again)

pub loop_unrolled : (n : ℕ) (m : Meaning) (body : Doing) (f : Frame) (s : State) → loop (suc n) m body f s ≡ on_turn (turn m body f s) (loop n m body f)
loop_unrolled n m body f s = first_turn body f (loop n m body f) m s
