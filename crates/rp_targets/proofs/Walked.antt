-- Loops over what is walked: what the code does is what the form of rp_meaning does.
use Rattle.std.proofs.Common.{◌≡◌, ℕ, suc, Some, None, ◌∙◌}
use Rattle.rp_base.specs.declared.value.OpEnd.{OpEnd}
use Rattle.rp_base.specs.declared.value.Value.{Value}
use Rattle.rp_base.specs.declared.word.TheConstants.{ITER}
use Rattle.rp_meaning.specs.Frame.{Doing, Run}
use Rattle.rp_meaning.specs.State.{done, heap_of}
use Rattle.rp_meaning.specs.Statements.{Store}
use Rattle.rp_meaning.specs.Walks.{on_more, on_turn, walk}
use Rattle.rp_ops.specs.Outcome.{gives, on_found}
use Rattle.rp_ops.specs.Walk.{Cursor, walk_of}
use Rattle.rp_proxy.specs.declared.world.World.{World}
use Rattle.rp_access.specs.Comes.{IsEnd}
use Rattle.rp_engine.specs.Law.{frame_in}
use Rattle.rp_engine.specs.LoopSteps.{all_turns, each_turn, over, turn_before, walked}
use Rattle.rp_access.specs.Moment.{state_of}
use Rattle.rp_access.specs.Spots.{next_taken, walk_asked}
use Rattle.rp_engine.specs.declared.machine.Machine.{Machine}
use Rattle.rp_access.proofs.Going.{IsEnd-same, IsEnd-then, gives-then}
use Rattle.rp_engine.proofs.Going.{asked_then}

module _ (m : Machine) (w u : World) (store : Store) (body : Doing) where
  walk_is : (v : Value) (base : Run) → walk v (frame_in base m) (state_of w) ≡ walk_asked v (state_of w)
  walk_is v base = asked_then base m.units.now m.frame ITER v (state_of w) (λ s. on_found (walk_of (heap_of s) v) s gives)

  pub over_gives : (v : Value) (c : Cursor) → walk_asked v (state_of w) ≡ gives c (state_of u) → (base : Run)
      → over store body v (frame_in base m) (state_of w) ≡ all_turns store body c (frame_in base m) (state_of u)
  over_gives v c is base = gives-then c (state_of u) _ (λ c s. all_turns store body c (frame_in base m) s) (walk_is v base ∙ is)

  pub over_ends : (v : Value) (e : OpEnd) → IsEnd e (state_of u) (walk_asked v (state_of w)) → (base : Run)
      → IsEnd e (state_of u) (over store body v (frame_in base m) (state_of w))
  over_ends v e is base =
      IsEnd-then e (state_of u) _ (λ c s. all_turns store body c (frame_in base m) s) (IsEnd-same e (state_of u) _ _ (walk_is v base) is)

  -- an element, or the end of the walk

  pub turn_gives : (n : ℕ) (c d : Cursor) (e : Value) → next_taken m.frame.side c (state_of w) ≡ gives (Some (e, d)) (state_of u) → (base : Run)
      → walked (suc n) store body c (frame_in base m) (state_of w) ≡ turn_before n store body d e (frame_in base m) (state_of u)
  turn_gives n c d e is base =
      gives-then (Some (e, d)) (state_of u) _
      (λ e s. on_more e s (λ v c s. on_turn (each_turn store body v (frame_in base m) s) (walked n store body c (frame_in base m)))) is

  pub turn_none : (n : ℕ) (c : Cursor) → next_taken m.frame.side c (state_of w) ≡ gives None (state_of u) → (base : Run)
      → walked (suc n) store body c (frame_in base m) (state_of w) ≡ done (state_of u)
  turn_none n c is base =
      gives-then None (state_of u) _
      (λ e s. on_more e s (λ v c s. on_turn (each_turn store body v (frame_in base m) s) (walked n store body c (frame_in base m)))) is

  pub turn_ends : (n : ℕ) (c : Cursor) (e : OpEnd) → IsEnd e (state_of u) (next_taken m.frame.side c (state_of w)) → (base : Run)
      → IsEnd e (state_of u) (walked (suc n) store body c (frame_in base m) (state_of w))
  turn_ends n c e is base =
      IsEnd-then e (state_of u) _
      (λ e s. on_more e s (λ v c s. on_turn (each_turn store body v (frame_in base m) s) (walked n store body c (frame_in base m)))) is
