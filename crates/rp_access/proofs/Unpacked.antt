-- Unpacking, from what is known of each element.
use Rattle.std.specs.Prelude.{is_some}
use Rattle.std.proofs.Common.{◌≡◌, ℕ, true, false, suc, List, [], ◌∷◌, ◌++◌, Option, Some, None, Result, Ok, Err, refl, sym, ap, ◌∙◌}
use Rattle.std.proofs.lemmas.List.{append_assoc, append-nil}
use Rattle.rp_base.specs.declared.value.OpEnd.{OpEnd}
use Rattle.rp_base.specs.declared.value.Side.{Side}
use Rattle.rp_base.specs.declared.value.Value.{Value}
use Rattle.rp_base.specs.declared.word.TheConstants.{ITER}
use Rattle.rp_meaning.specs.Frame.{Frame}
use Rattle.rp_meaning.specs.State.{State, Outcome, heap_of}
use Rattle.rp_meaning.specs.Statements.{at_end, exactly, on_element, wrong_count}
use Rattle.rp_meaning.specs.Walks.{next_element, walk}
use Rattle.rp_meaning.proofs.Laws.{then_then}
use Rattle.rp_ops.specs.Outcome.{End, gives, on_answer, on_found, on_value}
use Rattle.rp_ops.specs.Walk.{Cursor, walk_of}
use Rattle.rp_access.specs.Comes.{Comes, IsEnd}
use Rattle.rp_access.specs.Moment.{decided_frame}
use Rattle.rp_access.specs.Spots.{cursor_at, next_at, next_taken, walk_asked}
use Rattle.rp_frame.specs.declared.spot.Spot.{Spot}
use Rattle.rp_access.specs.Unpacking.{exactly_behind, unpacked}
use Rattle.rp_access.proofs.Going.{Comes-same, IsEnd-same, IsEnd-then, asked_then, gives-then, on_same}

-- behind none
same_answer : {A : Type 0} (r : Result A End) (s : State) → record { answer = r; state = s } ≡ on_answer r s (λ a s. gives a s)
same_answer (Ok a) s = refl
same_answer (Err e) s = refl

pub behind_none : (n : ℕ) (c : Cursor) (frame : Frame) (s : State) → exactly n c frame s ≡ exactly_behind [] n c frame s
behind_none n c frame s = let o = exactly n c frame s in same_answer o.answer o.state

module _ (frame : Frame) (side : Side) (is : frame.side ≡ side) (c : Cursor) (s : State) where
  abbrev decided : Frame
  decided = decided_frame frame

  next_is : next_element decided c s ≡ next_taken side c s
  next_is = ap (λ side. next_taken side c s) is

  abbrev first : ℕ → Option (Value × Cursor) → State → Outcome (List Value)
  first n e s = on_element e s (λ v c s. on_value (exactly n c decided s) (λ vs s. gives (v ∷ vs) s))

  abbrev behind : List Value → List Value → State → Outcome (List Value)
  behind vs us s = gives (vs ++ us) s

  -- one more
  pub one_gives : (vs : List Value) (n : ℕ) (v : Value) (d : Cursor) (t : State) → next_taken side c s ≡ gives (Some (v, d)) t
      → exactly_behind vs (suc n) c decided s ≡ exactly_behind (vs ++ v ∷ []) n d decided t
  one_gives vs n v d t found =
      ap (λ o. on_value o (behind vs)) (gives-then (Some (v, d)) t (next_element decided c s) (first n) (next_is ∙ found))
      ∙ then_then (exactly n d decided t) (λ us s. gives (v ∷ us) s) (behind vs)
      ∙ on_same (exactly n d decided t) _ _ (λ us u. ap (λ ws. gives ws u) (sym (append_assoc vs (v ∷ []) us)))

  pub one_none : (vs : List Value) (n : ℕ) (t : State) → next_taken side c s ≡ gives None t → exactly_behind vs (suc n) c decided s ≡ wrong_count t
  one_none vs n t found = ap (λ o. on_value o (behind vs)) (gives-then None t (next_element decided c s) (first n) (next_is ∙ found))

  pub one_ends : (vs : List Value) (n : ℕ) (e : OpEnd) (t : State) → IsEnd e t (next_taken side c s) → IsEnd e t (exactly_behind vs (suc n) c decided s)
  one_ends vs n e t ended =
      IsEnd-then e t (exactly (suc n) c decided s) (behind vs) (IsEnd-then e t (next_element decided c s) (first n) (IsEnd-same e t (next_element decided c s) _ next_is ended))

  -- no more
  last_none : (vs : List Value) (t : State) → next_taken side c s ≡ gives None t → exactly_behind vs 0 c decided s ≡ gives vs t
  last_none vs t found =
      ap (λ o. on_value o (behind vs)) (gives-then None t (next_element decided c s) at_end (next_is ∙ found)) ∙ ap (λ us. gives us t) (append-nil vs)

  last_more : (vs : List Value) (e : Value × Cursor) (t : State) → next_taken side c s ≡ gives (Some e) t → exactly_behind vs 0 c decided s ≡ wrong_count t
  last_more vs e t found = ap (λ o. on_value o (behind vs)) (gives-then (Some e) t (next_element decided c s) at_end (next_is ∙ found))

  pub last_some : (vs : List Value) (v : Value) (found : Option (Value × Spot)) (t : State) → is_some found ≡ true → Comes (next_at v (Ok found)) t (next_taken side c s)
      → exactly_behind vs 0 c decided s ≡ wrong_count t
  last_some vs v None t some h = absurd (cc)
  last_some vs v (Some e) t some h = last_more vs (e.0, cursor_at v e.1) t h

  pub last_is_none : (vs : List Value) (v : Value) (found : Option (Value × Spot)) (t : State) → is_some found ≡ false → Comes (next_at v (Ok found)) t (next_taken side c s)
      → exactly_behind vs 0 c decided s ≡ gives vs t
  last_is_none vs v None t none h = last_none vs t h
  last_is_none vs v (Some e) t none h = absurd (cc)

  pub last_ends : (vs : List Value) (e : OpEnd) (t : State) → IsEnd e t (next_taken side c s) → IsEnd e t (exactly_behind vs 0 c decided s)
  last_ends vs e t ended =
      IsEnd-then e t (exactly 0 c decided s) (behind vs) (IsEnd-then e t (next_element decided c s) at_end (IsEnd-same e t (next_element decided c s) _ next_is ended))

-- the walk, which is decided
module _ (frame : Frame) (n : ℕ) (v : Value) (s t : State) where
  walk_is : walk v (decided_frame frame) s ≡ walk_asked v s
  walk_is = asked_then frame ITER v s (λ s. on_found (walk_of (heap_of s) v) s gives)

  pub unpacked_gives : (c : Cursor) → walk_asked v s ≡ gives c t → unpacked n v (decided_frame frame) s ≡ exactly n c (decided_frame frame) t
  unpacked_gives c found = gives-then c t (walk v (decided_frame frame) s) (λ c s. exactly n c (decided_frame frame) s) (walk_is ∙ found)

  pub unpacked_ends : (e : OpEnd) → IsEnd e t (walk_asked v s) → IsEnd e t (unpacked n v (decided_frame frame) s)
  unpacked_ends e ended =
      IsEnd-then e t (walk v (decided_frame frame) s) (λ c s. exactly n c (decided_frame frame) s) (IsEnd-same e t (walk v (decided_frame frame) s) _ walk_is ended)

  pub unpacked_comes : (u : State) (r : Result (List Value) OpEnd) (c : Cursor) → walk_asked v s ≡ gives c t → Comes r u (exactly n c (decided_frame frame) t)
      → Comes r u (unpacked n v (decided_frame frame) s)
  unpacked_comes u r c found = Comes-same r u _ _ (unpacked_gives c found)
