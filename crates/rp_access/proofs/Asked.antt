-- Decisions on each of some values, one behind another.
use Rattle.std.proofs.Common.{◌≡◌, ℕ, ◌+◌, ◌<◌, ◌≤◌, List, drop, get_or, length, Option, Some, None, Result, sym, ap, ◌∙◌, subst}
use Rattle.std.proofs.lemmas.List.{drop_all, drop_more}
use Rattle.std.proofs.lemmas.List.Elements.{All-get_or}
use Rattle.std.specs.Option.{option_map}
use Rattle.rp_base.specs.declared.native.NativeId.{NativeId}
use Rattle.rp_base.specs.declared.value.Name.{Name}
use Rattle.rp_base.specs.declared.value.OpEnd.{OpEnd}
use Rattle.rp_base.specs.declared.value.Value.{Value}
use Rattle.rp_meaning.specs.State.{State, Outcome}
use Rattle.rp_native.specs.Needs.{needs}
use Rattle.rp_native.specs.declared.need.Need.{Need}
use Rattle.rp_ops.specs.Outcome.{gives, on_value}
use Rattle.rp_store.specs.Heap.{Owned}
use Rattle.rp_store.specs.Kept.{AreSound, IsSound}
use Rattle.rp_store.specs.Shape.{KeepsShape}
use Rattle.rp_access.specs.CallSteps.{all_asked, each_asked, needs_asked}
use Rattle.rp_access.specs.Comes.{Comes, IsEnd}
use Rattle.rp_access.specs.Natives.{need_name}
use Rattle.rp_access.specs.Parts.{asking}
use Rattle.rp_access.proofs.Going.{IsEnd-same, IsEnd-then, gives-then}

-- a value of them, in a heap that has gone on
pub sound_item : (old new : List Owned) (vs : List Value) (i : ℕ) (v : Value) → v ≡ get_or vs i v → i < length vs → KeepsShape old new → AreSound old vs → IsSound new v
sound_item old new vs i v is within keeps h =
    keeps.sound v (subst (IsSound old) (sym is) (All-get_or (IsSound old) vs i v within h))

module _ (name : Name) (vs : List Value) (i : ℕ) (v : Value) (is : v ≡ get_or vs i v) (within : i < length vs) where
  next : (s : State) → all_asked name (drop i vs) s ≡ on_value (asking name v s) (λ _ s. all_asked name (drop (i + 1) vs) s)
  next s = ap (λ us. all_asked name us s) (drop_more vs i v within) ∙ ap (λ u. on_value (asking name u s) (λ _ s. all_asked name (drop (i + 1) vs) s)) (sym is)

  pub asked_next : (o : Outcome (Unit {0})) (s t : State) → o ≡ all_asked name (drop i vs) s → asking name v s ≡ gives (tt {0}) t → o ≡ all_asked name (drop (i + 1) vs) t
  asked_next o s t same asked = same ∙ next s ∙ gives-then (tt {0}) t (asking name v s) (λ _ s. all_asked name (drop (i + 1) vs) s) asked

  pub asked_fails : (o : Outcome (Unit {0})) (s t : State) (e : OpEnd) → o ≡ all_asked name (drop i vs) s → IsEnd e t (asking name v s) → IsEnd e t o
  asked_fails o s t e same ends =
      IsEnd-same e t o _ (same ∙ next s) (IsEnd-then e t (asking name v s) (λ _ s. all_asked name (drop (i + 1) vs) s) ends)

-- all are asked
pub asked_all : (name : Name) (vs : List Value) (i : ℕ) (o : Outcome (Unit {0})) (s : State) → length vs ≤ i → o ≡ all_asked name (drop i vs) s → o ≡ gives (tt {0}) s
asked_all name vs i o s all same = same ∙ ap (λ us. all_asked name us s) (drop_all i vs all)

-- what a function needs of its arguments, as it is known
pub asked_some : (id : NativeId) (vs : List Value) (need : Need) (name : Name) (r : Result (Unit {0}) OpEnd) (s t : State) → Some need ≡ needs id 0 (length vs) → name ≡ need_name need
    → Comes r t (all_asked name vs s) → Comes r t (needs_asked id vs s)
asked_some id vs need name r s t is named h =
    subst (λ (x : Option Need). Comes r t (each_asked (option_map need_name x) vs s)) is (subst (λ (n : Name). Comes r t (all_asked n vs s)) named h)

pub asked_none : (id : NativeId) (vs : List Value) (s : State) → None ≡ needs id 0 (length vs) → needs_asked id vs s ≡ gives (tt {0}) s
asked_none id vs s is = ap (λ (x : Option Need). each_asked (option_map need_name x) vs s) (sym is)
