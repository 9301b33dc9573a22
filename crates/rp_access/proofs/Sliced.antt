-- Slices, once they are decided.
use Rattle.std.proofs.Common.{◌≡◌, ℕ, Bool, true, false, List, Option, Some, None, Result, Ok, Err, sym, ap, ◌∙◌, subst, if◌then◌else◌}
use Rattle.std.specs.Prelude.{nat_lt, OnErr}
use Rattle.std.specs.Option.{option_map_or}
use Rattle.rp_base.specs.declared.value.Oid.{Oid}
use Rattle.rp_base.specs.declared.value.OpEnd.{OpEnd}
use Rattle.rp_base.specs.declared.value.Raised.{Raised}
use Rattle.rp_base.specs.declared.value.Rock.{Rock}
use Rattle.rp_base.specs.declared.value.Rock.TheVariants as rock
use Rattle.rp_base.specs.declared.value.Side.{Side}
use Rattle.rp_base.specs.declared.value.Value.{Value}
use Rattle.rp_base.specs.declared.value.Value.TheVariants as value
use Rattle.rp_base.specs.declared.word.TheConstants.{GET_ITEM}
use Rattle.rp_items.specs.Items.{no_items}
use Rattle.rp_items.specs.Slices as slices
use Rattle.rp_items.specs.Slices.{Span}
use Rattle.rp_meaning.specs.Frame.{through}
use Rattle.rp_meaning.specs.State.{State, heap_of, plainly}
use Rattle.rp_ops.specs.Binary.{new_text}
use Rattle.rp_ops.specs.Outcome as plain
use Rattle.rp_ops.specs.Outcome.{Meets, gives, on_value}
use Rattle.rp_proxy.proofs.LaterStores.{with_store, IsFaithful-stored}
use Rattle.rp_proxy.specs.Faithful.{IsFaithful}
use Rattle.rp_proxy.specs.Held.{AreNamed}
use Rattle.rp_proxy.specs.Taken.{taken}
use Rattle.rp_proxy.specs.declared.world.World.{World}
use Rattle.rp_store.specs.Heap.{content_at}
use Rattle.rp_store.specs.Object.{Content, list, tuple, dict, instance, class, function, method, scope}
use Rattle.rp_store.specs.Store.{Cells}
use Rattle.rp_access.specs.Comes.{IsEnd}
use Rattle.rp_access.specs.Parts.{asking}
use Rattle.rp_access.specs.Reading.{got_by}
use Rattle.rp_access.specs.Slices.{slice_asked}
use Rattle.rp_access.proofs.Going.{IsEnd-same, IsEnd-then, gives-then}
use Rattle.rp_access.proofs.Namings.{lent_named, new_named, same_heap_faithful}

-- the decision was passed
module _ (side : Side) (o x y z : Value) (s t : State) (asked : asking GET_ITEM o s ≡ gives (tt {0}) t) where
  slice_plain : slice_asked side o x y z s ≡ on_value (plainly (slices.slice o x y z) t) (got_by side o)
  slice_plain = gives-then (tt {0}) t (asking GET_ITEM o s) (λ _ s. on_value (plainly (slices.slice o x y z) s) (got_by side o)) asked

  pub slice_ends : (e : OpEnd) (u : State) → IsEnd e u (plainly (slices.slice o x y z) t) → IsEnd e u (slice_asked side o x y z s)
  slice_ends e u is = IsEnd-same e u _ _ slice_plain (IsEnd-then e u (plainly (slices.slice o x y z) t) (got_by side o) is)

  pub slice_gives : (v w : Value) (u : State) → plainly (slices.slice o x y z) t ≡ gives v u → w ≡ taken (heap_of u) side (through o v) → slice_asked side o x y z s ≡ gives w u
  slice_gives v w u is took = slice_plain ∙ gives-then v u (plainly (slices.slice o x y z) t) (got_by side o) is ∙ ap (λ v. gives v u) (sym took)

-- a world stays faithful behind a slice
module _ (names : List (List ℕ)) where
  if_text : (over : Bool) (used : ℕ) (v : Value) (s : plain.State) → AreNamed names s.store.heap
      → AreNamed names (if over then plain.ends plain.no_cell s else plain.gives v (plain.with_used s used)).state.store.heap
  if_text true used v s h = h
  if_text false used v s h = h

  text_named : (t : List ℕ) (s : plain.State) → AreNamed names s.store.heap → AreNamed names (new_text t s).state.store.heap
  text_named t s h = if_text (nat_lt s.store.limit _) _ (value.Rock (rock.Text t)) s h

  rock_named : (r : Rock) (parts : Result Span Raised) (s : plain.State) → AreNamed names s.store.heap → AreNamed names (slices.rock_slice r parts s).state.store.heap
  rock_named (rock.Text t) (Ok p) s h = text_named (slices.sliced p t) s h
  rock_named (rock.Text t) (Err e) s h = h
  rock_named rock.Nil parts s h = h
  rock_named (rock.Truth b) parts s h = h
  rock_named (rock.Int z) parts s h = h
  rock_named (rock.Exc k t) parts s h = h
  rock_named (rock.Kind k) parts s h = h
  rock_named (rock.Native id) parts s h = h

  content_named : (owner : Side) (c : Content) (parts : Result Span Raised) (s : plain.State) → AreNamed names s.store.heap → AreNamed names (slices.content_slice owner c parts s).state.store.heap
  content_named owner (list xs) (Ok p) s h = new_named names owner (list (slices.sliced p xs)) s tt h
  content_named owner (list xs) (Err e) s h = h
  content_named owner (tuple xs) (Ok p) s h = new_named names owner (tuple (slices.sliced p xs)) s tt h
  content_named owner (tuple xs) (Err e) s h = h
  content_named owner (dict es) parts s h = h
  content_named owner (instance of fs) parts s h = h
  content_named owner (class n d ms) parts s h = h
  content_named owner (function n u b w ds) parts s h = h
  content_named owner (method r c) parts s h = h
  content_named owner (scope b p vs) parts s h = h

  found_named : (o : Option Content) (owner : Side) (parts : Result Span Raised) (s : plain.State) → AreNamed names s.store.heap
      → AreNamed names (option_map_or (λ c. slices.content_slice owner c parts s) o (no_items s)).state.store.heap
  found_named None owner parts s h = h
  found_named (Some c) owner parts s h = content_named owner c parts s h

  object_named : (at : Oid) (parts : Result Span Raised) (s : plain.State) → AreNamed names s.store.heap → AreNamed names (slices.object_slice at parts s).state.store.heap
  object_named at parts s h = found_named (content_at s.store.heap at) (slices.owner_of at s) parts s h

  slice_named : (o x y z : Value) (s : plain.State) → AreNamed names s.store.heap → AreNamed names (slices.slice o x y z s).state.store.heap
  slice_named (value.Rock r) x y z s h = rock_named r (slices.span_named x y z) s h
  slice_named (value.Ref at) x y z s h = object_named at (slices.span_named x y z) s h
  slice_named (value.Prox at) x y z s h = lent_named names (slices.object_slice at (slices.span_named x y z) s) (object_named at (slices.span_named x y z) s h)

pub slice_faithful : (w : World) (store : Cells) (r : Result Value OpEnd) (o x y z : Value)
    → Meets r (plain.state_of store 0) (slices.slice o x y z (plain.state_of w.store 0)) → OnErr r (store.heap ≡ w.store.heap) → IsFaithful w → IsFaithful (with_store w store)
slice_faithful w store (Ok v) o x y z is same h =
    IsFaithful-stored w store (subst (λ (o : plain.Outcome Value). AreNamed w.names o.state.store.heap) is (slice_named w.names o x y z (plain.state_of w.store 0) h.classes)) h
slice_faithful w store (Err e) o x y z is same h = same_heap_faithful w store same h
