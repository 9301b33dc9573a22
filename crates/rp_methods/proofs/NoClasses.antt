-- Methods make no classes.
use Rattle.std.proofs.Common.{◌≡◌, ℕ, zero, suc, ◌+◌, Bool, true, false, List, [], ◌∷◌, ◌++◌, length, Option, Some, None, IsSomeAnd, Result, Ok, Err, refl, sym, ap, subst}
use Rattle.std.specs.Option.{option_map, option_map_or}
use Rattle.std.specs.Prelude.{OnErr, OnOk, if◌then◌else◌, nat_lt, slice_get}
use Rattle.rp_base.specs.declared.value.Oid.{Oid}
use Rattle.rp_base.specs.declared.value.OpEnd.{OpEnd}
use Rattle.rp_base.specs.declared.value.Raised.{Raised}
use Rattle.rp_base.specs.declared.value.Rock.{Rock}
use Rattle.rp_base.specs.declared.value.Side.{Side}
use Rattle.rp_base.specs.declared.value.Value.{Value}
use Rattle.rp_base.specs.declared.value.Value.TheVariants as value
use Rattle.rp_store.specs.Cost.{cell_if_new}
use Rattle.rp_store.specs.Heap.{Names, Owned, changed_at, changed_from, content_at, entry_of}
use Rattle.rp_store.specs.Key.{key_form}
use Rattle.rp_store.specs.Object as object
use Rattle.rp_store.specs.Object.{Content}
use Rattle.rp_store.specs.Parts.{IsClass}
use Rattle.rp_store.specs.Store.{Cells, added, grown, made, written}
use Rattle.rp_store.specs.Writers.{extended, inserted, on_dict, on_list, pushed, with_element, with_elements, with_entry, with_rock, without_element, without_entry}
use Rattle.rp_store.specs.declared.key.Key.{Key}
use Rattle.rp_items.specs.Items.{changed, content_set, entry_put, no_items, place_named, set_item}
use Rattle.rp_ops.specs.Keys.{key_named}
use Rattle.rp_ops.specs.Outcome.{Meets, Outcome, State, ends, no_cell, on_found, state_of, with_used}
use Rattle.rp_methods.specs.Classes.{AddsNoClass}

pub AddsNoClass-same : (old new : List Owned) → new ≡ old → AddsNoClass old new
AddsNoClass-same old new e = record { class = λ at h. subst (λ (heap : List Owned). Names heap IsClass at) e h }

pub AddsNoClass-trans : (old between new : List Owned) → AddsNoClass old between → AddsNoClass between new → AddsNoClass old new
AddsNoClass-trans old between new first second = record { class = λ at h. first.class at (second.class at h) }

pub no_class-same : (old new : Cells) → new ≡ old → AddsNoClass old.heap new.heap
no_class-same old new e = AddsNoClass-same old.heap new.heap (ap (λ (s : Cells). s.heap) e)

-- one object is changed

abbrev IsClassAt : List Owned → ℕ → Type 0
IsClassAt heap i = IsSomeAnd (option_map (λ o. o.content) (slice_get heap i)) IsClass

changed_class : (change : Content → Content) → ((c : Content) → IsClass (change c) → IsClass c) → (heap : List Owned) (i j : ℕ) → IsClassAt (changed_from heap i change) j → IsClassAt heap j
changed_class change stays [] i j h = h
changed_class change stays (o ∷ os) zero zero h = stays o.content h
changed_class change stays (o ∷ os) zero (suc j) h = h
changed_class change stays (o ∷ os) (suc i) zero h = h
changed_class change stays (o ∷ os) (suc i) (suc j) h = changed_class change stays os i j h

changed_no_class : (heap : List Owned) (at : Oid) (change : Content → Content) → ((c : Content) → IsClass (change c) → IsClass c) → AddsNoClass heap (changed_at heap at change)
changed_no_class heap at change stays = record { class = λ other h. changed_class change stays heap at.0 other.0 h }

list_stays : (f : List Value → List Value) (c : Content) → IsClass (on_list f c) → IsClass c
list_stays f (object.list xs) h = h
list_stays f c h = h

dict_stays : (f : List (Key × (Rock × Value)) → List (Key × (Rock × Value))) (c : Content) → IsClass (on_dict f c) → IsClass c
dict_stays f (object.dict es) h = h
dict_stays f c h = h

rock_stays : (r : Rock) (v : Value) (c : Content) → IsClass (with_rock r v c) → IsClass c
rock_stays r v c h = by (key_form r) h where
  by : (x : Option Key) → IsClass (option_map_or (λ key. with_entry key r v c) x c) → IsClass c
  by None h = h
  by (Some key) h = dict_stays _ c h

module _ (old new : Cells) (at : Oid) where
  list_no_class : (f : List Value → List Value) → new.heap ≡ changed_at old.heap at (on_list f) → AddsNoClass old.heap new.heap
  list_no_class f e = subst (AddsNoClass old.heap) (sym e) (changed_no_class old.heap at (on_list f) (list_stays f))

  pub no_class-pushed : (v : Value) (cells : ℕ) → new ≡ grown old at (pushed v) cells → AddsNoClass old.heap new.heap
  no_class-pushed v cells e = list_no_class (λ xs. xs ++ v ∷ []) (ap (λ (s : Cells). s.heap) e)

  pub no_class-extended : (vs : List Value) (cells : ℕ) → new ≡ grown old at (extended vs) cells → AddsNoClass old.heap new.heap
  no_class-extended vs cells e = list_no_class (λ xs. xs ++ vs) (ap (λ (s : Cells). s.heap) e)

  pub no_class-inserted : (i : ℕ) (v : Value) (cells : ℕ) → new ≡ grown old at (inserted i v) cells → AddsNoClass old.heap new.heap
  no_class-inserted i v cells e =
      subst (AddsNoClass old.heap) (sym (ap (λ (s : Cells). s.heap) e)) (changed_no_class old.heap at (inserted i v) (λ c h. list_stays _ c h))

  pub no_class-set : (vs : List Value) → new ≡ written old at (with_elements vs) → AddsNoClass old.heap new.heap
  no_class-set vs e = list_no_class (λ xs. vs) (ap (λ (s : Cells). s.heap) e)

  pub no_class-removed : (i : ℕ) → new ≡ written old at (without_element i) → AddsNoClass old.heap new.heap
  no_class-removed i e =
      subst (AddsNoClass old.heap) (sym (ap (λ (s : Cells). s.heap) e)) (changed_no_class old.heap at (without_element i) (λ c h. list_stays _ c h))

  pub no_class-dropped : (key : Key) → new ≡ written old at (without_entry key) → AddsNoClass old.heap new.heap
  no_class-dropped key e =
      subst (AddsNoClass old.heap) (sym (ap (λ (s : Cells). s.heap) e)) (changed_no_class old.heap at (without_entry key) (λ c h. dict_stays _ c h))

-- an object is added

added_class : (heap : List Owned) (o : Owned) → ¬ IsClass o.content → (j : ℕ) → IsClassAt (heap ++ o ∷ []) j → IsClassAt heap j
added_class [] o other zero h = absurd (other h)
added_class [] o other (suc j) h = h
added_class (p ∷ ps) o other zero h = h
added_class (p ∷ ps) o other (suc j) h = added_class ps o other j h

added_no_class : (heap : List Owned) (side : Side) (c : Content) → ¬ IsClass c → AddsNoClass heap (heap ++ record { owner = side; content = c } ∷ [])
added_no_class heap side c other = record { class = λ at h. added_class heap (record { owner = side; content = c }) other at.0 h }

module _ (old new : Cells) (side : Side) where
  pub no_class-added : (c : Content) → ¬ IsClass c → new ≡ added old side c → AddsNoClass old.heap new.heap
  no_class-added c other e = subst (AddsNoClass old.heap) (sym (ap (λ (s : Cells). s.heap) e)) (added_no_class old.heap side c other)

  pub no_class-made : {A E : Type 0} (r : Result A E) (c : Content) → ¬ IsClass c → OnOk r (new ≡ made old side c) → OnErr r (new ≡ old) → AddsNoClass old.heap new.heap
  no_class-made (Ok a) c other is same = subst (AddsNoClass old.heap) (sym (ap (λ (s : Cells). s.heap) is)) (added_no_class old.heap side c other)
  no_class-made (Err e) c other is same = no_class-same old new same

-- an item is stored
module _ (i v : Value) (s : State) where
  stays : AddsNoClass s.store.heap s.store.heap
  stays = AddsNoClass-same s.store.heap s.store.heap refl

  put_stays : (at : Oid) (r : Rock) (cells : ℕ) (over : Bool) → AddsNoClass s.store.heap (if over then ends no_cell s else changed at (with_rock r v) (with_used s cells)).state.store.heap
  put_stays at r cells true = stays
  put_stays at r cells false = changed_no_class s.store.heap at (with_rock r v) (rock_stays r v)

  element_stays : (at : Oid) (r : Result ℕ Raised) → AddsNoClass s.store.heap (on_found r s (λ p s. changed at (with_element p v) s)).state.store.heap
  element_stays at (Ok p) = changed_no_class s.store.heap at (with_element p v) (λ c h. list_stays _ c h)
  element_stays at (Err e) = stays

  entry_stays : (at : Oid) (r : Result Rock Raised) → AddsNoClass s.store.heap (on_found r s (λ r s. entry_put at r v s)).state.store.heap
  entry_stays at (Ok r) = let cells = s.store.used + cell_if_new (entry_of s.store.heap at r) in put_stays at r cells (nat_lt s.store.limit cells)
  entry_stays at (Err e) = stays

  content_stays : (at : Oid) (c : Content) → AddsNoClass s.store.heap (content_set at c i v s).state.store.heap
  content_stays at (object.list xs) = element_stays at (place_named (length xs) i)
  content_stays at (object.dict es) = entry_stays at (key_named i)
  content_stays at c = stays

  at_stays : (at : Oid) (x : Option Content) → AddsNoClass s.store.heap (option_map_or (λ c. content_set at c i v s) x (no_items s)).state.store.heap
  at_stays at None = stays
  at_stays at (Some c) = content_stays at c

  set_stays : (a : Value) → AddsNoClass s.store.heap (set_item a i v s).state.store.heap
  set_stays (value.Rock r) = stays
  set_stays (value.Ref at) = at_stays at (content_at s.store.heap at)
  set_stays (value.Prox at) = at_stays at (content_at s.store.heap at)

pub no_class-item : (old new : Cells) (r : Result (Unit {0}) OpEnd) (a i v : Value) → ((steps : ℕ) → Meets r (state_of new steps) (set_item a i v (state_of old steps))) → OnErr r (new ≡ old)
    → AddsNoClass old.heap new.heap
no_class-item old new (Ok done) a i v is same =
    subst (λ (o : Outcome (Unit {0})). AddsNoClass old.heap o.state.store.heap) (is 0) (set_stays i v (state_of old 0) a)
no_class-item old new (Err e) a i v is same = no_class-same old new same

pub ruleset no_class = (AddsNoClass-same, AddsNoClass-trans, no_class-same, no_class-pushed, no_class-extended, no_class-inserted, no_class-set, no_class-removed, no_class-dropped)
