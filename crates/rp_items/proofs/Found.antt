-- What reading and deleting at a key come to.
use Rattle.std.proofs.Common.{◌≡◌, ℕ, zero, suc, Bool, true, false, cond, List, [], ◌∷◌, codes, Option, Some, None, is_some, Result, Ok, Err, IsErrAnd, slice_get, refl, sym, ap, subst, ◌∙◌}
use Rattle.std.specs.Map.{lookup, remove_entry}
use Rattle.std.specs.Option.{option_and_then, option_map, option_map_or}
use Rattle.rp_base.specs.declared.kind.Kind.TheVariants.{TypeError}
use Rattle.rp_base.specs.declared.value.Oid.{Oid}
use Rattle.rp_base.specs.declared.value.OpEnd.{OpEnd}
use Rattle.rp_base.specs.declared.value.OpEnd.TheVariants as end
use Rattle.rp_base.specs.declared.value.Raised.{Raised}
use Rattle.rp_base.specs.declared.value.Rock.{Rock}
use Rattle.rp_base.specs.declared.value.Value.{Value}
use Rattle.rp_base.specs.declared.value.Value.TheVariants as value
use Rattle.rp_store.specs.Heap.{Owned, changed_from, content_at, entry_at, entry_of}
use Rattle.rp_store.specs.Key.{key_form, same_key}
use Rattle.rp_store.specs.Object as object
use Rattle.rp_store.specs.Object.{Content, Entry}
use Rattle.rp_store.specs.Parts.{entries}
use Rattle.rp_store.specs.Store.{Cells, written}
use Rattle.rp_store.specs.Writers.{without_entry}
use Rattle.rp_store.specs.declared.key.Key.{Key}
use Rattle.rp_ops.specs.Keys.{key_named}
use Rattle.rp_ops.specs.Numbers.{refused}
use Rattle.rp_ops.specs.Outcome.{Meets, Outcome, State, gives, on_found, state_of}
use Rattle.rp_items.specs.Items.{changed, content_del, content_item, lent_out, missing_key, no_items, without_rock}

-- a rock with a key form is a key
key-found : {B : Type 0} (r : Rock) (key : Key) (s : State) (go : Rock → State → Outcome B) → Some key ≡ key_form r → on_found (key_named (value.Rock r)) s go ≡ go r s
key-found r key s go form = ap (λ (k : Option Key). on_found (option_map_or (λ _. Ok r) k (refused TypeError (codes "key"))) s go) (sym form)

some_by : {A B : Type 0} (x : Option A) (f : A → Value) (y z : B) → is_some (option_map f x) ≡ true → option_map_or (λ _. y) x z ≡ y
some_by None f y z e = absurd (cc)
some_by (Some a) f y z e = refl

none_by : {A B : Type 0} (x : Option A) (f : A → Value) (y z : B) → option_map f x ≡ None → option_map_or (λ _. y) x z ≡ z
none_by None f y z e = refl
none_by (Some a) f y z e = absurd (cc)

-- a dict without the key of a rock
without_rock-entry : (r : Rock) (key : Key) → Some key ≡ key_form r → without_rock r ≡ without_entry key
without_rock-entry r key form = ap (λ (k : Option Key). λ (c : Content). option_map_or (λ key. without_entry key c) k c) (sym form)

module _ (old : Cells) (at : Oid) (r : Rock) (key : Key) (steps : ℕ) (dropped : Option Value) (form : Some key ≡ key_form r)
    (is : dropped ≡ option_map (λ e. e.1) (entry_at old.heap at key)) where
  abbrev before : State
  before = state_of old steps

  abbrev deleted : Outcome (Unit {0})
  deleted = on_found (key_named (value.Rock r)) before (λ r s. option_map_or (λ e. changed at (without_rock r) s) (entry_of old.heap at r) (missing_key r s))

  deleted_by : deleted ≡ option_map_or (λ e. changed at (without_rock r) before) (entry_at old.heap at key) (missing_key r before)
  deleted_by =
      key-found r key before (λ r s. option_map_or (λ e. changed at (without_rock r) s) (entry_of old.heap at r) (missing_key r s)) form
      ∙ ap (λ (k : Option Key). option_map_or (λ e. changed at (without_rock r) before) (option_and_then (entry_at old.heap at) k) (missing_key r before)) (sym form)

  -- a key that is there is deleted
  pub entry-dropped : (new : Cells) → is_some dropped ≡ true → new ≡ written old at (without_entry key) → deleted ≡ gives tt (state_of new steps)
  entry-dropped new some same =
      deleted_by
      ∙ some_by (entry_at old.heap at key) (λ e. e.1) (changed at (without_rock r) before) (missing_key r before) (ap is_some (sym is) ∙ some)
      ∙ ap (λ (change : Content → Content). changed at change before) (without_rock-entry r key form)
      ∙ ap (λ (c : Cells). gives tt (state_of c steps)) (sym same)

  -- one that is not there is missed
  pub entry-missing : dropped ≡ None → deleted ≡ missing_key r before
  entry-missing none = deleted_by ∙ none_by (entry_at old.heap at key) (λ e. e.1) (changed at (without_rock r) before) (missing_key r before) (sym is ∙ none)

-- what the dict of what stands at a place has at a key
abbrev entry_in : Key → Option Content → Option (Rock × Value)
entry_in key found = option_map_or (λ c. lookup (same_key key) (entries c)) found None

module _ (key : Key) where
  removed_case : (b : Bool) (e : Entry) (es rest : List Entry) → option_map (λ x. x.1) (cond b (Some e.1) (lookup (same_key key) es)) ≡ None
      → (option_map (λ x. x.1) (lookup (same_key key) es) ≡ None → rest ≡ es) → cond b es (e ∷ rest) ≡ e ∷ es
  removed_case true e es rest none same = absurd (cc)
  removed_case false e es rest none same = ap (λ (xs : List Entry). e ∷ xs) (same none)

  removed : (es : List Entry) → option_map (λ x. x.1) (lookup (same_key key) es) ≡ None → remove_entry (same_key key) es ≡ es
  removed [] none = refl
  removed (e ∷ es) none = removed_case (same_key key e.0) e es (remove_entry (same_key key) es) none (removed es)

  without : (c : Content) → option_map (λ x. x.1) (lookup (same_key key) (entries c)) ≡ None → without_entry key c ≡ c
  without (object.dict es) none = ap object.dict (removed es none)
  without (object.list xs) none = refl
  without (object.tuple xs) none = refl
  without (object.instance of fs) none = refl
  without (object.class n d ms) none = refl
  without (object.function n u b w ds) none = refl
  without (object.method r c) none = refl
  without (object.scope b p vs) none = refl

  unchanged : (heap : List Owned) (i : ℕ) → option_map (λ x. x.1) (entry_in key (option_map (λ o. o.content) (slice_get heap i))) ≡ None → changed_from heap i (without_entry key) ≡ heap
  unchanged [] i none = refl
  unchanged (o ∷ os) zero none = ap (λ (c : Content). record { owner = o.owner; content = c } ∷ os) (without o.content none)
  unchanged (o ∷ os) (suc i) none = ap (λ (xs : List Owned). o ∷ xs) (unchanged os i none)

  -- a key that is not there leaves the store as it was
  pub written-missing : (s : Cells) (at : Oid) → option_map (λ x. x.1) (entry_at s.heap at key) ≡ None → written s at (without_entry key) ≡ s
  written-missing s at none = ap (λ (heap : List Owned). record s { heap = heap }) (unchanged s.heap at.0 none)

-- deleting from a dict
pub entries-deleted : (heap : List Owned) (at : Oid) (es : List Entry) (i : Value) (s : State) → content_at heap at ≡ Some (object.dict es)
    → option_map_or (λ c. content_del at c i s) (content_at heap at) (no_items s)
    ≡ on_found (key_named i) s (λ r s. option_map_or (λ e. changed at (without_rock r) s) (entry_of heap at r) (missing_key r s))
entries-deleted heap at es i s e =
    ap (λ (x : Option Content). option_map_or (λ c. content_del at c i s) x (no_items s)) e
    ∙ sym (ap (λ (x : Option Content). on_found (key_named i) s (λ r s. option_map_or (λ e. changed at (without_rock r) s)
    (option_and_then (λ key. option_map_or (λ c. lookup (same_key key) (entries c)) x None) (key_form r)) (missing_key r s))) e)

-- reading from a dict
pub entries-found : (heap : List Owned) (at : Oid) (es : List Entry) (i : Value) (s : State) → content_at heap at ≡ Some (object.dict es)
    → option_map_or (λ c. content_item c i s) (content_at heap at) (no_items s)
    ≡ on_found (key_named i) s (λ r s. option_map_or (λ e. gives e.1 s) (entry_of heap at r) (missing_key r s))
entries-found heap at es i s e =
    ap (λ (x : Option Content). option_map_or (λ c. content_item c i s) x (no_items s)) e
    ∙ sym (ap (λ (x : Option Content). on_found (key_named i) s (λ r s. option_map_or (λ e. gives e.1 s)
    (option_and_then (λ key. option_map_or (λ c. lookup (same_key key) (entries c)) x None) (key_form r)) (missing_key r s))) e)

-- what ends through a proxy ends as it does without one
pub lent-ends : (r : Result Value OpEnd) (e : OpEnd) (t : State) (o : Outcome Value) → IsErrAnd r (λ f. f ≡ e) → Meets {A = Value} (Err e) t o → Meets r t (lent_out o)
lent-ends (Ok v) e t o is h = absurd is
lent-ends (Err f) e t o is h = subst (λ (g : OpEnd). Meets {A = Value} (Err g) t (lent_out o)) (sym is) (by e h) where
  by : (e : OpEnd) → Meets {A = Value} (Err e) t o → Meets {A = Value} (Err e) t (lent_out o)
  by (end.Raised x) h = ap lent_out h
  by end.StopSteps h = ap lent_out h
  by end.StopCells h = ap lent_out h
  by end.Memory h = tt
