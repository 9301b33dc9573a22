-- What a store to an attribute through a proxy changes.
use Rattle.std.proofs.Common.{◌≡◌, refl, ap, ◌∙◌, ◌⊎◌, inl, inr, ℕ, ◌+◌, Bool, true, false, if◌then◌else◌, List}
use Rattle.std.proofs.Common.{Option, Some, None, Result, Ok, Err}
use Rattle.std.specs.Prelude.{nat_lt}
use Rattle.std.specs.Option.{option_map_or}
use Rattle.rp_attributes.specs.Attributes as attributes
use Rattle.rp_base.specs.Names.{word_of}
use Rattle.rp_base.specs.declared.value.Name.{Name}
use Rattle.rp_base.specs.declared.value.Oid.{Oid}
use Rattle.rp_base.specs.declared.value.Value.{Value}
use Rattle.rp_checker.specs.RowOf.{setting}
use Rattle.rp_ops.specs.Outcome as plain
use Rattle.rp_ops.specs.Outcome.{End, ends, no_cell, on_answer, with_used}
use Rattle.rp_proxy.specs.Decide.{class_at, entry_of}
use Rattle.rp_store.specs.Cost.{cell_if_new}
use Rattle.rp_store.specs.Heap.{Owned, changed_at, content_at, field_at}
use Rattle.rp_store.specs.Object as object
use Rattle.rp_store.specs.Object.{Content}
use Rattle.rp_store.specs.Writers.{with_field, without_field}
use Rattle.rp_trail.specs.Entry.{Entry, Verdict, allowed, denied, forbidden}
use Rattle.rp_meaning.specs.Frame.{decided}
use Rattle.rp_meaning.specs.State.{State, done, heap_of, monitor_of, plainly_done}
use Rattle.rp_meaning.specs.Unmonitored.{IsAllowed}
use Rattle.rp_owner_laws.specs.Stores.{ChangesBehind, DeletesOneField, StoresOneField}
use Rattle.rp_owner_laws.specs.Uses.{noted}
use Rattle.rp_owner_laws.proofs.CutGoing.{entry_as}
use Rattle.rp_owner_laws.proofs.Owners.{decided_as}

-- ---- plain stores

-- an instance there, and a change of it alone
record Changes (at : Oid) (change : Content → Content) (old new : List Owned) : Type 0 where
  of : Oid
  fields : List (Name × Value)
  instance : content_at old at ≡ Some (object.instance of fields)
  heap : new ≡ changed_at old at change

abbrev Stored : Oid → (Content → Content) → plain.State → plain.Outcome (Unit {0}) → Type 0
Stored at change s o = (o.state.store.heap ≡ s.store.heap) ⊎ Changes at change s.store.heap o.state.store.heap

field_set : (at : Oid) (n : Name) (word : List ℕ) (v : Value) (s : plain.State)
    → Stored at (with_field n v) s (attributes.set_at at n word v s)
field_set at n word v s = by (content_at s.store.heap at) refl
  where
    charged : (of : Oid) (fs : List (Name × Value)) → content_at s.store.heap at ≡ Some (object.instance of fs)
        → (cells : ℕ) (full : Bool) → Stored at (with_field n v) s
        (if full then ends no_cell s else attributes.changes at (with_field n v) (with_used s (s.store.used + cells)))
    charged of fs e cells true = inl refl
    charged of fs e cells false = inr (record { of = of; fields = fs; instance = e; heap = refl })

    by : (c : Option Content) → content_at s.store.heap at ≡ c → Stored at (with_field n v) s
        (option_map_or (λ (c : Content). attributes.content_set at c n word v s) c (attributes.no_attribute word s))
    by None e = inl refl
    by (Some (object.instance of fs)) e = charged of fs e (cell_if_new (field_at s.store.heap at n))
        (nat_lt s.store.limit (s.store.used + cell_if_new (field_at s.store.heap at n)))
    by (Some c) e = inl refl

field_del : (at : Oid) (n : Name) (word : List ℕ) (s : plain.State)
    → Stored at (without_field n) s (attributes.del_at at n word s)
field_del at n word s = by (content_at s.store.heap at) refl
  where
    deleted : (of : Oid) (fs : List (Name × Value)) → content_at s.store.heap at ≡ Some (object.instance of fs)
        → (v : Option Value) → Stored at (without_field n) s (attributes.field_deleted at v n word s)
    deleted of fs e None = inl refl
    deleted of fs e (Some v) = inr (record { of = of; fields = fs; instance = e; heap = refl })

    by : (c : Option Content) → content_at s.store.heap at ≡ c → Stored at (without_field n) s
        (option_map_or (λ (c : Content). attributes.content_del at c n word s) c (attributes.no_attribute word s))
    by None e = inl refl
    by (Some (object.instance of fs)) e = deleted of fs e (field_at s.store.heap at n)
    by (Some c) e = inl refl

-- ---- behind a decision

-- what a plain store leaves, whatever it answers
left : (o : plain.Outcome (Unit {0})) (s : State) → (plainly_done (λ p. o) s).state ≡ record s { plain = o.state }
left o s = by o.answer
  where
    by : (answer : Result (Unit {0}) End)
        → (on_answer answer (record s { plain = o.state }) (λ _ s. done s)).state ≡ record s { plain = o.state }
    by (Ok u) = refl
    by (Err e) = refl

behind_entry : (at : Oid) (change : Content → Content) (e : Entry) (s : State) (o : plain.Outcome (Unit {0}))
    → IsAllowed e.verdict → Stored at change (noted s e).plain o
    → ChangesBehind e at change s (plainly_done (λ p. o) (noted s e)).state
behind_entry at change e s o allows (inl h) = inl (ap heap_of (left o (noted s e)) ∙ h)
behind_entry at change e s o allows (inr h) = inr (
  record { log = ap (λ (s : State). s.log) (left o (noted s e)); allowed = allows },
  record { of = h.of; fields = h.fields; instance = h.instance; heap = ap heap_of (left o (noted s e)) ∙ h.heap },
)

changes_behind : (at : Oid) (change : Content → Content)
    (operation : State → plain.State → plain.Outcome (Unit {0})) (s : State) (full : Bool)
    (session : ℕ) (word class name : List ℕ) (verdict : Verdict)
    → ((t : State) (p : plain.State) → Stored at change p (operation t p))
    → ChangesBehind (entry_as session word class name verdict) at change s
    (decided (decided_as full (monitor_of s) (entry_as session word class name verdict)) s
    (λ t. plainly_done (operation t) t)).state
changes_behind at change operation s true session word class name verdict stored = inl refl
changes_behind at change operation s false session word class name (denied permission) stored = inl refl
changes_behind at change operation s false session word class name forbidden stored = inl refl
changes_behind at change operation s false session word class name (allowed permission) stored =
    let e : Entry = entry_as session word class name (allowed permission) in
    let t : State = noted s e in
    behind_entry at change e s (operation t t.plain) tt (stored t t.plain)

pub stores_one_field : StoresOneField
stores_one_field f at n v s =
    let e = entry_of (monitor_of s) (setting (word_of s.names n)) (class_at (heap_of s) at) in
    changes_behind at (with_field n v) (λ t p. attributes.set_at at n (word_of t.names n) v p) s
    (nat_lt s.plain.store.limit (s.plain.store.used + 1)) e.session e.op e.class e.name e.verdict
    (λ t p. field_set at n (word_of t.names n) v p)

pub deletes_one_field : DeletesOneField
deletes_one_field f at n s =
    let e = entry_of (monitor_of s) (setting (word_of s.names n)) (class_at (heap_of s) at) in
    changes_behind at (without_field n) (λ t p. attributes.del_at at n (word_of t.names n) p) s
    (nat_lt s.plain.store.limit (s.plain.store.used + 1)) e.session e.op e.class e.name e.verdict
    (λ t p. field_del at n (word_of t.names n) p)
