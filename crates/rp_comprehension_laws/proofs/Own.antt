-- What is put into the result of a comprehension keeps it an object to which nothing refers.
use Rattle.std.proofs.Common.{◌≡◌, ap, subst, ◌∙◌, ℕ, zero, suc, ◌+◌, ◌<◌, length, Bool, true, false, List}
use Rattle.std.proofs.Common.{if◌then◌else◌, Option, Some, None, Result, Ok, Err}
use Rattle.std.specs.Prelude.{nat_lt}
use Rattle.std.specs.Option.{option_map, option_map_or}
use Rattle.rp_base.specs.declared.value.Oid.{Oid}
use Rattle.rp_base.specs.declared.value.Raised.{Raised}
use Rattle.rp_base.specs.declared.value.Value.{Value}
use Rattle.rp_base.specs.declared.value.Value.TheVariants as value
use Rattle.rp_items.specs.Items as items
use Rattle.rp_ops.specs.Keys.{key_named}
use Rattle.rp_ops.specs.Outcome as plain
use Rattle.rp_ops.specs.Outcome.{End, ends, gives, no_cell, on_answer, on_found, on_value}
use Rattle.rp_store.specs.Cost.{cell_if_new}
use Rattle.rp_store.specs.Heap.{Owned, changed_at, content_at, entry_of}
use Rattle.rp_store.specs.Object as object
use Rattle.rp_store.specs.Object.{Content}
use Rattle.rp_store.specs.Writers.{pushed, with_element, with_rock}
use Rattle.rp_store.proofs.CallerLemmas.{content_at-changed_at}
use Rattle.rp_meaning.specs.Expressions.{nil}
use Rattle.rp_meaning.specs.Frame.{Frame}
use Rattle.rp_meaning.specs.State.{State, Outcome, done, heap_of, lifted, plainly, with_change}
use Rattle.rp_meaning.specs.Statements.{Store}
use Rattle.rp_fixed_laws.specs.Fixed.{Placed}
use Rattle.rp_apart_laws.specs.Apart.{Avoids, IsApart, IsLeft}
use Rattle.rp_apart_laws.proofs.Plainly.{KeepsApart, each_changed, element_apart, pushed_apart, rock_apart}
use Rattle.rp_comprehension_laws.specs.Comprehensions.{put_key, put_last}

abbrev pub placed : Oid → Content → Placed
placed at c = record { at = at; content = c }

-- whatever it holds, nothing refers to it
pub record Own (at : Oid) (heap : List Owned) : Type 0 where
  pub content : Content
  pub left : IsLeft (placed at content) heap

pub record OwnIn (at : Oid) (s : State) : Type 0 where
  pub own : Own at (heap_of s)
  pub declared : length s.declarations.classes < at.0

pub is_apart : (at : Oid) (s : State) (h : OwnIn at s) → IsApart (placed at h.own.content) s
is_apart at s h = record { heap = h.own.left; declared = h.declared }

pub is_own : (at : Oid) (c : Content) (s : State) → IsApart (placed at c) s → OwnIn at s
is_own at c s h = record { own = record { content = c; left = h.heap }; declared = h.declared }

-- ---- plain operations

abbrev Owns : {A : Type 0} → Oid → plain.Outcome A → Type 0
Owns at o = Own at o.state.store.heap

own_changed : (at : Oid) (heap : List Owned) (change : Content → Content) → KeepsApart at change → Own at heap
    → Own at (changed_at heap at change)
own_changed at heap change keeps h = record {
  content = change h.content;
  left = record {
    there = content_at-changed_at heap at change ∙ ap (option_map change) h.left.there;
    others = each_changed at heap at.0 change keeps h.left.others;
  };
}

found_own : {A B : Type 0} (at : Oid) (r : Result A Raised) (s : plain.State) (go : A → plain.State → plain.Outcome B)
    → Own at s.store.heap → ((a : A) → Owns at (go a s)) → Owns at (on_found r s go)
found_own at (Ok a) s go h more = more a
found_own at (Err e) s go h more = h

charged_own : {A : Type 0} (at : Oid) (cells : ℕ) (s : plain.State) (go : plain.State → plain.Outcome A)
    → Own at s.store.heap → ((u : plain.State) → Own at u.store.heap → Owns at (go u))
    → Owns at (plain.charged cells s go)
charged_own {A} at cells s go h more = by (nat_lt s.store.limit (s.store.used + cells))
  where
    by : (b : Bool) → Owns at (if b then ends no_cell s else go (plain.with_used s (s.store.used + cells)))
    by true = h
    by false = more (plain.with_used s (s.store.used + cells)) h

stepped_own : {A : Type 0} (at : Oid) (s : plain.State) (go : plain.State → plain.Outcome A) → Own at s.store.heap
    → ((u : plain.State) → Own at u.store.heap → Owns at (go u)) → Owns at (plain.stepped s go)
stepped_own {A} at s go h more = by s.steps
  where
    by : (n : ℕ) → Owns at (plain.stepped (record s { steps = n }) go)
    by zero = h
    by (suc n) = more (record s { steps = n }) h

changes_own : (at : Oid) (change : Content → Content) → KeepsApart at change → (s : plain.State)
    → Own at s.store.heap → Owns at (items.changed at change s)
changes_own at change keeps s h = own_changed at s.store.heap change keeps h

content_set_own : (at : Oid) (c : Content) (i v : Value) → Avoids at v → (s : plain.State) → Own at s.store.heap
    → Owns at (items.content_set at c i v s)
content_set_own at (object.list xs) i v p s h =
    found_own at (items.place_named (length xs) i) s (λ q s. items.changed at (with_element q v) s) h
    (λ q. changes_own at (with_element q v) (element_apart at q v p) s h)
content_set_own at (object.dict es) i v p s h =
    found_own at (key_named i) s (λ r s. items.entry_put at r v s) h (λ r.
    charged_own at (cell_if_new (entry_of s.store.heap at r)) s (items.changed at (with_rock r v)) h
    (λ u h. changes_own at (with_rock r v) (rock_apart at r v p) u h))
content_set_own at c i v p s h = h

set_item_own : (at : Oid) (i v : Value) → Avoids at v → (s : plain.State) → Own at s.store.heap
    → Owns at (items.set_item (value.Ref at) i v s)
set_item_own at i v p s h = by (content_at s.store.heap at)
  where
    by : (o : Option Content)
        → Owns at (option_map_or (λ (c : Content). items.content_set at c i v s) o (items.no_items s))
    by None = h
    by (Some c) = content_set_own at c i v p s h

-- ---- what is put in

abbrev OwnBehind : {A : Type 0} → Oid → Outcome A → Type 0
OwnBehind at o = OwnIn at o.state

own_bind : {A B : Type 0} (at : Oid) (o : Outcome A) (go : A → State → Outcome B) → OwnBehind at o
    → ((a : A) (s : State) → OwnIn at s → OwnBehind at (go a s)) → OwnBehind at (on_value o go)
own_bind {A} {B} at o go h more = by o.answer
  where
    by : (answer : Result A End) → OwnBehind at (on_answer answer o.state go)
    by (Ok a) = more a o.state h
    by (Err e) = h

lifted_own : {A : Type 0} (at : Oid) (o : plain.Outcome A) (s : State) → OwnIn at s → Owns at o
    → OwnBehind at (lifted o s)
lifted_own at o s h own = record { own = own; declared = h.declared }

changed_in : (at : Oid) (change : Content → Content) → KeepsApart at change → (s : State) → OwnIn at s
    → OwnIn at (with_change at change s)
changed_in at change keeps s h =
    record { own = own_changed at (heap_of s) change keeps h.own; declared = h.declared }

abbrev pub PutsOwn : Oid → Store → Type 0
PutsOwn at put = (v : Value) → Avoids at v → (frame : Frame) (s u : State) → OwnIn at s → put v frame s ≡ done u
    → OwnIn at u

put_last_own : (at : Oid) (v : Value) → Avoids at v → (frame : Frame) (s : State) → OwnIn at s
    → OwnBehind at (put_last at v frame s)
put_last_own at v p frame s h =
    own_bind at (plainly (λ p. plain.charged 1 p (gives (tt {0}))) s) (λ _ s. done (with_change at (pushed v) s))
    (lifted_own at (plain.charged 1 s.plain (gives (tt {0}))) s h
    (charged_own at 1 s.plain (gives (tt {0})) h.own (λ u own. own)))
    (λ _ s h. changed_in at (pushed v) (pushed_apart at v p) s h)

pub puts_last : (at : Oid) → PutsOwn at (put_last at)
puts_last at v p frame s u h e = subst (OwnBehind at) e (put_last_own at v p frame s h)

put_key_own : (at : Oid) (v : Value) (frame : Frame) (s : State) → OwnIn at s → OwnBehind at (put_key at v frame s)
put_key_own at v frame s h =
    own_bind at (plainly (λ p. plain.stepped p (gives (tt {0}))) s)
    (λ _ s. on_value (plainly (items.set_item (value.Ref at) v nil) s) (λ _ s. done s))
    (lifted_own at (plain.stepped s.plain (gives (tt {0}))) s h
    (stepped_own at s.plain (gives (tt {0})) h.own (λ u own. own)))
    (λ _ s h. own_bind at (plainly (items.set_item (value.Ref at) v nil) s) (λ _ s. done s)
    (lifted_own at (items.set_item (value.Ref at) v nil s.plain) s h (set_item_own at v nil tt s.plain h.own))
    (λ _ s h. h))

pub puts_key : (at : Oid) → PutsOwn at (put_key at)
puts_key at v p frame s u h e = subst (OwnBehind at) e (put_key_own at v frame s h)
