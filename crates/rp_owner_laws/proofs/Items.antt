-- What has no row is not done on a list or a dict through a proxy.
use Rattle.std.proofs.Common.{◌≡◌, refl, sym, ap, subst, inl, inr, ℕ, ◌+◌, Bool, true, false, if◌then◌else◌, List, []}
use Rattle.std.proofs.Common.{◌∷◌, ◌++◌, Option, Some, None}
use Rattle.std.specs.Prelude.{nat_lt, unwrap_or}
use Rattle.std.specs.Option.{option_map_or}
use Rattle.rp_base.specs.Names.{GrowsTo, first_words, word_of}
use Rattle.rp_base.specs.declared.operator.BinOp.{BinOp}
use Rattle.rp_base.specs.declared.operator.BinOp.TheVariants.{Add, BitAnd, BitOr, BitXor, FloorDiv, LShift, Mod, Mul}
use Rattle.rp_base.specs.declared.operator.BinOp.TheVariants.{Pow, RShift, Sub}
use Rattle.rp_base.specs.declared.value.ClassTag.{ClassTag}
use Rattle.rp_base.specs.declared.value.ClassTag.TheVariants.{Other}
use Rattle.rp_base.specs.declared.value.Name.{Name}
use Rattle.rp_base.specs.declared.value.Oid.{Oid}
use Rattle.rp_base.specs.declared.value.Value.TheVariants as value
use Rattle.rp_base.specs.declared.word.TheConstants.{DEL_ITEM, SET_ITEM}
use Rattle.rp_checker.specs.Answers.{tag_view}
use Rattle.rp_checker.specs.RowOf.{Row, default, default_names, dict, dict_names, list, reading, row_needing}
use Rattle.rp_checker.specs.RowOf.{sequence_names}
use Rattle.rp_checker.specs.RowOf.{forbidden as no_row}
use Rattle.rp_decl.specs.Document.{public as zope_public}
use Rattle.rp_decl.specs.Records.{Declarations}
use Rattle.rp_decl.specs.Word.{is_among}
use Rattle.rp_proxy.specs.Decide.{class_at, entry_of, logged, outcome, verdict_by, verdict_of}
use Rattle.rp_store.specs.Heap.{tag_at}
use Rattle.rp_trail.specs.Entry.{Entry, Verdict, allowed, denied, forbidden}
use Rattle.rp_items.specs.Items as items
use Rattle.rp_ops.specs.Inplace as inplace
use Rattle.rp_ops.specs.Outcome.{on_value}
use Rattle.rp_meaning.specs.Access.{called}
use Rattle.rp_meaning.specs.Binding.{only}
use Rattle.rp_meaning.specs.Special.{on_special, special}
use Rattle.rp_meaning.specs.Frame.{Frame, asked_for, decided, on_decision, takes}
use Rattle.rp_meaning.specs.Operators.{augmented_name, in_place_name}
use Rattle.rp_meaning.specs.State.{Outcome, State, heap_of, monitor_of, plainly, plainly_done, with_monitor}
use Rattle.rp_owner_laws.specs.Cut.{decided_frame}
use Rattle.rp_owner_laws.specs.Items.{AugmentsNoList, DeletesNoItem, HasNoRow, IsListOrDict, StoresNoItem}
use Rattle.rp_owner_laws.specs.Items.{StoringNamesHaveNoRow}
use Rattle.rp_owner_laws.proofs.Owners.{decided_as}

-- ---- rows

abbrev row_as : Bool → Bool → Row
row_as a b = option_map_or row_needing (if a then Some zope_public else None) (if b then default else no_row)

row_none : (a b : Bool) → a ≡ false → b ≡ false → row_as a b ≡ no_row
row_none true b e f = absurd (cc)
row_none false true e f = absurd (cc)
row_none false false e f = refl

list_forbidden : (d : Declarations) (who : List (List ℕ)) (word : List ℕ) → HasNoRow word
    → verdict_of d who list (reading word) ≡ forbidden
list_forbidden d who word h =
    ap (verdict_by d who) (row_none (is_among sequence_names word) (is_among default_names word) h.lists h.any)

dict_forbidden : (d : Declarations) (who : List (List ℕ)) (word : List ℕ) → HasNoRow word
    → verdict_of d who dict (reading word) ≡ forbidden
dict_forbidden d who word h =
    ap (verdict_by d who) (row_none (is_among dict_names word) (is_among default_names word) h.dicts h.any)

-- ---- decisions

abbrev pub VerdictAt : State → List ℕ → Option ClassTag → Verdict
VerdictAt s word class = verdict_of s.declarations s.who (tag_view s.names (unwrap_or class Other)) (reading word)

pub forbidden_at : (at : Oid) (s : State) (word : List ℕ) → IsListOrDict at s → HasNoRow word
    → VerdictAt s word (tag_at (heap_of s) at) ≡ forbidden
forbidden_at at s word (inl e) h =
    subst (λ (c : Option ClassTag). VerdictAt s word c ≡ forbidden) (sym e) (list_forbidden s.declarations s.who word h)
forbidden_at at s word (inr e) h =
    subst (λ (c : Option ClassTag). VerdictAt s word c ≡ forbidden) (sym e) (dict_forbidden s.declarations s.who word h)

not_done : {A : Type 0} (name : List ℕ) (v : Verdict) (t : State) (go : State → Outcome A) → v ≡ forbidden
    → heap_of (on_decision (outcome name v) t go).state ≡ heap_of t
not_done name (allowed p) t go e = absurd (cc)
not_done name (denied p) t go e = refl
not_done name forbidden t go e = refl

refused : {A : Type 0} (s : State) (full : Bool) (e : Entry) (go : State → Outcome A) → e.verdict ≡ forbidden
    → heap_of (decided (decided_as full (monitor_of s) e) s go).state ≡ heap_of s
refused s true e go h = refl
refused s false e go h = not_done e.name e.verdict (with_monitor (logged (monitor_of s) e) s) go h

asked_in_vain : {A : Type 0} (f : Frame) (n : Name) (at : Oid) (s : State) (go : State → Outcome A) → IsListOrDict at s
    → HasNoRow (word_of s.names n) → heap_of (asked_for (decided_frame f) n (value.Prox at) s go).state ≡ heap_of s
asked_in_vain f n at s go c h =
    refused s (nat_lt s.plain.store.limit (s.plain.store.used + 1))
    (entry_of (monitor_of s) (reading (word_of s.names n)) (class_at (heap_of s) at)) go
    (forbidden_at at s (word_of s.names n) c h)

-- ---- words

pub storing_names_have_no_row : StoringNamesHaveNoRow
unfolding lib.Utf8.encode
storing_names_have_no_row = (
  record { lists = refl; dicts = refl; any = refl },
  record { lists = refl; dicts = refl; any = refl },
  record { lists = refl; dicts = refl; any = refl },
  record { lists = refl; dicts = refl; any = refl },
)

abbrev InPlaceHasNoRow : BinOp → List (List ℕ) → Type 0
InPlaceHasNoRow op names = HasNoRow (word_of names (in_place_name op))

in_place_first : (op : BinOp) (more : List (List ℕ)) → InPlaceHasNoRow op (first_words ++ more)
unfolding lib.Utf8.encode
in_place_first Add more = record { lists = refl; dicts = refl; any = refl }
in_place_first Sub more = record { lists = refl; dicts = refl; any = refl }
in_place_first Mul more = record { lists = refl; dicts = refl; any = refl }
in_place_first FloorDiv more = record { lists = refl; dicts = refl; any = refl }
in_place_first Mod more = record { lists = refl; dicts = refl; any = refl }
in_place_first Pow more = record { lists = refl; dicts = refl; any = refl }
in_place_first BitAnd more = record { lists = refl; dicts = refl; any = refl }
in_place_first BitOr more = record { lists = refl; dicts = refl; any = refl }
in_place_first BitXor more = record { lists = refl; dicts = refl; any = refl }
in_place_first LShift more = record { lists = refl; dicts = refl; any = refl }
in_place_first RShift more = record { lists = refl; dicts = refl; any = refl }

pub in_place_no_row : (op : BinOp) (s : State) → GrowsTo first_words s.names
    → HasNoRow (word_of s.names (in_place_name op))
in_place_no_row op s g = subst (InPlaceHasNoRow op) (sym g.1) (in_place_first op g.0)

pub set_no_row : (s : State) → GrowsTo first_words s.names → HasNoRow (word_of s.names SET_ITEM)
set_no_row s g = subst (λ (names : List (List ℕ)). HasNoRow (word_of names SET_ITEM)) (sym g.1)
    storing_names_have_no_row.0

pub del_no_row : (s : State) → GrowsTo first_words s.names → HasNoRow (word_of s.names DEL_ITEM)
del_no_row s g = subst (λ (names : List (List ℕ)). HasNoRow (word_of names DEL_ITEM)) (sym g.1)
    storing_names_have_no_row.1

-- ---- stores

pub stores_no_item : StoresNoItem
stores_no_item f at i v s c g = asked_in_vain f SET_ITEM at s
    (λ s. on_special (special (heap_of s) (value.Prox at) SET_ITEM)
    (λ m s. called (f.calls m.function (only (m.of ∷ i ∷ v ∷ [])) s))
    (plainly_done (items.set_item (value.Prox at) i v)) s) c (set_no_row s g)

pub deletes_no_item : DeletesNoItem
deletes_no_item f at i s c g = asked_in_vain f DEL_ITEM at s
    (λ s. on_special (special (heap_of s) (value.Prox at) DEL_ITEM)
    (λ m s. called (f.calls m.function (only (m.of ∷ i ∷ [])) s))
    (plainly_done (items.del_item (value.Prox at) i)) s) c (del_no_row s g)

pub augments_no_list : AugmentsNoList
augments_no_list f op at b s c g = asked_in_vain f (in_place_name op) at s
    (λ s. asked_for (decided_frame f) (augmented_name (heap_of s) op (value.Prox at)) b s
    (λ s. on_value (plainly (inplace.inplace f.side op (value.Prox at) b) s) (λ v s. takes v (decided_frame f) s))) c
    (in_place_no_row op s g)
