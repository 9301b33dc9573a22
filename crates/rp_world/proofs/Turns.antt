-- One turn of each loop over what is declared.
use Rattle.std.proofs.Common.{Global, Vec, rules, ◌≡◌, ℕ, ◌+◌, ◌<◌, Bool, true, false, true≢false, cond, if◌then◌else◌, List, [], ◌∷◌, ◌++◌, length, drop, get_or, Option, Some, None, refl, sym, ap, ◌∙◌}
use Rattle.std.specs.List.{All}
use Rattle.std.specs.Map.{lookup}
use Rattle.std.specs.Option.{IfSome, option_map_or}
use Rattle.std.proofs.lemmas.List.Elements.{All-append, All-cons, All-head, All-nil, All-tail, All-weaker}
use Rattle.rp_base.proofs.CallerLemmas.{drop_here, same_text-equal}
use Rattle.rp_base.specs.declared.value.Name.{Name}
use Rattle.rp_base.specs.declared.value.Rock.{Rock}
use Rattle.rp_base.specs.declared.value.Rock.TheVariants as rock
use Rattle.rp_base.specs.declared.value.Value.{Value}
use Rattle.rp_decl.specs.View.{entries_view, field_view, fields_view}
use Rattle.rp_decl.specs.declared.records.ClassDecl.{ClassDecl}
use Rattle.rp_decl.specs.declared.records.Field.{Field}
use Rattle.rp_decl.specs.declared.records.Field.TheFolds.{the_lemmas}
use Rattle.rp_decl.specs.declared.records.Field.TheVariants as variant
use Rattle.rp_decl.specs.Records.{table}
use Rattle.rp_decl.specs.declared.records.ObjectDecl.{ObjectDecl}
use Rattle.rp_dict.specs.Dict.{insert_entry}
use Rattle.rp_meaning.specs.Load.{Made, field_made, list_made, made_in, table_made}
use Rattle.rp_store.specs.Heap.{Owned}
use Rattle.rp_store.specs.Kept.{IsEntry, IsSound}
use Rattle.rp_store.specs.Key.{key_form, same_key, same_name}
use Rattle.rp_store.specs.Object.{Entry, class, dict}
use Rattle.rp_store.specs.Shape.{KeepsShape}
use Rattle.rp_store.specs.Store.{Cells}
use Rattle.rp_store.specs.Writers.{first_written}
use Rattle.rp_store.specs.declared.key.Key.{Key}
use Rattle.rp_store.specs.declared.key.Key.TheVariants as key
use Rattle.rp_world.specs.PlacingSteps.{AreBound, FieldsMade, SlotsMade, classes_placed, fields_placed, object_placed, objects_placed}

-- ---- lists

pub list-turn : (vs new : List Value) (fs : List Field) (i : ℕ) (f : Field) (before after : Cells) (v : Value) (all : Made) → i < length fs → f ≡ get_or fs i f
    → field_made (field_view f) before ≡ (v, after) → new ≡ vs ++ v ∷ [] → list_made vs (fields_view (drop i fs)) before ≡ all → list_made new (fields_view (drop (i + 1) fs)) after ≡ all
list-turn vs new fs i f before after v all within here made pushed whole =
    ap (λ ws. list_made ws (fields_view (drop (i + 1) fs)) after) pushed
    ∙ sym (ap (λ m. list_made (vs ++ m.0 ∷ []) (fields_view (drop (i + 1) fs)) m.1) made)
    ∙ sym (ap (λ l. list_made vs (fields_view l) before) (drop_here fs i f within here))
    ∙ whole

-- ---- dicts

-- what the program has as a table
pub table-view : (v : Vec (List ℕ × Field) Global) → field_view (variant.Table v) ≡ table (entries_view v.items)
table-view v = search (rules, the_lemmas)

text_key : (t : List ℕ) (k : Key) → same_key (key.Text t) k ≡ true → k ≡ key.Text t
text_key t key.Nil h = absurd (true≢false (sym h))
text_key t (key.Number n) h = absurd (true≢false (sym h))
text_key t (key.Text s) h = ap key.Text (sym (same_text-equal t s h))

text_rock : (t : List ℕ) (r : Rock) → key_form r ≡ Some (key.Text t) → r ≡ rock.Text t
text_rock t rock.Nil h = absurd (cc)
text_rock t (rock.Truth true) h = absurd (cc)
text_rock t (rock.Truth false) h = absurd (cc)
text_rock t (rock.Int n) h = absurd (cc)
text_rock t (rock.Text s) h = let same : s ≡ t = cc in ap rock.Text same
text_rock t (rock.Exc k s) h = absurd (cc)
text_rock t (rock.Kind k) h = absurd (cc)
text_rock t (rock.Native f) h = absurd (cc)

module _ (heap : List Owned) (t : List ℕ) where
  -- a text that a dict has is written there as it is
  as_written : (es : List Entry) → All (IsEntry heap) es → first_written (key.Text t) (rock.Text t) es ≡ rock.Text t
  as_written [] all = refl
  as_written (e ∷ es) all = by (same_key (key.Text t) e.0) refl (as_written es (All-tail (IsEntry heap) e es all))
    where
      by : (b : Bool) → same_key (key.Text t) e.0 ≡ b → option_map_or (λ x. x.0) (lookup (same_key (key.Text t)) es) (rock.Text t) ≡ rock.Text t
          → option_map_or (λ x. x.0) (cond b (Some e.1) (lookup (same_key (key.Text t)) es)) (rock.Text t) ≡ rock.Text t
      by true h rest = text_rock t e.1.0 ((All-head (IsEntry heap) e es all).0 ∙ ap Some (text_key t e.0 h))
      by false h rest = rest

  with_text : (v : Value) (es : List Entry) → IsSound heap v → All (IsEntry heap) es → All (IsEntry heap) (insert_entry same_key es (key.Text t) (rock.Text t, v))
  with_text v [] one all = All-cons (IsEntry heap) (key.Text t, (rock.Text t, v)) [] (refl, one) (All-nil (IsEntry heap))
  with_text v (e ∷ es) one all = by (same_key (key.Text t) e.0) refl (with_text v es one (All-tail (IsEntry heap) e es all))
    where
      by : (b : Bool) → same_key (key.Text t) e.0 ≡ b → All (IsEntry heap) (insert_entry same_key es (key.Text t) (rock.Text t, v))
          → All (IsEntry heap) (if b then (e.0, (rock.Text t, v)) ∷ es else e ∷ insert_entry same_key es (key.Text t) (rock.Text t, v))
      by true h rest = All-cons (IsEntry heap) (e.0, (rock.Text t, v)) es (ap Some (sym (text_key t e.0 h)), one) (All-tail (IsEntry heap) e es all)
      by false h rest = All-cons (IsEntry heap) e (insert_entry same_key es (key.Text t) (rock.Text t, v)) (All-head (IsEntry heap) e es all) rest

pub table-turn : (held new : List Entry) (es : List (List ℕ × Field)) (i : ℕ) (e : List ℕ × Field) (before after : Cells) (v : Value) (all : Made) → i < length es → e ≡ get_or es i e
    → field_made (field_view e.1) before ≡ (v, after) → new ≡ insert_entry same_key held (key.Text e.0) (rock.Text e.0, v) → All (IsEntry before.heap) held
    → table_made (dict held) (entries_view (drop i es)) before ≡ all → table_made (dict new) (entries_view (drop (i + 1) es)) after ≡ all
table-turn held new es i e before after v all within here made put sound whole =
    ap (λ t. table_made (dict t) (entries_view (drop (i + 1) es)) after) put
    ∙ sym (ap (λ r. table_made (dict (insert_entry same_key held (key.Text e.0) (r, v))) (entries_view (drop (i + 1) es)) after) (as_written before.heap e.0 held sound))
    ∙ sym (ap (λ m. table_made (dict (insert_entry same_key held (key.Text e.0) (first_written (key.Text e.0) (rock.Text e.0) held, m.0))) (entries_view (drop (i + 1) es)) m.1) made)
    ∙ sym (ap (λ l. table_made (dict held) (entries_view l) before) (drop_here es i e within here))
    ∙ whole

pub entries-turn : (old heap : List Owned) (held new : List Entry) (t : List ℕ) (v : Value) → KeepsShape old heap → All (IsEntry old) held → IsSound heap v
    → new ≡ insert_entry same_key held (key.Text t) (rock.Text t, v) → All (IsEntry heap) new
entries-turn old heap held new t v keeps all one put =
    rw put (with_text heap t v held one (All-weaker (IsEntry old) (IsEntry heap) (λ e h. (h.0, keeps.sound e.1.1 h.1)) held all))

-- ---- fields

pub fields-turn : (fields new : List (Name × Value)) (fs : List (Name × Field)) (i : ℕ) (f : Name × Field) (before after : Cells) (v : Value) (all : FieldsMade) → i < length fs → f ≡ get_or fs i f
    → field_made (field_view f.1) before ≡ (v, after) → new ≡ insert_entry same_name fields f.0 v → fields_placed (drop i fs) (fields, before) ≡ all → fields_placed (drop (i + 1) fs) (new, after) ≡ all
fields-turn fields new fs i f before after v all within here made set whole =
    ap (λ n. fields_placed (drop (i + 1) fs) (n, after)) set
    ∙ sym (ap (λ m. fields_placed (drop (i + 1) fs) (insert_entry same_name fields f.0 m.0, m.1)) made)
    ∙ sym (ap (λ l. fields_placed l (fields, before)) (drop_here fs i f within here))
    ∙ whole

with_field : (heap : List Owned) (name : Name) (v : Value) (fs : List (Name × Value)) → IsSound heap v → All (λ field. IsSound heap field.1) fs → All (λ field. IsSound heap field.1) (insert_entry same_name fs name v)
with_field heap name v [] one all = All-cons (λ field. IsSound heap field.1) (name, v) [] one (All-nil (λ field. IsSound heap field.1))
with_field heap name v (f ∷ fs) one all = by (same_name name f.0) (with_field heap name v fs one (All-tail (λ field. IsSound heap field.1) f fs all))
  where
    by : (b : Bool) → All (λ field. IsSound heap field.1) (insert_entry same_name fs name v) → All (λ field. IsSound heap field.1) (if b then (f.0, v) ∷ fs else f ∷ insert_entry same_name fs name v)
    by true rest = All-cons (λ field. IsSound heap field.1) (f.0, v) fs one (All-tail (λ field. IsSound heap field.1) f fs all)
    by false rest = All-cons (λ field. IsSound heap field.1) f (insert_entry same_name fs name v) (All-head (λ field. IsSound heap field.1) f fs all) rest

pub values-turn : (old heap : List Owned) (fields new : List (Name × Value)) (name : Name) (v : Value) → KeepsShape old heap → All (λ field. IsSound old field.1) fields → IsSound heap v
    → new ≡ insert_entry same_name fields name v → All (λ field. IsSound heap field.1) new
values-turn old heap fields new name v keeps all one set =
    rw set (with_field heap name v fields one (All-weaker (λ field. IsSound old field.1) (λ field. IsSound heap field.1) (λ f h. keeps.sound f.1 h) fields all))

-- ---- classes and objects

pub classes-turn : (slots new : List (Option Value)) (cs : List ClassDecl) (i : ℕ) (c : ClassDecl) (before after : Cells) (v : Value) (all : SlotsMade) → i < length cs → c ≡ get_or cs i c
    → made_in (class c.name true []) before ≡ (v, after) → new ≡ slots ++ Some v ∷ [] → classes_placed (drop i cs) (slots, before) ≡ all → classes_placed (drop (i + 1) cs) (new, after) ≡ all
classes-turn slots new cs i c before after v all within here made pushed whole =
    ap (λ n. classes_placed (drop (i + 1) cs) (n, after)) pushed
    ∙ sym (ap (λ m. classes_placed (drop (i + 1) cs) (slots ++ Some m.0 ∷ [], m.1)) made)
    ∙ sym (ap (λ l. classes_placed l (slots, before)) (drop_here cs i c within here))
    ∙ whole

pub objects-turn : (classes : List ClassDecl) (slots new : List (Option Value)) (os : List ObjectDecl) (i : ℕ) (o : ObjectDecl) (before after : Cells) (v : Value) (all : SlotsMade) → i < length os → o ≡ get_or os i o
    → object_placed classes o before ≡ (v, after) → new ≡ slots ++ Some v ∷ [] → objects_placed classes (drop i os) (slots, before) ≡ all → objects_placed classes (drop (i + 1) os) (new, after) ≡ all
objects-turn classes slots new os i o before after v all within here made pushed whole =
    ap (λ n. objects_placed classes (drop (i + 1) os) (n, after)) pushed
    ∙ sym (ap (λ m. objects_placed classes (drop (i + 1) os) (slots ++ Some m.0 ∷ [], m.1)) made)
    ∙ sym (ap (λ l. objects_placed classes l (slots, before)) (drop_here os i o within here))
    ∙ whole

pub bound-turn : (old heap : List Owned) (slots new : List (Option Value)) (v : Value) → KeepsShape old heap → AreBound old slots → IsSound heap v → new ≡ slots ++ Some v ∷ [] → AreBound heap new
bound-turn old heap slots new v keeps all one pushed =
    let P : Option Value → Type 0 = λ slot. IfSome slot (IsSound heap) in
    rw pushed (All-append P slots (Some v ∷ []) (All-weaker (λ slot. IfSome slot (IsSound old)) P still slots all) (All-cons P (Some v) [] one (All-nil P)))
  where
    still : (slot : Option Value) → IfSome slot (IsSound old) → IfSome slot (IsSound heap)
    still None h = tt
    still (Some v) h = keeps.sound v h
