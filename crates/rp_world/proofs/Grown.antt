-- What is put into the store leaves the objects before it, and names no class that is not declared.
use Rattle.std.proofs.Common.{◌≡◌, ℕ, true, List, [], ◌∷◌, ◌++◌, append-nil, append_assoc, length, map, refl, sym, ap, ◌∙◌}
use Rattle.std.specs.List.{All}
use Rattle.std.proofs.lemmas.List.Elements.{All-append, All-cons, All-nil}
use Rattle.rp_base.specs.declared.value.Name.{Name}
use Rattle.rp_base.specs.declared.value.Oid.{Oid}
use Rattle.rp_base.specs.declared.value.Rock.TheVariants as rock
use Rattle.rp_base.specs.declared.value.Value.{Value}
use Rattle.rp_decl.specs.Records as records
use Rattle.rp_decl.specs.Records.{Entries, Field, Fields}
use Rattle.rp_decl.specs.View.{field_view}
use Rattle.rp_decl.specs.declared.records.ClassDecl.{ClassDecl}
use Rattle.rp_decl.specs.declared.records.Field.{Field as FieldDecl}
use Rattle.rp_decl.specs.declared.records.ObjectDecl.{ObjectDecl}
use Rattle.rp_dict.specs.Dict.{insert_entry}
use Rattle.rp_meaning.specs.Load.{field_made, list_made, made_in, table_made, trusted}
use Rattle.rp_proxy.specs.Held.{AreNamed, IsNamed}
use Rattle.rp_store.specs.Heap.{Owned}
use Rattle.rp_store.specs.Key.{same_key}
use Rattle.rp_store.specs.Object.{Content, Entry, class, dict, instance, list}
use Rattle.rp_store.specs.Store.{Cells}
use Rattle.rp_store.specs.Writers.{first_written}
use Rattle.rp_store.specs.declared.key.Key.TheVariants as key
use Rattle.rp_world.specs.PlacingSteps.{FieldsMade, SlotsMade, and_field, and_slot, class_owned, classes_placed, fields_placed, object_placed, objects_placed, place_of_class}

-- objects are put last, none of them a declared class
pub record Grew (old new : Cells) : Type 0 where
  pub more : List Owned
  pub same : new.heap ≡ old.heap ++ more
  pub named : (names : List (List ℕ)) → AreNamed names more

grew-none : (cells : Cells) → Grew cells cells
grew-none cells = record { more = []; same = sym (append-nil cells.heap); named = λ names. All-nil (λ o. IsNamed names o.content) }

grew-more : (a b c : Cells) → Grew a b → Grew b c → Grew a c
grew-more a b c first second = record {
  more = first.more ++ second.more;
  same = second.same ∙ ap (λ heap. heap ++ second.more) first.same ∙ append_assoc a.heap first.more second.more;
  named = λ names. All-append (λ o. IsNamed names o.content) first.more second.more (first.named names) (second.named names);
}

grew-one : (content : Content) (cells : Cells) → ((names : List (List ℕ)) → IsNamed names content) → Grew cells (made_in content cells).1
grew-one content cells named = record {
  more = record { owner = trusted; content = content } ∷ [];
  same = refl;
  named = λ names. All-cons (λ o. IsNamed names o.content) (record { owner = trusted; content = content }) [] (named names) (All-nil (λ o. IsNamed names o.content));
}

mutual
  pub field-grew : (f : Field) (cells : Cells) → Grew cells (field_made f cells).1
  field-grew (records.int z) cells = grew-none cells
  field-grew (records.text t) cells = grew-none cells
  field-grew (records.truth b) cells = grew-none cells
  field-grew (records.list fs) cells = list-grew [] fs cells
  field-grew (records.table es) cells = table-grew [] es cells

  list-grew : (vs : List Value) (fs : Fields) (cells : Cells) → Grew cells (list_made vs fs cells).1
  list-grew vs records.no_fields cells = grew-one (list vs) cells (λ names. tt)
  list-grew vs (records.field f fs) cells =
      grew-more cells (field_made f cells).1 (list_made (vs ++ (field_made f cells).0 ∷ []) fs (field_made f cells).1).1
      (field-grew f cells) (list-grew (vs ++ (field_made f cells).0 ∷ []) fs (field_made f cells).1)

  table-grew : (table : List Entry) (es : Entries) (cells : Cells) → Grew cells (table_made (dict table) es cells).1
  table-grew table records.no_entries cells = grew-one (dict table) cells (λ names. tt)
  table-grew table (records.entry k f es) cells =
      let next : List Entry = insert_entry same_key table (key.Text k) (first_written (key.Text k) (rock.Text k) table, (field_made f cells).0) in
      grew-more cells (field_made f cells).1 (table_made (dict next) es (field_made f cells).1).1 (field-grew f cells) (table-grew next es (field_made f cells).1)

fields-grew : (fs : List (Name × FieldDecl)) (all : FieldsMade) → Grew all.1 (fields_placed fs all).1
fields-grew [] all = grew-none all.1
fields-grew (f ∷ fs) all =
    let next : FieldsMade = and_field all.0 f.0 (field_made (field_view f.1) all.1) in
    grew-more all.1 next.1 (fields_placed fs next).1 (field-grew (field_view f.1) all.1) (fields-grew fs next)

object-grew : (classes : List ClassDecl) (o : ObjectDecl) (cells : Cells) → Grew cells (object_placed classes o cells).1
object-grew classes o cells =
    let all : FieldsMade = fields_placed o.fields.items ([], cells) in
    grew-more cells all.1 (object_placed classes o cells).1 (fields-grew o.fields.items ([], cells)) (grew-one (instance (place_of_class classes o.class) all.0) all.1 (λ names. tt))

pub objects-grew : (classes : List ClassDecl) (os : List ObjectDecl) (all : SlotsMade) → Grew all.1 (objects_placed classes os all).1
objects-grew classes [] all = grew-none all.1
objects-grew classes (o ∷ os) all =
    let next : SlotsMade = and_slot all.0 (object_placed classes o all.1) in
    grew-more all.1 next.1 (objects_placed classes os next).1 (object-grew classes o all.1) (objects-grew classes os next)

pub classes-heap : (cs : List ClassDecl) (all : SlotsMade) → (classes_placed cs all).1.heap ≡ all.1.heap ++ map class_owned cs
classes-heap [] all = sym (append-nil all.1.heap)
classes-heap (c ∷ cs) all =
    classes-heap cs (and_slot all.0 (made_in (class c.name true []) all.1)) ∙ append_assoc all.1.heap (class_owned c ∷ []) (map class_owned cs)
