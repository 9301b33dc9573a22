-- In a document that has no faults all names are names, all that is named is known, and no object has the name of a class.
use Rattle.std.proofs.Common.{◌≡◌, ℕ, Bool, true, false, not, cond, List, [], ◌∷◌, ◌++◌, map, flat_map, filter, ◌||◌, chars, codes, encode_utf8_all, is_some, nat_eq, Option, Some, None, option_map, string_bytes, IfSome, Ordering, Less, Equal, Greater, is_eq, nat_cmp, refl, sym, ap, subst, ◌∙◌, rules}
use Rattle.std.specs.BTreeMap.{is_at}
use Rattle.std.specs.Cmp.Lexicographic.{bytes_decides, pointwise, slice_cmp, texts_ties}
use Rattle.std.specs.List.{AllByRecursion}
use Rattle.std.specs.Map.{lookup}
use Rattle.std.specs.Option.{option_map_or}
use Rattle.std.specs.Ordering.{match_ordering}
use Rattle.std.proofs.lemmas.Bool.{and_parts}
use Rattle.std.proofs.lemmas.List.Elements.{All-from_recursion}
use Rattle.std.proofs.lemmas.Str.{IsUtf8-string_bytes, encodes-chars}
use Rattle.rp_base.specs.Same.{same_text}
use Rattle.toml.specs.Data.{Data, string, integer, float, boolean, datetime, array, table, Items, no_items, item, Members, no_members, member, get_member}
use Rattle.toml.specs.View.{members_view, view}
use Rattle.toml.specs.declared.value.Value.{Value, out-Value, roll-Value, roll-out-Value, the_lemmas}
use Rattle.toml.specs.declared.value.Value.TheOpen as value
use Rattle.toml.specs.declared.value.Value.TheOpen.{Value-F}
use Rattle.toml.proofs.Views.{Entry, view-lookup}
use Rattle.rp_decl.specs.Apart.{AreNamesApart}
use Rattle.rp_decl.specs.Consistency.{IsConsistent, class_faults, class_names, group_ids, is_on_ring, likes, needed, role_ids, unknown}
use Rattle.rp_decl.specs.Document.{class_of, each_at, each_member, item_texts, members_of, named_field, object_of, records_of, row_of, text_of, texts_of}
use Rattle.rp_decl.specs.Reading.{IsAllKnown, IsAmong, IsKnownBy, IsKnownClass, IsKnownField, IsKnownGroup, IsKnownObject, IsKnownPrincipal, IsKnownRow, IsName}
use Rattle.rp_decl.specs.Records.{Class, Declarations, Object, RowText}
use Rattle.rp_decl.specs.Shape.{Path, Shape, all_members, are_texts, class_keys, deepest, document_keys, entries, entry_member, faults_of, field_value, is_array, is_class_name, is_object_name, is_text, keyed, keyed_member, object, object_keys, rows, table_of, text, unless, within}
use Rattle.rp_decl.specs.Word.{is_among, is_declared_name, is_id}
use Rattle.rp_decl.specs.declared.known_ids.Known.{Known}

-- lists of which each element has a fact

both : {A : Type 0} (P Q : A → Type 0) (xs : List A) → AllByRecursion P xs → AllByRecursion Q xs → AllByRecursion (λ x. P x × Q x) xs
both P Q [] p q = tt
both P Q (x ∷ xs) p q = ((p.0, q.0), both P Q xs p.1 q.1)

weaker : {A : Type 0} (P Q : A → Type 0) → ((x : A) → P x → Q x) → (xs : List A) → AllByRecursion P xs → AllByRecursion Q xs
weaker P Q f [] p = tt
weaker P Q f (x ∷ xs) p = (f x p.0, weaker P Q f xs p.1)

fronts : {A : Type 0} (P : A → Type 0) (xs ys : List A) → AllByRecursion P (xs ++ ys) → AllByRecursion P xs × AllByRecursion P ys
fronts P [] ys p = (tt, p)
fronts P (x ∷ xs) ys p = let (front, back) = fronts P xs ys p.1 in ((p.0, front), back)

joined : {A : Type 0} (P : A → Type 0) (xs ys : List A) → AllByRecursion P xs → AllByRecursion P ys → AllByRecursion P (xs ++ ys)
joined P [] ys p q = q
joined P (x ∷ xs) ys p q = (p.0, joined P xs ys p.1 q)

flat_parts : {A B : Type 0} (P : B → Type 0) (f : A → List B) (xs : List A) → AllByRecursion P (flat_map f xs) → AllByRecursion (λ x. AllByRecursion P (f x)) xs
flat_parts P f [] p = tt
flat_parts P f (x ∷ xs) p = let (front, back) = fronts P (f x) (flat_map f xs) p in (front, flat_parts P f xs back)

flat_joined : {A B : Type 0} (P : B → Type 0) (f : A → List B) (xs : List A) → AllByRecursion (λ x. AllByRecursion P (f x)) xs → AllByRecursion P (flat_map f xs)
flat_joined P f [] p = tt
flat_joined P f (x ∷ xs) p = joined P (f x) (flat_map f xs) p.0 (flat_joined P f xs p.1)

map_parts : {A B : Type 0} (P : B → Type 0) (f : A → B) (xs : List A) → AllByRecursion P (map f xs) → AllByRecursion (λ x. P (f x)) xs
map_parts P f [] p = tt
map_parts P f (x ∷ xs) p = (p.0, map_parts P f xs p.1)

map_joined : {A B : Type 0} (P : B → Type 0) (f : A → B) (xs : List A) → AllByRecursion (λ x. P (f x)) xs → AllByRecursion P (map f xs)
map_joined P f [] p = tt
map_joined P f (x ∷ xs) p = (p.0, map_joined P f xs p.1)

filtered : {A : Type 0} (P : A → Type 0) (test : A → Bool) (xs : List A) → AllByRecursion P xs → AllByRecursion P (filter test xs)
filtered P test [] p = tt
filtered P test (x ∷ xs) p = by (test x) (filtered P test xs p.1)
  where
    by : (b : Bool) → AllByRecursion P (filter test xs) → AllByRecursion P (cond b (x ∷ filter test xs) (filter test xs))
    by true rest = (p.0, rest)
    by false rest = rest

nil_parts : {A : Type 0} (xs ys : List A) → xs ++ ys ≡ [] → (xs ≡ []) × (ys ≡ [])
nil_parts [] ys h = (refl, h)
nil_parts (x ∷ xs) ys h = cc

-- where nothing is unknown, each text is known
known_from : (known xs : List (List ℕ)) → unknown known xs ≡ [] → AllByRecursion (IsAmong known) xs
known_from known [] h = tt
known_from known (x ∷ xs) h = by (is_among known x) refl (known_from known xs) h
  where
    by : (b : Bool) → is_among known x ≡ b → (unknown known xs ≡ [] → AllByRecursion (IsAmong known) xs)
        → cond (not b) (x ∷ unknown known xs) (unknown known xs) ≡ [] → IsAmong known x × AllByRecursion (IsAmong known) xs
    by true e rest h = (e, rest h)
    by false e rest h = cc

-- members of which each has a fact

abbrev EachMember : (List ℕ → Data → Type 0) → Members → Type 0
EachMember P no_members = Unit {0}
EachMember P (member k d ms) = P k d × EachMember P ms

each_fine : (faults : List ℕ → Data → List Path) (ms : Members) → all_members faults ms ≡ [] → EachMember (λ k d. faults k d ≡ []) ms
each_fine faults no_members h = tt
each_fine faults (member k d ms) h = let (here, rest) = nil_parts (faults k d) (all_members faults ms) h in (here, each_fine faults ms rest)

table_fine : (faults : List ℕ → Data → List Path) (path : Path) (d : Data) → table_of faults path d ≡ [] → EachMember (λ k e. faults k e ≡ []) (members_of d)
table_fine faults path (table ms) h = each_fine faults ms h
table_fine faults path (string s) h = cc
table_fine faults path (integer z) h = cc
table_fine faults path (float x) h = cc
table_fine faults path (boolean b) h = cc
table_fine faults path (datetime dt) h = cc
table_fine faults path (array ds) h = cc

-- what each member has, the member at a key has
member_at : (P : List ℕ → Data → Type 0) (ms : Members) → EachMember P ms → (key : List ℕ) (d : Data) → get_member key ms ≡ Some d → P key d
member_at P no_members all key d h = cc
member_at P (member l e ms) all key d h = by (slice_cmp nat_cmp key l) refl (member_at P ms all.1 key d) h
  where
    by : (o : Ordering) → slice_cmp nat_cmp key l ≡ o → (get_member key ms ≡ Some d → P key d)
        → match_ordering o (get_member key ms) (Some e) (get_member key ms) ≡ Some d → P key d
    by Less q rest h = rest h
    by Greater q rest h = rest h
    by Equal q rest h =
        let same : e ≡ d = cc in
        let keys : key ≡ l = (bytes_decides key l).0 (texts_ties key l ∙ ap is_eq q) in
        subst (λ k. P k d) (sym keys) (subst (P l) same all.0)

each_record : {A : Type 0} (P : List ℕ → Data → Type 0) (Q : A → Type 0) (reader : List ℕ → Data → A) → ((k : List ℕ) (d : Data) → P k d → Q (reader k d)) → (ms : Members)
    → EachMember P ms → AllByRecursion Q (each_member reader ms)
each_record P Q reader f no_members all = tt
each_record P Q reader f (member k d ms) all = (f k d all.0, each_record P Q reader f ms all.1)

-- the records at a key have a fact, where the value there has one
records_fine : {A : Type 0} (Q : A → Type 0) (reader : List ℕ → Data → A) (key : List ℕ) (ms : Members)
    → ((d : Data) → get_member key ms ≡ Some d → AllByRecursion Q (each_member reader (members_of d))) → AllByRecursion Q (each_at reader key ms)
records_fine Q reader key ms f = by (get_member key ms) f
  where
    by : (o : Option Data) → ((d : Data) → o ≡ Some d → AllByRecursion Q (each_member reader (members_of d))) → AllByRecursion Q (option_map_or (λ d. each_member reader (members_of d)) o [])
    by None f = tt
    by (Some d) f = f d refl

passes : (b : Bool) (path : Path) → unless b path ≡ [] → b ≡ true
passes true path h = refl
passes false path h = cc

text_passes : (test : List ℕ → Bool) (d : Data) → is_text test d ≡ true → test (text_of d) ≡ true
text_passes test (string s) h = h
text_passes test (integer z) h = cc
text_passes test (float x) h = cc
text_passes test (boolean b) h = cc
text_passes test (datetime dt) h = cc
text_passes test (array ds) h = cc
text_passes test (table ms) h = cc

items_pass : (test : List ℕ → Bool) (ds : Items) → are_texts test ds ≡ true → AllByRecursion (λ t. test t ≡ true) (item_texts ds)
items_pass test no_items h = tt
items_pass test (item d ds) h =
    let (here, rest) = and_parts (is_text test d) (are_texts test ds) h in (text_passes test d here, items_pass test ds rest)

array_passes : (test : List ℕ → Bool) (d : Data) → is_array test d ≡ true → AllByRecursion (λ t. test t ≡ true) (texts_of d)
array_passes test (array ds) h = items_pass test ds h
array_passes test (string s) h = cc
array_passes test (integer z) h = cc
array_passes test (float x) h = cc
array_passes test (boolean b) h = cc
array_passes test (datetime dt) h = cc
array_passes test (table ms) h = cc

text_fine : (test : List ℕ → Bool) (path : Path) (d : Data) → text test path d ≡ [] → test (text_of d) ≡ true
text_fine test path d h = text_passes test d (passes (is_text test d) path h)

-- the entries of a table have names that pass the test, and values of the shape
entries_fine : {A : Type 0} (Q : A → Type 0) (reader : List ℕ → Data → A) (test : List ℕ → Bool) (shape : Shape) (path : Path)
    → ((k : List ℕ) (e : Data) → test (chars k) ≡ true → shape (within path k) e ≡ [] → Q (reader k e))
    → (d : Data) → entries test shape path d ≡ [] → AllByRecursion Q (each_member reader (members_of d))
entries_fine Q reader test shape path f d h =
    each_record (λ k e. entry_member test shape path k e ≡ []) Q reader
    (λ k e fine. let (name, value) = nil_parts (unless (test (chars k)) (within path k)) (shape (within path k) e) fine in f k e (passes (test (chars k)) (within path k) name) value)
    (members_of d) (table_fine (entry_member test shape path) path d h)

rows_fine : (path : Path) (d : Data) → rows path d ≡ [] → AllByRecursion (λ row. IsName row.0) (each_member row_of (members_of d))
rows_fine path d h = entries_fine (λ row. IsName row.0) row_of is_declared_name (text is_id) path (λ k e name value. name) d h

-- the names in a class
record IsNamedClass (c : Class) : Type 0 where
  name : IsName c.name
  like : IfSome c.like IsName
  get : AllByRecursion (λ row. IsName row.0) c.get
  set : AllByRecursion (λ row. IsName row.0) c.set

class_fine : (path : Path) (k : List ℕ) (d : Data) → is_class_name (chars k) ≡ true → keyed class_keys path d ≡ [] → IsNamedClass (class_of k d)
class_fine path k d name h =
    let ms = members_of d in
    let fine = member_at (λ k e. keyed_member class_keys path k e ≡ []) ms (table_fine (keyed_member class_keys path) path d h) in
    record {
      name = (and_parts (is_declared_name (chars k)) _ name).0;
      like = like (get_member (codes "like") ms) (λ e at. text_fine is_declared_name _ e (fine (codes "like") e at));
      get = records_fine (λ row. IsName row.0) row_of (codes "get") ms (λ e at. rows_fine _ e (fine (codes "get") e at));
      set = records_fine (λ row. IsName row.0) row_of (codes "set") ms (λ e at. rows_fine _ e (fine (codes "set") e at));
    }
  where
    like : (o : Option Data) → ((e : Data) → o ≡ Some e → is_declared_name (text_of e) ≡ true) → IfSome (option_map text_of o) IsName
    like None f = tt
    like (Some e) f = f e refl

object_fine : (ms : Members) (path : Path) (k : List ℕ) (d : Data) → is_object_name ms (chars k) ≡ true → object path d ≡ [] → IsKnownObject (object_of k d)
object_fine ms path k (table os) name h =
    let (keys, present) = nil_parts (keyed object_keys path (table os)) (unless (is_some (get_member (codes "class") os)) (within path (codes "class"))) h in
    let fine = member_at (λ k e. keyed_member object_keys path k e ≡ []) os (each_fine (keyed_member object_keys path) os keys) in
    record {
      name = (and_parts (is_declared_name (chars k)) _ name).0;
      class = class (get_member (codes "class") os) (passes _ _ present) (λ e at. text_fine is_declared_name _ e (fine (codes "class") e at));
      fields = records_fine IsKnownField named_field (codes "fields") os
          (λ e at. entries_fine IsKnownField named_field is_declared_name (field_value deepest) _ (λ k v name value. name) e (fine (codes "fields") e at));
    }
  where
    class : (o : Option Data) → is_some o ≡ true → ((e : Data) → o ≡ Some e → is_declared_name (text_of e) ≡ true) → IsName (option_map_or text_of o [])
    class None p f = cc
    class (Some e) p f = f e refl
object_fine ms path k (string s) name h = cc
object_fine ms path k (integer z) name h = cc
object_fine ms path k (float x) name h = cc
object_fine ms path k (boolean b) name h = cc
object_fine ms path k (datetime dt) name h = cc
object_fine ms path k (array ds) name h = cc

-- the names in the records of a document
record AreNamed (d : Declarations) : Type 0 where
  expose : AllByRecursion IsName d.expose
  classes : AllByRecursion IsNamedClass d.classes
  objects : AllByRecursion IsKnownObject d.objects

named_fine : (version : ℕ) (ms : Members) → faults_of version ms ≡ [] → AreNamed (records_of ms)
named_fine version ms h =
    let fine = member_at (λ k e. keyed_member (document_keys version ms) [] k e ≡ []) ms (each_fine (keyed_member (document_keys version ms) []) ms h) in
    record {
      expose = expose (get_member (codes "expose") ms) (λ e at. array_passes is_declared_name e (passes (is_array is_declared_name e) _ (fine (codes "expose") e at)));
      classes = records_fine IsNamedClass class_of (codes "class") ms
          (λ e at. entries_fine IsNamedClass class_of is_class_name (keyed class_keys) (within [] (codes "class")) (λ k c name value. class_fine _ k c name value) e (fine (codes "class") e at));
      objects = records_fine IsKnownObject object_of (codes "object") ms
          (λ e at. entries_fine IsKnownObject object_of (is_object_name ms) object (within [] (codes "object")) (λ k o name value. object_fine ms _ k o name value) e (fine (codes "object") e at));
    }
  where
    expose : (o : Option Data) → ((e : Data) → o ≡ Some e → AllByRecursion IsName (texts_of e)) → AllByRecursion IsName (option_map_or texts_of o [])
    expose None f = tt
    expose (Some e) f = f e refl

known_rows : (known : Known) (rows : List RowText) → AllByRecursion (λ row. IsName row.0) rows → AllByRecursion (IsAmong known.permissions) (needed rows) → AllByRecursion (IsKnownRow known) rows
known_rows known rows names perms = both (λ row. IsName row.0) (λ row. IsAmong known.permissions row.1) rows names (map_parts (IsAmong known.permissions) (λ row. row.1) rows perms)

-- in a document without faults all is known
pub all_known : (version : ℕ) (ms : Members) → faults_of version ms ≡ [] → IsConsistent (records_of ms) → (known : Known) → IsKnownBy known (records_of ms) → IsAllKnown known (records_of ms)
all_known version ms h consistent known by =
    let d = records_of ms in
    let named = named_fine version ms h in
    let permissions = known_from d.permissions _ consistent.permissions_declared in
    let (but_principals, principal_permissions) = fronts (IsAmong d.permissions) _ (flat_map (λ p. p.allow ++ p.deny) d.principals) permissions in
    let (but_groups, group_permissions) = fronts (IsAmong d.permissions) _ (flat_map (λ g. g.allow ++ g.deny) d.groups) but_principals in
    let (class_permissions, role_permissions) = fronts (IsAmong d.permissions) (flat_map (λ c. needed c.get ++ needed c.set) d.classes) (flat_map (λ r. r.permissions) d.roles) but_groups in
    let groups = known_from (group_ids d) _ consistent.groups_declared in
    let roles = known_from (role_ids d) _ consistent.roles_declared in
    let (group_roles, principal_roles) = fronts (IsAmong (role_ids d)) (flat_map (λ g. g.roles) d.groups) (flat_map (λ p. p.roles) d.principals) roles in
    record {
      expose = named.expose;
      classes = weaker _ (IsKnownClass known)
          (λ c facts. let (get, set) = fronts (IsAmong d.permissions) (needed c.get) (needed c.set) facts.1 in
          record { name = facts.0.name; like = facts.0.like; get = known_rows known c.get facts.0.get (rw by.permissions get); set = known_rows known c.set facts.0.set (rw by.permissions set) })
          d.classes (both IsNamedClass (λ c. AllByRecursion (IsAmong d.permissions) (needed c.get ++ needed c.set)) d.classes named.classes (flat_parts (IsAmong d.permissions) (λ c. needed c.get ++ needed c.set) d.classes class_permissions));
      roles = rw by.permissions (flat_parts (IsAmong d.permissions) (λ r. r.permissions) d.roles role_permissions);
      groups = weaker _ (IsKnownGroup known)
          (λ g facts. let (allow, deny) = fronts (IsAmong d.permissions) g.allow g.deny facts.1 in
          record { roles = rw by.roles facts.0; allow = rw by.permissions allow; deny = rw by.permissions deny })
          d.groups (both (λ g. AllByRecursion (IsAmong (role_ids d)) g.roles) (λ g. AllByRecursion (IsAmong d.permissions) (g.allow ++ g.deny)) d.groups
          (flat_parts (IsAmong (role_ids d)) (λ g. g.roles) d.groups group_roles) (flat_parts (IsAmong d.permissions) (λ g. g.allow ++ g.deny) d.groups group_permissions));
      principals = weaker _ (IsKnownPrincipal known)
          (λ p facts. let (allow, deny) = fronts (IsAmong d.permissions) p.allow p.deny facts.1 in
          record { groups = rw by.groups facts.0.0; roles = rw by.roles facts.0.1; allow = rw by.permissions allow; deny = rw by.permissions deny })
          d.principals (both (λ p. AllByRecursion (IsAmong (group_ids d)) p.groups × AllByRecursion (IsAmong (role_ids d)) p.roles) (λ p. AllByRecursion (IsAmong d.permissions) (p.allow ++ p.deny)) d.principals
          (both (λ p. AllByRecursion (IsAmong (group_ids d)) p.groups) (λ p. AllByRecursion (IsAmong (role_ids d)) p.roles) d.principals
          (flat_parts (IsAmong (group_ids d)) (λ p. p.groups) d.principals groups) (flat_parts (IsAmong (role_ids d)) (λ p. p.roles) d.principals principal_roles))
          (flat_parts (IsAmong d.permissions) (λ p. p.allow ++ p.deny) d.principals principal_permissions));
      objects = named.objects;
    }

like_names : (like : Option (List ℕ)) → IfSome like IsName → AllByRecursion IsName (option_map_or (λ name. name ∷ []) like [])
like_names None h = tt
like_names (Some name) h = (h, tt)

-- the classes that are told as faults have names
pub class_faults-named : (version : ℕ) (ms : Members) → faults_of version ms ≡ [] → AllByRecursion IsName (class_faults (records_of ms))
class_faults-named version ms h =
    let d = records_of ms in
    let named = named_fine version ms h in
    let names = map_joined IsName (λ c. c.name) d.classes (weaker IsNamedClass (λ c. IsName c.name) (λ c n. n.name) d.classes named.classes) in
    let likes_named = flat_joined IsName likes d.classes (weaker IsNamedClass (λ c. AllByRecursion IsName (likes c)) (λ c n. like_names c.like n.like) d.classes named.classes) in
    let objects = map_joined IsName (λ o. o.class) d.objects (weaker IsKnownObject (λ o. IsName o.class) (λ o n. n.class) d.objects named.objects) in
    joined IsName (unknown (class_names d) (flat_map likes d.classes ++ map (λ o. o.class) d.objects)) (filter (is_on_ring d) (class_names d))
    (filtered IsName (λ t. not (is_among (class_names d) t)) (flat_map likes d.classes ++ map (λ o. o.class) d.objects) (joined IsName (flat_map likes d.classes) (map (λ o. o.class) d.objects) likes_named objects))
    (filtered IsName (is_on_ring d) (class_names d) names)

-- a name that is the key of no member is the name of no class
absent : (es : List Entry) (name : List ℕ) → get_member (encode_utf8_all name) (members_view es) ≡ None → is_among (map (λ c. c.name) (each_member class_of (members_view es))) name ≡ false
absent [] name h = refl
absent (e ∷ es) name h =
    let key = string_bytes e.0 in
    let told : same_text name (chars key) ≡ is_eq (slice_cmp nat_cmp (encode_utf8_all name) key) =
    ap (pointwise nat_eq (encode_utf8_all name)) (encodes-chars key (IsUtf8-string_bytes e.0)) ∙ texts_ties (encode_utf8_all name) key in
    by (slice_cmp nat_cmp (encode_utf8_all name) key) told (absent es name) h
  where
    by : (o : Ordering) → same_text name (chars (string_bytes e.0)) ≡ is_eq o
        → (get_member (encode_utf8_all name) (members_view es) ≡ None → is_among (map (λ c. c.name) (each_member class_of (members_view es))) name ≡ false)
        → match_ordering o (get_member (encode_utf8_all name) (members_view es)) (Some (view e.1)) (get_member (encode_utf8_all name) (members_view es)) ≡ None
        → (same_text name (chars (string_bytes e.0)) || is_among (map (λ c. c.name) (each_member class_of (members_view es))) name) ≡ false
    by Less told rest h = rw (told, rest h) refl
    by Equal told rest h = cc
    by Greater told rest h = rw (told, rest h) refl

-- the member of a table that stands for a name
abbrev class_entry : List ℕ → Data → Option Data
class_entry name d = get_member (encode_utf8_all name) (members_of d)

-- the members of a value are the entries of a map
entries_in : (v : Value) → (es : List Entry) × (members_of (view v) ≡ members_view es)
entries_in v = subst (λ (v : Value). (es : List Entry) × (members_of (view v) ≡ members_view es)) (roll-out-Value v) (by (out-Value v))
  where
    by : (f : Value-F Value) → (es : List Entry) × (members_of (view (roll-Value f)) ≡ members_view es)
    by (value.String s) = ([], search (rules, the_lemmas))
    by (value.Integer z) = ([], search (rules, the_lemmas))
    by (value.Float x) = ([], search (rules, the_lemmas))
    by (value.Boolean b) = ([], search (rules, the_lemmas))
    by (value.Datetime dt) = ([], search (rules, the_lemmas))
    by (value.Array items) = ([], search (rules, the_lemmas))
    by (value.Table m) = (m.entries, search (rules, the_lemmas))

absent_from : (v : Value) (name : List ℕ) → class_entry name (view v) ≡ None → is_among (map (λ c. c.name) (each_member class_of (members_of (view v)))) name ≡ false
absent_from v name h =
    let (es, same) = entries_in v in
    ap (λ ms. is_among (map (λ c. c.name) (each_member class_of ms)) name) same ∙ absent es name (ap (get_member (encode_utf8_all name)) (sym same) ∙ h)

no_member : (o : Option Data) → not (is_some o) ≡ true → o ≡ None
no_member None h = refl
no_member (Some d) h = cc

-- the name of an object is that of no class
apart_from_classes : (es : List Entry) (name : List ℕ) → is_object_name (members_view es) name ≡ true → is_among (class_names (records_of (members_view es))) name ≡ false
apart_from_classes es name h =
    let classes = lookup (is_at (λ k. slice_cmp nat_cmp (codes "class") (string_bytes k))) es in
    let found : option_map view classes ≡ get_member (codes "class") (members_view es) = view-lookup (codes "class") es in
    let free = no_member _ (and_parts (is_declared_name name) _ h).1 in
    ap (λ o. is_among (map (λ c. c.name) (option_map_or (λ d. each_member class_of (members_of d)) o [])) name) (sym found)
    ∙ by classes (ap (λ o. option_map_or (class_entry name) o None) found ∙ free)
  where
    by : (o : Option Value) → option_map_or (class_entry name) (option_map view o) None ≡ None
        → is_among (map (λ c. c.name) (option_map_or (λ d. each_member class_of (members_of d)) (option_map view o) [])) name ≡ false
    by None h = refl
    by (Some v) h = absent_from v name h

-- no object of a document without faults has the name of a declared class
pub names_apart : (version : ℕ) (es : List Entry) → faults_of version (members_view es) ≡ [] → AreNamesApart (records_of (members_view es))
names_apart version es h =
    let ms = members_view es in
    let d = records_of ms in
    let fine = member_at (λ k e. keyed_member (document_keys version ms) [] k e ≡ []) ms (each_fine (keyed_member (document_keys version ms) []) ms h) in
    let Apart : Object → Type 0 = λ o. is_among (class_names d) o.name ≡ false in
    record {
      objects = All-from_recursion Apart d.objects (records_fine Apart object_of (codes "object") ms
          (λ e at. entries_fine Apart object_of (is_object_name ms) object (within [] (codes "object")) (λ k o name value. apart_from_classes es (chars k) name) e (fine (codes "object") e at)));
    }
