-- The names with the words of a record, of several and of all, where its parts are read one after another.
use Rattle.std.proofs.Common.{◌≡◌, ◌∙◌, refl, ap, ℕ, List, [], ◌∷◌, ◌++◌, map, flat_map}
use Rattle.std.proofs.lemmas.List.Concat.{flat_map_single}
use Rattle.rp_base.specs.Names.{with_word, with_words}
use Rattle.rp_base.proofs.CallerLemmas.{with_words-then}
use Rattle.rp_decl.specs.Consistency.{likes}
use Rattle.rp_decl.specs.DeclaredWords.{class_words, declared_words, object_words}
use Rattle.rp_decl.specs.Records.{Class, Declarations, Object}

-- words that are the first parts of some pairs
first_parts : {A : Type 0} (old new : List (List ℕ)) (pairs : List (List ℕ × A)) → new ≡ with_words old (flat_map (λ pair. pair.0 ∷ []) pairs) → new ≡ with_words old (map (λ pair. pair.0) pairs)
first_parts {A = A} old new pairs read = read ∙ ap (with_words old) (flat_map_single {X = List ℕ × A} {A = List ℕ} (λ pair. pair.0) pairs)

pub class-interned : (c : Class) (n0 n1 n2 n3 n4 : List (List ℕ)) → n1 ≡ with_words n0 (flat_map (λ row. row.0 ∷ []) c.get) → n2 ≡ with_words n1 (flat_map (λ row. row.0 ∷ []) c.set)
    → n3 ≡ with_words n2 (likes c) → n4 ≡ with_word n3 c.name → n4 ≡ with_words n0 (class_words c)
class-interned c n0 n1 n2 n3 n4 get set like name =
    let got : List (List ℕ) = map (λ row. row.0) c.get in
    let put : List (List ℕ) = map (λ row. row.0) c.set in
    let rows = with_words-then n0 n1 n2 got put (first_parts n0 n1 c.get get) (first_parts n1 n2 c.set set) in
    with_words-then n0 n3 n4 (got ++ put ++ likes c) (c.name ∷ []) (with_words-then n0 n2 n3 (got ++ put) (likes c) rows like) name

pub object-interned : (o : Object) (n0 n1 n2 n3 : List (List ℕ)) → n1 ≡ with_words n0 (flat_map (λ field. field.0 ∷ []) o.fields) → n2 ≡ with_word n1 o.class → n3 ≡ with_word n2 o.name
    → n3 ≡ with_words n0 (object_words o)
object-interned o n0 n1 n2 n3 fields class name =
    let fielded : List (List ℕ) = map (λ field. field.0) o.fields in
    with_words-then n0 n1 n3 fielded (o.class ∷ o.name ∷ []) (first_parts n0 n1 o.fields fields) (name ∙ ap (λ n. with_word n o.name) class)

-- records without names
no_words : {A : Type 0} (xs : List A) (old new : List (List ℕ)) → new ≡ with_words old (flat_map (λ x. []) xs) → new ≡ old
no_words [] old new read = read
no_words (x ∷ xs) old new read = no_words xs old new read

pub declared-interned : (d : Declarations) (n0 n1 n2 n3 n4 n5 n6 : List (List ℕ)) → n1 ≡ with_words n0 d.expose → n2 ≡ with_words n1 (flat_map class_words d.classes)
    → n3 ≡ with_words n2 (flat_map (λ r. []) d.roles) → n4 ≡ with_words n3 (flat_map (λ g. []) d.groups) → n5 ≡ with_words n4 (flat_map (λ p. []) d.principals)
    → n6 ≡ with_words n5 (flat_map object_words d.objects) → n6 ≡ with_words n0 (declared_words d)
declared-interned d n0 n1 n2 n3 n4 n5 n6 expose classes roles groups principals objects =
    let classed = flat_map class_words d.classes in
    let made = flat_map object_words d.objects in
    let same = no_words d.principals n4 n5 principals ∙ no_words d.groups n3 n4 groups ∙ no_words d.roles n2 n3 roles in
    with_words-then n0 n2 n6 (d.expose ++ classed) made (with_words-then n0 n1 n2 d.expose classed expose classes) (objects ∙ ap (λ n. with_words n made) same)
