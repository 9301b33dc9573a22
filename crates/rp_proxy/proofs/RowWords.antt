-- The rows of declarations that were read into names of the program are for names that have a word.
use Rattle.std.proofs.Common.{◌≡◌, ◌≢◌, ℕ, List, [], ◌∷◌, map, Option, None, Some}
use Rattle.std.proofs.lemmas.List.Elements.{All-cons, All-head, All-nil, All-tail}
use Rattle.std.specs.List.{All}
use Rattle.rp_base.specs.Identifier.{IsIdentifier}
use Rattle.rp_base.specs.declared.value.Name.{Name}
use Rattle.rp_checker.specs.Answers.{HasWords, IsForWord}
use Rattle.rp_decl.specs.Places.{IsClassHeld, IsHeld, IsHeldBy}
use Rattle.rp_decl.specs.View.{Placed, class_view, declarations_view, name_text, row_text}
use Rattle.rp_decl.specs.declared.records.ClassDecl.{ClassDecl}
use Rattle.rp_decl.specs.declared.records.Perm.{Perm}

identifier-some : (word : List ℕ) → IsIdentifier word → word ≢ []
identifier-some [] is e = let none : ◌≡◌ {A = Option (List ℕ)} None (Some []) = is in cc
identifier-some (c ∷ cs) is e = cc

row-words : (names permissions : List (List ℕ)) (rows : List (Name × Perm)) → All IsIdentifier names → All (λ row. IsHeld names row.0) rows → All IsForWord (map (row_text names permissions) rows)
row-words names permissions [] words held = All-nil IsForWord
row-words names permissions (row ∷ rows) words held =
    let first : IsForWord (row_text names permissions row) =
    identifier-some (name_text names row.0) (words row.0.0 [] (All-head (λ row. IsHeld names row.0) row rows held)) in
    All-cons IsForWord (row_text names permissions row) (map (row_text names permissions) rows) first
    (row-words names permissions rows words (All-tail (λ row. IsHeld names row.0) row rows held))

class-words : (names permissions : List (List ℕ)) (classes : List ClassDecl) → All IsIdentifier names → All (IsClassHeld names) classes → All HasWords (map (class_view names permissions) classes)
class-words names permissions [] words held = All-nil HasWords
class-words names permissions (c ∷ cs) words held =
    let here : IsClassHeld names c = All-head (IsClassHeld names) c cs held in
    let first : HasWords (class_view names permissions c) = record {
      get = row-words names permissions c.get.items words here.get;
      set = row-words names permissions c.set.items words here.set;
    } in
    All-cons HasWords (class_view names permissions c) (map (class_view names permissions) cs) first
    (class-words names permissions cs words (All-tail (IsClassHeld names) c cs held))

pub declared-words : (names : List (List ℕ)) (d : Placed) → All IsIdentifier names → IsHeldBy names d → All HasWords (declarations_view names d).classes
declared-words names d words held = class-words names d.permissions d.classes words held.classes
