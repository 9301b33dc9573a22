-- What scripts come to is one.
use Rattle.std.proofs.Common.{◌≡◌, ℕ, List, [], ◌∷◌, map, Option, refl, sym, ap, ◌∙◌}
use Rattle.std.specs.List.{AllZip}
use Rattle.rp_meaning.specs.Sessions.{SessionEnd, World}
use Rattle.rp_meaning.specs.Unmonitored.{told_of}
use Rattle.rp_scope.specs.Numbers.{IsNumbered}
use Rattle.rp_session.specs.Played.{Plays, Reaches, placed, played_from}
use Rattle.rp_session.specs.Runs.{run_of}
use Rattle.rp_trail.specs.Entry.{Entry}
use Rattle.rp_tree.specs.Statements.{Stmts}
use Rattle.rp_tree.specs.StatementTrees.{Stmts as TextStmts}
use Rattle.rp_run_laws.proofs.Numbering.{one_numbering}

-- trees are numbered in one way
one_numbered : (names : List (List ℕ)) (trees : List (TextStmts (List ℕ))) (xs ys : List Stmts)
    → AllZip (λ tree script. IsNumbered (placed names tree) script) trees xs
    → AllZip (λ tree script. IsNumbered (placed names tree) script) trees ys → xs ≡ ys
one_numbered names [] [] [] h i = refl
one_numbered names [] [] (y ∷ ys) h i = absurd i
one_numbered names [] (x ∷ xs) ys h i = absurd h
one_numbered names (t ∷ ts) [] ys h i = absurd h
one_numbered names (t ∷ ts) (x ∷ xs) [] h i = absurd i
one_numbered names (t ∷ ts) (x ∷ xs) (y ∷ ys) h i =
    let first : x ≡ y = one_numbering (placed names t) x y h.0 i.0 in
    let rest : xs ≡ ys = one_numbered names ts xs ys h.1 i.1 in
    λ k. first k ∷ rest k

pub reaches-once : (w : World) (body : Stmts) (trees : List (TextStmts (List ℕ))) (whos : List (List (List ℕ)))
    (listed : List ℕ) (steps : ℕ) (p q : World)
    → Reaches w body trees whos listed steps p → Reaches w body trees whos listed steps q → p ≡ q
reaches-once w body trees whos listed steps p q x y =
    sym x.comes
    ∙ ap (λ (scripts : List Stmts). played_from (run_of w.names w.declarations body scripts) w whos listed steps)
    (one_numbered w.names trees x.scripts y.scripts x.numbered y.numbered)
    ∙ y.comes

pub plays-once : (w : World) (body : Stmts) (trees : List (TextStmts (List ℕ))) (whos : List (List (List ℕ)))
    (listed : List ℕ) (steps : ℕ) (p q : List (Option SessionEnd × List ℕ)) (l m : List Entry)
    → Plays w body trees whos listed steps p l → Plays w body trees whos listed steps q m → (p ≡ q) × (l ≡ m)
plays-once w body trees whos listed steps p q l m x y =
    let same = reaches-once w body trees whos listed steps x.last y.last x.reaches y.reaches in (
      sym x.sessions ∙ ap (λ (v : World). map told_of v.sessions) same ∙ y.sessions,
      sym x.entries ∙ ap (λ (v : World). v.log) same ∙ y.entries,
    )
