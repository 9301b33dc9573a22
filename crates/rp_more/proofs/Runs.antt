-- Characters before pieces.
use Rattle.std.proofs.Common.{◌≡◌, ◌∙◌, refl, sym, ap, ℕ, List, [], ◌∷◌, ◌++◌}
use Rattle.rp_more.specs.Pieces.{Piece, run, part, with_character}
use Rattle.rp_more.specs.PieceSteps.{with_run}

pub with_run-more : (cs : List ℕ) (c : ℕ) (ps : List Piece) → with_run (cs ++ c ∷ []) ps ≡ with_run cs (with_character c ps)
with_run-more [] c ps = refl
with_run-more (b ∷ cs) c ps = ap (with_character b) (with_run-more cs c ps)

-- a run of some characters
pub with_run-none : (c : ℕ) (cs : List ℕ) → with_run (c ∷ cs) [] ≡ run (c ∷ cs) ∷ []
with_run-none c [] = refl
with_run-none c (d ∷ cs) = ap (with_character c) (with_run-none d cs)

-- before a part a run ends
pub with_run-part : (cs text : List ℕ) (ps : List Piece) → with_run cs (part text ∷ ps) ≡ with_run cs [] ++ part text ∷ ps
with_run-part [] text ps = refl
with_run-part (c ∷ []) text ps = refl
with_run-part (c ∷ d ∷ cs) text ps =
    ap (with_character c) (with_run-part (d ∷ cs) text ps ∙ ap (λ (xs : List Piece). xs ++ part text ∷ ps) (with_run-none d cs))
    ∙ sym (ap (λ (xs : List Piece). xs ++ part text ∷ ps) (with_run-none c (d ∷ cs)))
