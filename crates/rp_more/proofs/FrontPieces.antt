-- What the pieces of a text are by its front.
use Rattle.std.proofs.Common.{◌≡◌, ◌∙◌, ◌<◌, ◌+◌, ◌==◌, refl, sym, ap, ℕ, zero, suc, true, false, List, [], ◌∷◌, length, drop, arith}
use Rattle.std.specs.Option.{option_map}
use Rattle.rp_token.specs.Characters.{first}
use Rattle.rp_more.specs.Pieces.{part, enclosed, is_part, pieces_from, with_character}
use Rattle.rp_more.specs.PieceSteps.{part_behind}

pub pieces-passed : (n : ℕ) (cs : List ℕ) → pieces_from n cs ≡ pieces_from 0 (drop n cs)
pieces-passed zero cs = refl
pieces-passed (suc n) [] = refl
pieces-passed (suc n) (c ∷ cs) = pieces-passed n cs

pub pieces-plain : (cs : List ℕ) → 0 < length cs → (first cs == 123) ≡ false → (first cs == 125) ≡ false
    → pieces_from 0 cs ≡ option_map (with_character (first cs)) (pieces_from 0 (drop 1 cs))
pieces-plain [] some e f = absurd (omega arith)
pieces-plain (c ∷ cs) some e f = rw (e, f) refl

drop-suc : (n : ℕ) (cs : List ℕ) → drop (suc n) cs ≡ drop 1 (drop n cs)
drop-suc zero cs = refl
drop-suc (suc n) [] = refl
drop-suc (suc n) (c ∷ cs) = drop-suc n cs

drop-one : (n : ℕ) (cs : List ℕ) → drop (n + 1) cs ≡ drop 1 (drop n cs)
drop-one n cs = let more : n + 1 ≡ suc n = omega arith in ap (λ k. drop k cs) more ∙ drop-suc n cs

-- behind a single `{`
pub pieces-part : (cs inside rest : List ℕ) → inside ≡ enclosed cs → rest ≡ drop (length (enclosed cs)) cs → is_part inside ≡ true → first rest ≡ 125
    → part_behind cs ≡ option_map (λ ps. part inside ∷ ps) (pieces_from 0 (drop 1 rest))
pieces-part cs inside rest e f passes closing =
    let same : is_part (enclosed cs) ≡ true = ap is_part (sym e) ∙ passes in
    let closed : first (drop (length (enclosed cs)) cs) ≡ 125 = ap first (sym f) ∙ closing in
    rw (same, closed) (ap (option_map (λ ps. part (enclosed cs) ∷ ps)) (pieces-passed (length (enclosed cs) + 1) cs ∙ ap (pieces_from 0) (drop-one (length (enclosed cs)) cs))
    ∙ (λ i. option_map (λ ps. part (sym e i) ∷ ps) (pieces_from 0 (drop 1 (sym f i)))))
