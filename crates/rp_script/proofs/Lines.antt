-- Lines that are appended part by part.
use Rattle.std.proofs.Common.{◌≡◌, refl, ap, ◌∙◌, ℕ, ◌+◌, ◌<◌, List, [], ◌∷◌, ◌++◌, append-nil, append_assoc, length, get_or, take, chars, codes, Result, Ok, Err, OnOk}
use Rattle.std.specs.List.{flat_map}
use Rattle.std.proofs.lemmas.Grind.{flat_map-append}
use Rattle.std.proofs.lemmas.List.{take_more}
use Rattle.rp_base.proofs.CallerLemmas.{chars-ascii}
use Rattle.rp_script.specs.Refusal.{line}

newline : chars (codes "\n") ≡ codes "\n"
newline = chars-ascii (codes "\n") refl

joined : (a b c d : List ℕ) → ((a ++ b) ++ c) ++ d ≡ a ++ ((b ++ c) ++ d)
joined a b c d = simp append_assoc refl

-- a prefix, words and the end of a line, one after another
pub line_added : {T E : Type 0} (r : Result T E) (new third second first prefix words : List ℕ) → second ≡ first ++ prefix → third ≡ second ++ words
    → OnOk r (new ≡ third ++ chars (codes "\n")) → OnOk r (new ≡ first ++ line prefix words)
line_added (Ok x) new third second first prefix words e f g =
    g ∙ ap (λ xs. third ++ xs) newline ∙ ap (λ xs. xs ++ codes "\n") f ∙ ap (λ xs. (xs ++ words) ++ codes "\n") e ∙ joined first prefix words (codes "\n")
line_added (Err x) new third second first prefix words e f g = tt

-- one more piece
pub one_more : {A : Type 0} (f : A → List ℕ) (xs : List A) (i : ℕ) (d : A) → i < length xs → flat_map f (take (i + 1) xs) ≡ flat_map f (take i xs) ++ f (get_or xs i d)
one_more f xs i d within =
    ap (flat_map f) (take_more xs i d within) ∙ flat_map-append f (take i xs) (get_or xs i d ∷ []) ∙ ap (λ ys. flat_map f (take i xs) ++ ys) (append-nil (f (get_or xs i d)))
