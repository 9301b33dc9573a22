-- The pieces so far, the run so far, and what is left of a text.
use Rattle.std.proofs.Common.{◌≡◌, ◌∙◌, refl, sym, ap, ℕ, ◌<◌, List, [], ◌∷◌, ◌++◌, append_assoc, length, map, chars, Option, Some, None, arith}
use Rattle.std.specs.Option.{option_map}
use Rattle.std.proofs.lemmas.List.{append-nil, map-append}
use Rattle.std.proofs.lemmas.Str.{chars-nil}
use Rattle.rp_more.specs.declared.pieces.Piece.{Piece}
use Rattle.rp_more.specs.declared.pieces.Piece.TheVariants as piece
use Rattle.rp_more.specs.Pieces as of
use Rattle.rp_more.specs.PieceSteps.{piece_seen, with_run}
use Rattle.rp_more.proofs.Runs.{with_run-more, with_run-none, with_run-part}

-- a run that has no characters, and one that has some
pub run-empty : (xs : List of.Piece) (cs : List ℕ) → cs ≡ [] → xs ≡ xs ++ with_run cs []
run-empty xs cs e = sym (append-nil xs) ∙ ap (λ ds. xs ++ with_run ds []) (sym e)

with_run-some : (cs : List ℕ) → 0 < length cs → with_run cs [] ≡ of.run cs ∷ []
with_run-some [] some = absurd (omega arith)
with_run-some (c ∷ cs) some = with_run-none c cs

pub run-filled : (old new : List Piece) (text cs : List ℕ) → new ≡ old ++ piece.Run text ∷ [] → text ≡ cs → 0 < length cs → map piece_seen new ≡ map piece_seen old ++ with_run cs []
run-filled old new text cs e f some =
    ap (map piece_seen) e ∙ map-append piece_seen old (piece.Run text ∷ []) ∙ (λ k. map piece_seen old ++ of.run (f k) ∷ []) ∙ ap (λ xs. map piece_seen old ++ xs) (sym (with_run-some cs some))

-- a part behind the run
pub part-filled : (start old new : List Piece) (p : Piece) (inside cs : List ℕ) → map piece_seen old ≡ map piece_seen start ++ with_run cs [] → new ≡ old ++ p ∷ [] → piece_seen p ≡ of.part inside
    → map piece_seen new ≡ map piece_seen start ++ with_run cs (of.part inside ∷ [])
part-filled start old new p inside cs e f g =
    ap (map piece_seen) f ∙ map-append piece_seen old (p ∷ []) ∙ (λ k. e k ++ g k ∷ [])
    ∙ append_assoc (map piece_seen start) (with_run cs []) (of.part inside ∷ []) ∙ ap (λ xs. map piece_seen start ++ xs) (sym (with_run-part cs inside []))

-- what the pieces of the whole text are
pub pieces-begin : (whole : List Piece) (bs text : List ℕ) → whole ≡ [] → bs ≡ [] → of.pieces_of (chars text) ≡ option_map (λ ps. map piece_seen whole ++ with_run (chars bs) ps) (of.pieces_from 0 (chars text))
pieces-begin whole bs text e f =
    by (of.pieces_from 0 (chars text)) ∙ sym (λ k. option_map (λ ps. map piece_seen (e k) ++ with_run ((ap chars f ∙ chars-nil) k) ps) (of.pieces_from 0 (chars text)))
  where
    by : (o : Option (List of.Piece)) → o ≡ option_map (λ ps. ps) o
    by None = refl
    by (Some ps) = refl

pub pieces-letter : (whole : List of.Piece) (cs ds : List ℕ) (c : ℕ) (o p total : Option (List of.Piece)) → total ≡ option_map (λ ps. whole ++ with_run cs ps) o → o ≡ option_map (of.with_character c) p
    → ds ≡ cs ++ c ∷ [] → total ≡ option_map (λ ps. whole ++ with_run ds ps) p
pieces-letter whole cs ds c o p total e f g =
    e ∙ ap (option_map (λ ps. whole ++ with_run cs ps)) f ∙ by p ∙ (λ k. option_map (λ ps. whole ++ with_run (sym g k) ps) p)
  where
    by : (p : Option (List of.Piece)) → option_map (λ ps. whole ++ with_run cs ps) (option_map (of.with_character c) p) ≡ option_map (λ ps. whole ++ with_run (cs ++ c ∷ []) ps) p
    by None = refl
    by (Some ps) = ap (λ xs. Some (whole ++ xs)) (sym (with_run-more cs c ps))

pub pieces-part : (whole more : List of.Piece) (cs ds inside : List ℕ) (o p total : Option (List of.Piece)) → total ≡ option_map (λ ps. whole ++ with_run cs ps) o → o ≡ option_map (λ ps. of.part inside ∷ ps) p
    → more ≡ whole ++ with_run cs (of.part inside ∷ []) → ds ≡ [] → total ≡ option_map (λ ps. more ++ with_run ds ps) p
pieces-part whole more cs ds inside o p total e f g h =
    e ∙ ap (option_map (λ ps. whole ++ with_run cs ps)) f ∙ by p ∙ (λ k. option_map (λ ps. sym g k ++ with_run (sym h k) ps) p)
  where
    by : (p : Option (List of.Piece)) → option_map (λ ps. whole ++ with_run cs ps) (option_map (λ ps. of.part inside ∷ ps) p) ≡ option_map (λ ps. (whole ++ with_run cs (of.part inside ∷ [])) ++ with_run [] ps) p
    by None = refl
    by (Some ps) = ap Some
        (ap (λ xs. whole ++ xs) (with_run-part cs inside ps ∙ sym (append_assoc (with_run cs []) (of.part inside ∷ []) ps) ∙ ap (λ xs. xs ++ ps) (sym (with_run-part cs inside [])))
        ∙ sym (append_assoc whole (with_run cs (of.part inside ∷ [])) ps))

-- nothing is left
pub pieces-end : (whole : List of.Piece) (cs rest : List ℕ) (more : List of.Piece) (total : Option (List of.Piece)) → total ≡ option_map (λ ps. whole ++ with_run cs ps) (of.pieces_from 0 rest) → rest ≡ []
    → more ≡ whole ++ with_run cs [] → Some more ≡ total
pieces-end whole cs rest more total e none f = ap Some f ∙ sym (e ∙ (λ k. option_map (λ ps. whole ++ with_run cs ps) (of.pieces_from 0 (none k))))
