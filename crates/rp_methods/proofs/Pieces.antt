-- Pieces of texts, cut at one place after another.
use Rattle.std.proofs.Common.{◌≡◌, ℕ, zero, suc, pred, ◌-◌, ◌<◌, Bool, true, false, List, [], ◌∷◌, ◌++◌, append_assoc, append-nil, chars, encode_utf8_all, length, take, drop, Option, Some, None, option_map, if◌then◌else◌, refl, sym, ap, ◌∙◌, arith}
use Rattle.std.specs.Str.{IsUtf8}
use Rattle.std.specs.Str.Pattern.{FindsText, MatchBeginsAt}
use Rattle.std.proofs.Math.Seq.{drop-append_seam}
use Rattle.std.proofs.lemmas.List.{take-append-drop}
use Rattle.std.proofs.lemmas.Str.{IsUtf8-take, chars-append, encodes-append, encodes-chars, length-le-encodes}
use Rattle.rp_compare.specs.Membership.{begins}
use Rattle.rp_methods.specs.Texts.{joined, pieces, pieces_after, place_in, preceded, with_first}
use Rattle.rp_methods.proofs.Cuts.{place-found, place-missing}
use Rattle.rp_compare.proofs.CallerLemmas.{begins-front}

passed-over : (u : List ℕ) (n : ℕ) (w y : List ℕ) → length w ≡ n → pieces_after u n (w ++ y) ≡ pieces_after u 0 y
passed-over u zero [] y e = refl
passed-over u (suc n) [] y e = absurd (omega (e, arith))
passed-over u zero (c ∷ w) y e = absurd (omega (e, arith))
passed-over u (suc n) (c ∷ w) y e = passed-over u n w y (omega (e, arith))

abbrev Cut : List ℕ → List ℕ → List ℕ → List ℕ → Type 0
Cut u t x y = pieces u t ≡ x ∷ pieces u y

at-first : (c : ℕ) (u y : List ℕ) → Cut (c ∷ u) ((c ∷ u) ++ y) [] y
at-first c u y = rw (begins-front (c ∷ u) y) (ap (λ ps. [] ∷ ps) (passed-over (c ∷ u) (length (c ∷ u) - 1) u y (omega arith)))

-- text that has a part at a place falls into what is before it and the pieces of what is behind it
pub pieces-cut : (u x y : List ℕ) → 0 < length u → place_in u (x ++ (u ++ y)) ≡ Some (length x) → Cut u (x ++ (u ++ y)) x y
pieces-cut [] x y some e = absurd (omega (some, arith))
pieces-cut (c ∷ u) [] y some e = at-first c u y
pieces-cut (c ∷ u) (d ∷ x) y some e = by (begins (c ∷ u) (d ∷ (x ++ ((c ∷ u) ++ y)))) (place_in (c ∷ u) (x ++ ((c ∷ u) ++ y))) (pieces-cut (c ∷ u) x y some) e where
  rest : List ℕ
  rest = x ++ ((c ∷ u) ++ y)

  within : (o : Option ℕ) → option_map suc o ≡ Some (suc (length x)) → o ≡ Some (length x)
  within None e = absurd (cc)
  within (Some n) e = ap (λ (o : Option ℕ). option_map pred o) e

  by : (b : Bool) (o : Option ℕ) → (o ≡ Some (length x) → pieces_after (c ∷ u) 0 rest ≡ x ∷ pieces (c ∷ u) y) → (if b then Some 0 else option_map suc o) ≡ Some (suc (length x))
      → (if b then [] ∷ pieces_after (c ∷ u) (length (c ∷ u) - 1) rest else with_first d (pieces_after (c ∷ u) 0 rest)) ≡ (d ∷ x) ∷ pieces (c ∷ u) y
  by true o inner e = absurd (cc)
  by false o inner e = ap (with_first d) (inner (within o e))

-- one without it is a single piece
pub pieces-whole : (u t : List ℕ) → place_in u t ≡ None → pieces u t ≡ t ∷ []
pieces-whole u [] e = refl
pieces-whole u (c ∷ t) e = by (begins u (c ∷ t)) (place_in u t) (pieces-whole u t) e where
  within : (o : Option ℕ) → option_map suc o ≡ None → o ≡ None
  within None e = refl
  within (Some n) e = absurd (cc)

  by : (b : Bool) (o : Option ℕ) → (o ≡ None → pieces_after u 0 t ≡ t ∷ []) → (if b then Some 0 else option_map suc o) ≡ None
      → (if b then [] ∷ pieces_after u (length u - 1) t else with_first c (pieces_after u 0 t)) ≡ (c ∷ t) ∷ []
  by true o inner e = absurd (cc)
  by false o inner e = ap (with_first c) (inner (within o e))

-- what a search of the bytes says of the pieces

pub cut-missing : (n s : List ℕ) → IsUtf8 n → IsUtf8 s → FindsText n s None → pieces (chars n) (chars s) ≡ chars s ∷ []
cut-missing n s un us lacks = pieces-whole (chars n) (chars s) (place-missing n s un us lacks)

pub cut-found : (n s : List ℕ) (i : ℕ) (front back : List ℕ) → IsUtf8 n → IsUtf8 s → 0 < length (chars n) → MatchBeginsAt (FindsText n) s i → front ≡ take i s
    → back ≡ drop (length n) (drop i s) → pieces (chars n) (chars s) ≡ chars front ∷ pieces (chars n) (chars back)
cut-found n s i front back un us some h is-front is-back =
    let j = h.0 in
    let ut : IsUtf8 (take i s) = IsUtf8-take s i us h.3 in
    let x = chars (take i s) in
    let y = chars (drop j s) in
    let whole : chars s ≡ x ++ (chars n ++ y) =
    ap chars (sym (take-append-drop i s)) ∙ chars-append (take i s) (drop i s) ut ∙ ap (λ (l : List ℕ). x ++ l) (ap chars h.1.1.split ∙ chars-append n (drop j s) un) in
    let after : back ≡ drop j s = is-back ∙ ap (λ (l : List ℕ). drop (length n) l) h.1.1.split ∙ drop-append_seam n (drop j s) in
    ap (λ (l : List ℕ). pieces (chars n) l) whole
    ∙ pieces-cut (chars n) x y some (ap (λ (l : List ℕ). place_in (chars n) l) (sym whole) ∙ place-found n s i un us ut h)
    ∙ ap (λ (l : List ℕ). chars l ∷ pieces (chars n) y) (sym is-front) ∙ ap (λ (l : List ℕ). chars front ∷ pieces (chars n) (chars l)) (sym after)

pub some-bytes : (n : List ℕ) → IsUtf8 n → 0 < length (chars n) → 0 < length n
some-bytes n un some = let e = ap length (encodes-chars n un) in let m = length-le-encodes (chars n) in omega (e, m, some, arith)

-- pieces that are joined again

some-pieces : (u : List ℕ) (n : ℕ) (t : List ℕ) → (p : List ℕ) × (ps : List (List ℕ)) × (pieces_after u n t ≡ p ∷ ps)
some-pieces u n [] = ([], [], refl)
some-pieces u (suc n) (c ∷ t) = some-pieces u n t
some-pieces u zero (c ∷ t) = by (begins u (c ∷ t)) (some-pieces u zero t) where
  by : (b : Bool) → (p : List ℕ) × (ps : List (List ℕ)) × (pieces_after u zero t ≡ p ∷ ps)
      → (p : List ℕ) × (ps : List (List ℕ)) × ((if b then [] ∷ pieces_after u (length u - 1) t else with_first c (pieces_after u zero t)) ≡ p ∷ ps)
  by true some = ([], pieces_after u (length u - 1) t, refl)
  by false some = (c ∷ some.0, some.1, ap (with_first c) some.2)

preceded-joined : (between : List ℕ) (ts : List (List ℕ)) (p : List ℕ) (ps : List (List ℕ)) → ts ≡ p ∷ ps → preceded between ts ≡ between ++ joined between ts
preceded-joined between [] p ps e = absurd (cc)
preceded-joined between (t ∷ ts) p ps e = append_assoc between t (preceded between ts)

-- the bytes of what a part cuts, joined by another text: those before the first place, the text, and what is behind
joined-cut : (part before after rest to : List ℕ) → IsUtf8 before → IsUtf8 to → pieces (chars part) (chars rest) ≡ chars before ∷ pieces (chars part) (chars after)
    → encode_utf8_all (joined (chars to) (pieces (chars part) (chars rest))) ≡ before ++ (to ++ encode_utf8_all (joined (chars to) (pieces (chars part) (chars after))))
joined-cut part before after rest to ub ut cut =
    let ps = pieces (chars part) (chars after) in
    let some = some-pieces (chars part) zero (chars after) in
    ap (λ (qs : List (List ℕ)). encode_utf8_all (joined (chars to) qs)) cut
    ∙ encodes-append (chars before) (preceded (chars to) ps)
    ∙ ap (λ (l : List ℕ). l ++ encode_utf8_all (preceded (chars to) ps)) (encodes-chars before ub)
    ∙ ap (λ (l : List ℕ). before ++ encode_utf8_all l) (preceded-joined (chars to) ps some.0 some.1 some.2)
    ∙ ap (λ (l : List ℕ). before ++ l) (encodes-append (chars to) (joined (chars to) ps))
    ∙ ap (λ (l : List ℕ). before ++ (l ++ encode_utf8_all (joined (chars to) ps))) (encodes-chars to ut)

pub replaced-turn : (so_far more whole part before after rest to : List ℕ) → IsUtf8 before → IsUtf8 to
    → so_far ++ encode_utf8_all (joined (chars to) (pieces (chars part) (chars rest))) ≡ whole
    → pieces (chars part) (chars rest) ≡ chars before ∷ pieces (chars part) (chars after) → more ≡ so_far ++ (before ++ to)
    → more ++ encode_utf8_all (joined (chars to) (pieces (chars part) (chars after))) ≡ whole
replaced-turn so_far more whole part before after rest to ub ut h cut put =
    let left = encode_utf8_all (joined (chars to) (pieces (chars part) (chars after))) in
    ap (λ (l : List ℕ). l ++ left) put ∙ append_assoc so_far (before ++ to) left ∙ ap (λ (l : List ℕ). so_far ++ l) (append_assoc before to left)
    ∙ ap (λ (l : List ℕ). so_far ++ l) (sym (joined-cut part before after rest to ub ut cut)) ∙ h

pub replaced-last : (so_far more whole part rest to : List ℕ) → IsUtf8 rest → so_far ++ encode_utf8_all (joined (chars to) (pieces (chars part) (chars rest))) ≡ whole
    → pieces (chars part) (chars rest) ≡ chars rest ∷ [] → more ≡ so_far ++ rest → more ≡ whole
replaced-last so_far more whole part rest to ur h cut put =
    put ∙ ap (λ (l : List ℕ). so_far ++ l) (sym (encodes-chars rest ur)) ∙ ap (λ (l : List ℕ). so_far ++ encode_utf8_all l) (sym (append-nil (chars rest)))
    ∙ ap (λ (qs : List (List ℕ)). so_far ++ encode_utf8_all (joined (chars to) qs)) (sym cut) ∙ h
