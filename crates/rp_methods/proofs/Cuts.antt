-- Parts of texts: what searches on bytes say of the characters.
use Rattle.std.proofs.Common.{◌≡◌, ℕ, zero, suc, ◌<◌, ◌≤◌, Bool, true, false, List, [], ◌∷◌, ◌++◌, length, length-append, take, drop, reverse, chars, encode_utf8, encode_utf8_all, ◌-◌, Some, None, option_map, refl, sym, ap, subst, ◌∙◌, arith, rules}
use Rattle.std.specs.Bool.{MatchBool}
use Rattle.std.specs.Char.{len_utf8}
use Rattle.std.specs.Str.{IsUtf8}
use Rattle.std.specs.Str.Pattern.{FindsText, FindsTextPrefix, FindsTextSuffix, HasPrefixMatch, HasSuffixMatch, LacksTextAt, MatchBeginsAt}
use Rattle.std.proofs.Math.Seq.{drop-append_seam}
use Rattle.std.proofs.lemmas.List.{length-take, reverse-append, reverse-reverse, take-append-drop, take-append-le}
use Rattle.std.proofs.lemmas.Str.{IsUtf8-take, chars-append, encodes-append, encodes-chars, length-encode}
use Rattle.rp_compare.specs.Membership.{begins}
use Rattle.rp_methods.specs.Texts.{ends, place_in}
use Rattle.rp_compare.proofs.CallerLemmas.{begins-front, begins-rest}

not-so : (b : Bool) → (b ≡ true → ⊥) → false ≡ b
not-so true h = absurd (h refl)
not-so false h = refl

-- a front of the characters is one of the bytes
text-front : (n s rest : List ℕ) → IsUtf8 n → IsUtf8 s → chars s ≡ chars n ++ rest → s ≡ n ++ encode_utf8_all rest
text-front n s rest un us e =
    sym (encodes-chars s us) ∙ ap encode_utf8_all e ∙ encodes-append (chars n) rest ∙ ap (λ l. l ++ encode_utf8_all rest) (encodes-chars n un)

text-back : (n s front : List ℕ) → IsUtf8 n → IsUtf8 s → chars s ≡ front ++ chars n → s ≡ encode_utf8_all front ++ n
text-back n s front un us e =
    sym (encodes-chars s us) ∙ ap encode_utf8_all e ∙ encodes-append front (chars n) ∙ ap (λ l. encode_utf8_all front ++ l) (encodes-chars n un)

pub starts-chars : (r : Bool) (n s : List ℕ) → IsUtf8 n → IsUtf8 s → MatchBool r (HasPrefixMatch (FindsTextPrefix n) s) (FindsTextPrefix n s None)
    → r ≡ begins (chars n) (chars s)
starts-chars true n s un us h =
    sym (ap (begins (chars n)) (ap chars h.1.1 ∙ chars-append n (drop h.0 s) un) ∙ begins-front (chars n) (chars (drop h.0 s)))
starts-chars false n s un us h =
    not-so (begins (chars n) (chars s)) (λ e. let p = begins-rest (chars n) (chars s) e in h (encode_utf8_all p.0) (text-front n s p.0 un us p.1))

pub ends-chars : (r : Bool) (n s : List ℕ) → IsUtf8 n → IsUtf8 s → MatchBool r (HasSuffixMatch (FindsTextSuffix n) s) (FindsTextSuffix n s None)
    → r ≡ ends (chars n) (chars s)
ends-chars true n s un us h =
    let front = take (length s - h.0) s in
    let whole = ap chars h.1.1 ∙ chars-append front n (IsUtf8-take s (length s - h.0) us h.3) in
    sym (ap (begins (reverse (chars n))) (ap reverse whole ∙ reverse-append (chars front) (chars n)) ∙ begins-front (reverse (chars n)) (reverse (chars front)))
ends-chars false n s un us h =
    not-so (ends (chars n) (chars s)) (λ e.
    let p = begins-rest (reverse (chars n)) (reverse (chars s)) e in
    h (encode_utf8_all (reverse p.0))
    (text-back n s (reverse p.0) un us
    (sym (reverse-reverse (chars s)) ∙ ap reverse p.1 ∙ reverse-append (reverse (chars n)) p.0 ∙ ap (λ l. reverse p.0 ++ l) (reverse-reverse (chars n)))))

-- places

place-at : (u x r : List ℕ) → ((k : ℕ) → k < length x → begins u (drop k (x ++ r)) ≡ false) → begins u r ≡ true → place_in u (x ++ r) ≡ Some (length x)
place-at u [] [] none here = rw here refl
place-at u [] (c ∷ r) none here = rw here refl
place-at u (c ∷ x) r none here =
    rw (none zero (omega arith)) (ap (option_map suc) (place-at u x r (λ k h. none (suc k) (omega (h, arith))) here))

place-none : (u t : List ℕ) → ((k : ℕ) → k ≤ length t → begins u (drop k t) ≡ false) → place_in u t ≡ None
place-none u [] none = rw (none zero (omega arith)) refl
place-none u (c ∷ t) none = rw (none zero (omega arith)) (ap (option_map suc) (place-none u t (λ k h. none (suc k) (omega (h, arith)))))

-- where the bytes lack a part, so do the characters
lacks-chars : (n s : List ℕ) (k : ℕ) → IsUtf8 n → IsUtf8 s → LacksTextAt n s (length (encode_utf8_all (take k (chars s)))) → begins (chars n) (drop k (chars s)) ≡ false
lacks-chars n s k un us lacks =
    sym (not-so (begins (chars n) (drop k (chars s))) (λ e.
    let p = begins-rest (chars n) (drop k (chars s)) e in
    let front = encode_utf8_all (take k (chars s)) in
    let whole : s ≡ front ++ encode_utf8_all (drop k (chars s)) =
    sym (encodes-chars s us) ∙ ap encode_utf8_all (sym (take-append-drop k (chars s))) ∙ encodes-append (take k (chars s)) (drop k (chars s)) in
    lacks (encode_utf8_all p.0)
    (ap (drop (length front)) whole ∙ drop-append_seam front (encode_utf8_all (drop k (chars s))) ∙ ap encode_utf8_all p.1 ∙ encodes-append (chars n) p.0
    ∙ ap (λ l. l ++ encode_utf8_all p.0) (encodes-chars n un))))

pub some_bytes : (c : ℕ) → 0 < len_utf8 c
some_bytes c = search rules

-- a front of fewer characters has fewer bytes
fewer-bytes : (k : ℕ) (cs : List ℕ) → k < length cs → length (encode_utf8_all (take k cs)) < length (encode_utf8_all cs)
fewer-bytes k [] h = absurd (omega (h, arith))
fewer-bytes zero (c ∷ cs) h = let l = length-encode c in let m = length-append (encode_utf8 c) (encode_utf8_all cs) in let p = some_bytes c in omega (l, m, p, arith)
fewer-bytes (suc k) (c ∷ cs) h =
    let m = length-append (encode_utf8 c) (encode_utf8_all cs) in
    let n = length-append (encode_utf8 c) (encode_utf8_all (take k cs)) in
    let rest = fewer-bytes k cs (omega (h, arith)) in omega (m, n, rest, arith)

pub place-missing : (n s : List ℕ) → IsUtf8 n → IsUtf8 s → FindsText n s None → place_in (chars n) (chars s) ≡ None
place-missing n s un us lacks =
    place-none (chars n) (chars s) (λ k h. lacks-chars n s k un us (lacks (length (encode_utf8_all (take k (chars s)))) (within k)))
  where
    within : (k : ℕ) → length (encode_utf8_all (take k (chars s))) ≤ length s
    within k =
        let e = ap length (sym (encodes-chars s us) ∙ ap encode_utf8_all (sym (take-append-drop k (chars s))) ∙ encodes-append (take k (chars s)) (drop k (chars s))) in
        let m = length-append (encode_utf8_all (take k (chars s))) (encode_utf8_all (drop k (chars s))) in omega (e, m, arith)

pub place-found : (n s : List ℕ) (i : ℕ) → IsUtf8 n → IsUtf8 s → IsUtf8 (take i s) → MatchBeginsAt (FindsText n) s i
    → place_in (chars n) (chars s) ≡ Some (length (chars (take i s)))
place-found n s i un us ut h =
    let x = chars (take i s) in
    let r = chars (drop i s) in
    let whole : chars s ≡ x ++ r = ap chars (sym (take-append-drop i s)) ∙ chars-append (take i s) (drop i s) ut in
    let here : begins (chars n) r ≡ true = ap (begins (chars n)) (ap chars h.1.1.split ∙ chars-append n (drop h.0 s) un) ∙ begins-front (chars n) (chars (drop h.0 s)) in
    let none : (k : ℕ) → k < length x → begins (chars n) (drop k (x ++ r)) ≡ false =
    (λ k less. ap (λ l. begins (chars n) (drop k l)) (sym whole) ∙ lacks-chars n s k un us (h.1.0 _ (before k less whole))) in
    ap (place_in (chars n)) whole ∙ place-at (chars n) x r none here
  where
    before : (k : ℕ) → k < length (chars (take i s)) → chars s ≡ chars (take i s) ++ chars (drop i s) → length (encode_utf8_all (take k (chars s))) < i
    before k less whole =
        let front : take k (chars s) ≡ take k (chars (take i s)) = ap (take k) whole ∙ take-append-le k (chars (take i s)) (chars (drop i s)) (omega (less, arith)) in
        let bytes = fewer-bytes k (chars (take i s)) less in
        let size = ap length (encodes-chars (take i s) ut) in
        let most = length-take i s in
        subst (λ (l : List ℕ). length (encode_utf8_all l) < i) (sym front) (omega (bytes, size, most, arith))
