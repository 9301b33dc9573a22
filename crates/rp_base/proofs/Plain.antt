-- A text of as many characters as bytes is ASCII.
use Rattle.std.proofs.Common.{◌≡◌, ℕ, zero, suc, ◌<◌, ◌+◌, Bool, true, false, cond, nat_lt, List, [], ◌∷◌, length, refl, sym, ap, ◌∙◌, chars, arith, encode_utf8_all, subst, lit<, Option, Some, None, MatchOption}
use Rattle.std.specs.Char.{encode_utf8, len_utf8}
use Rattle.std.specs.Str.{IsAscii, IsUtf8}
use Rattle.std.proofs.lemmas.List.{length-append}
use Rattle.std.proofs.Common.{ltb-true}
use Rattle.std.proofs.lemmas.Str.{encodes-IsAscii, encodes-chars, length-encode, length-le-encodes, len_utf8_bounds}

one_byte : (c : ℕ) → len_utf8 c ≡ 1 → c < 128
one_byte c one = by (nat_lt c 128) refl
  where
    rest : (t u : Bool) → cond {A = ℕ} t 2 (cond {A = ℕ} u 3 4) ≡ 1 → ⊥
    rest true u e = omega (arith, e)
    rest false true e = omega (arith, e)
    rest false false e = omega (arith, e)

    by : (b : Bool) → nat_lt c 128 ≡ b → c < 128
    by true e = ltb-true c 128 e
    by false e = absurd (rest (nat_lt c 0x800) (nat_lt c 0x1_0000) (sym (ap (λ b. cond b 1 (cond (nat_lt c 0x800) 2 (cond (nat_lt c 0x1_0000) 3 4))) e) ∙ one))

parts : (c : ℕ) (cs : List ℕ) → length (c ∷ cs) ≡ length (encode_utf8_all (c ∷ cs)) → (len_utf8 c ≡ 1) × (length cs ≡ length (encode_utf8_all cs))
parts c cs e =
    let total : length (encode_utf8_all (c ∷ cs)) ≡ len_utf8 c + length (encode_utf8_all cs) = length-append (encode_utf8 c) (encode_utf8_all cs) ∙ ap (λ n. n + length (encode_utf8_all cs)) (length-encode c) in
    (omega (arith, e, total, length-le-encodes cs, (len_utf8_bounds c).0), omega (arith, e, total, length-le-encodes cs, (len_utf8_bounds c).0))

each_below : (cs : List ℕ) → length cs ≡ length (encode_utf8_all cs) → IsAscii cs
each_below [] e zero = lit< tt
each_below [] e (suc i) = lit< tt
each_below (c ∷ cs) e zero = one_byte c (parts c cs e).0
each_below (c ∷ cs) e (suc i) = each_below cs (parts c cs e).1 i

-- a text of as many bytes as characters
pub each_ascii : (bs : List ℕ) → IsUtf8 bs → length bs ≡ length (chars bs) → IsAscii (chars bs)
each_ascii bs text e = each_below (chars bs) (sym e ∙ ap length (sym (encodes-chars bs text)))

-- ASCII characters have one byte each
pub one_each : (bs : List ℕ) → IsUtf8 bs → IsAscii (chars bs) → length bs ≡ length (chars bs)
one_each bs text ascii = ap length (sym (encodes-chars bs text) ∙ encodes-IsAscii (chars bs) ascii)

-- they are their bytes
pub ascii_bytes : (bs : List ℕ) → IsUtf8 bs → IsAscii (chars bs) → (bs ≡ chars bs) × IsAscii bs
ascii_bytes bs text ascii =
    let same : bs ≡ chars bs = sym (encodes-chars bs text) ∙ encodes-IsAscii (chars bs) ascii in
    (same, subst IsAscii (sym same) ascii)

-- what holds where there is none
pub none_is : {A : Type 0} (o : Option A) (P : Type 0) (Q : A → Type 0) → o ≡ None → MatchOption o P Q → P
none_is None P Q e h = h
none_is (Some x) P Q e h = absurd (cc)
