-- What the bytes of a text tell: whether it has characters, and the detail of an exception.
use Rattle.std.proofs.Common.{◌≡◌, ◌≢◌, ℕ, true, false, eqb, List, [], ◌∷◌, ◌++◌, length, chars, codes, encode_utf8_all}
use Rattle.std.proofs.Common.{IsUtf8, ap, sym, ◌∙◌, refl}
use Rattle.std.proofs.lemmas.Bool.{eqb-true, eqb-false}
use Rattle.std.proofs.lemmas.Str.{chars-nil, encodes-chars}
use Rattle.rp_run.specs.Output.{detail}

-- a text that has no characters has no bytes
pub bytes_without_chars : (bs : List ℕ) → IsUtf8 bs → chars bs ≡ [] → bs ≡ []
bytes_without_chars bs utf8 e = sym (encodes-chars bs utf8) ∙ ap encode_utf8_all e

-- the detail of an exception with a text
pub detail-some : (bs told : List ℕ) → IsUtf8 bs → chars bs ≡ told → eqb (length bs) 0 ≡ false
    → detail told ≡ codes ": " ++ told
detail-some bs [] utf8 e some = absurd (eqb-false (length bs) 0 some (ap length (bytes_without_chars bs utf8 e)))
detail-some bs (c ∷ cs) utf8 e some = refl

-- the detail of an exception without one
pub detail-none : (bs told : List ℕ) → chars bs ≡ told → eqb (length bs) 0 ≡ true → detail told ≡ []
detail-none [] told e none = ap detail (sym e ∙ chars-nil)
detail-none (b ∷ bs) told e none = absurd (let e : length (b ∷ bs) ≡ 0 = eqb-true (length (b ∷ bs)) 0 none in cc)

-- a text is empty where it has no byte
pub empty_chars : (bs told : List ℕ) → chars bs ≡ told → eqb (length bs) 0 ≡ true → told ≡ []
empty_chars [] told e none = sym e ∙ chars-nil
empty_chars (b ∷ bs) told e none = absurd (let e : length (b ∷ bs) ≡ 0 = eqb-true (length (b ∷ bs)) 0 none in cc)

pub some_chars : (bs told : List ℕ) → IsUtf8 bs → chars bs ≡ told → eqb (length bs) 0 ≡ false → told ≢ []
some_chars bs told utf8 e some none = eqb-false (length bs) 0 some (ap length (bytes_without_chars bs utf8 (e ∙ none)))
