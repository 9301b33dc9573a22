-- Numbers that digits spell, held at the greatest one of 64 bits.
use Rattle.std.proofs.Common.{◌≡◌, ℕ, ◌+◌, ◌-◌, ◌*◌, ◌<◌, ◌^◌, min, List, [], ◌∷◌, length, Option, Some, None, refl, sym, ap, ◌∙◌, arith}
use Rattle.std.specs.Option.{option_map, option_map_or}
use Rattle.rp_native.specs.Numbers.{digit, digits, digits_behind}
use Rattle.rp_native.specs.Saturated.{saturated}

held : (a b d : ℕ) → saturated a ≡ saturated b → saturated (a * 10 + d) ≡ saturated (b * 10 + d)
held a b d e = omega arith

sat-same : (cs : List ℕ) (a b : ℕ) → saturated a ≡ saturated b → option_map saturated (digits_behind a cs) ≡ option_map saturated (digits_behind b cs)
sat-same [] a b e = ap (λ (n : ℕ). Some n) e
sat-same (c ∷ cs) a b e = by (digit c) (λ d. sat-same cs (a * 10 + d) (b * 10 + d) (held a b d e)) where
  by : (o : Option ℕ) → ((d : ℕ) → option_map saturated (digits_behind (a * 10 + d) cs) ≡ option_map saturated (digits_behind (b * 10 + d) cs))
      → option_map saturated (option_map_or (λ d. digits_behind (a * 10 + d) cs) o None) ≡ option_map saturated (option_map_or (λ d. digits_behind (b * 10 + d) cs) o None)
  by None rest = refl
  by (Some d) rest = rest d

-- one more digit
pub digits-next : (cs rest : List ℕ) (c d n new : ℕ) → cs ≡ c ∷ rest → Some d ≡ digit c → new ≡ min (min (n * 10) (2 ^ 64 - 1) + d) (2 ^ 64 - 1)
    → option_map saturated (digits_behind n cs) ≡ option_map saturated (digits_behind new rest)
digits-next cs rest c d n new first is e =
    let same : saturated (n * 10 + d) ≡ saturated new = omega arith in
    ap (λ (l : List ℕ). option_map saturated (digits_behind n l)) first
    ∙ ap (λ (o : Option ℕ). option_map saturated (option_map_or (λ d. digits_behind (n * 10 + d) rest) o None)) (sym is)
    ∙ sat-same rest (n * 10 + d) new same

-- all digits are read
pub digits-end : (cs rest : List ℕ) (n : ℕ) → 0 < length cs → rest ≡ [] → n < 2 ^ 64
    → option_map saturated (digits_behind 0 cs) ≡ option_map saturated (digits_behind n rest) → Some n ≡ option_map saturated (digits cs)
digits-end [] rest n some none small e = absurd (omega arith)
digits-end (c ∷ cs) rest n some none small e =
    let same : n ≡ saturated n = omega arith in
    ap (λ (k : ℕ). Some k) same ∙ ap (λ (l : List ℕ). option_map saturated (digits_behind n l)) (sym none) ∙ sym e

-- what is held fits 64 bits
pub within : (n m : ℕ) → n ≡ min m (2 ^ 64 - 1) → n < 2 ^ 64
within n m e = omega (arith, e)
