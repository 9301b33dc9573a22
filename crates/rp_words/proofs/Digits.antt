-- Texts of digits.
use Rattle.std.proofs.Common.{◌≡◌, ◌&&◌, true, List, [], ◌∷◌, ℕ, ap, refl, ◌∙◌}
use Rattle.std.specs.Char.{is_ascii_digit}
use Rattle.std.specs.List.{list_all}
use Rattle.std.specs.Str.{all_ascii_digits}
use Rattle.std.specs.Str.Parse.{digits_value}
use Rattle.std.proofs.lemmas.Str.Parse.{IsNumeralModel, numerals_by_value, tells_all_ascii_digits}

abbrev pub AreDigits : List ℕ → Type 0
AreDigits ds = all_ascii_digits ds ≡ true

pub own : IsNumeralModel AreDigits (digits_value 10)
own = numerals_by_value AreDigits tells_all_ascii_digits

same : (ds : List ℕ) → all_ascii_digits ds ≡ list_all is_ascii_digit ds
same [] = refl
same (c ∷ cs) = ap (λ rest. is_ascii_digit c && rest) (same cs)

pub AreDigits-from_tests : (ds : List ℕ) → list_all is_ascii_digit ds ≡ true → AreDigits ds
AreDigits-from_tests ds h = same ds ∙ h
