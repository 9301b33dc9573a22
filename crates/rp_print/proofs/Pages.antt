-- How a page grows by texts that are put together.
use Rattle.std.proofs.Common.{◌≡◌, ◌<◌, ◌≤◌, ◌-◌, ℕ, suc, zero, Bool, true, false, List, [], ◌∷◌, codes, refl}
use Rattle.std.proofs.Common.{sym, ap, ◌∙◌, append_assoc, arith}
use Rattle.std.proofs.lemmas.List.{append-nil}
use Rattle.rp_print.specs.Texts.{◌⧺◌, further, indentation, joined}
use Rattle.rp_print.specs.PageSteps.{gap, written}

pub written_nil : (p : List ℕ) → written p [] ≡ p
unfolding written
written_nil p = append-nil p

pub written_beside : (p a b : List ℕ) → written p (a ⧺ b) ≡ written (written p a) b
unfolding written ◌⧺◌
written_beside p a b = sym (append_assoc p a b)

pub gap_first : (s : List ℕ) (first : Bool) → first ≡ true → gap s first ≡ []
unfolding gap
gap_first s true e = refl
gap_first s false e = absurd (cc)

pub gap_later : (s : List ℕ) (first : Bool) → first ≡ false → gap s first ≡ s
unfolding gap
gap_later s true e = absurd (cc)
gap_later s false e = refl

pub indented : (p : List ℕ) (n : ℕ) → 0 < n → written p (indentation n) ≡ written (written p (codes "    "))
    (indentation (n - 1))
unfolding indentation
indented p zero some = absurd (omega arith)
indented p (suc n) some =
    let one_less : suc n - 1 ≡ n = omega arith in
    rw one_less (written_beside p (codes "    ") (indentation n))

pub indentation_none : (p : List ℕ) → written p (indentation 0) ≡ p
unfolding indentation
indentation_none p = written_nil p

pub indented_all : (p q : List ℕ) (n : ℕ) → n ≤ 0 → written p (indentation n) ≡ q → p ≡ q
indented_all p q zero none e = sym (indentation_none p) ∙ e
indented_all p q (suc n) none e = absurd (omega arith)

-- a text behind another, where the page with the first is known
pub then_text : (page a b : List ℕ) {q : List ℕ} → q ≡ written page a → written q b ≡ written page (a ⧺ b)
then_text page a b e = ap (λ (p : List ℕ). written p b) e ∙ sym (written_beside page a b)

pub then_part : (page a b : List ℕ) {q r : List ℕ} → q ≡ written page a → r ≡ written q b → r ≡ written page (a ⧺ b)
then_part page a b e f = f ∙ then_text page a b e

-- what is left of a list: all of it, or what stands behind its first part
abbrev pub left : List ℕ → Bool → List (List ℕ) → List ℕ
left s true xs = joined s xs
left s false xs = further s xs

pub left_none : (s page : List ℕ) (first : Bool) → page ≡ written page (left s first [])
unfolding joined further
left_none s page true = sym (written_nil page)
left_none s page false = sym (written_nil page)

pub left_one : (s page : List ℕ) (first : Bool) (x : List ℕ) (xs : List (List ℕ)) {q r : List ℕ}
    → q ≡ written (written page (gap s first)) x → r ≡ written q (further s xs) → r ≡ written page (left s first
    (x ∷ xs))
unfolding joined further gap
left_one s page true x xs e f = then_part page x (further s xs) (e ∙ ap (λ (p : List ℕ). written p x)
    (written_nil page)) f
left_one s page false x xs e f = then_part page (s ⧺ x) (further s xs) (then_part page s x refl e) f

pub ruleset gaps = (
  written_nil,
  gap_first,
  gap_later,
)
