-- The arguments of a call that stand at hand, as the code reads them.
use Rattle.std.proofs.Common.{◌≡◌, ◌≢◌, ◌<◌, ℕ, ◌+◌, ◌-◌, ◌*◌, List, [], ◌∷◌, ◌++◌, drop, length, reverse, take, sym, ap, ◌∙◌, arith}
use Rattle.std.proofs.lemmas.List.{length-append, length-drop, length-reverse, length-take, nil_from_length, reverse-append}
use Rattle.std.proofs.Math.Seq.{take-add, take-append_seam}
use Rattle.std.proofs.lemmas.List.Elements.{All-append, All-cons, All-drop, All-head, All-nil, All-tail, All-take, All-weaker}
use Rattle.rp_base.specs.declared.value.Value.{Value}
use Rattle.rp_base.specs.declared.value.Side.{Side}
use Rattle.rp_store.specs.Heap.{Owned}
use Rattle.rp_store.specs.Kept.{AreFit, AreSound, IsFit, IsSound}
use Rattle.rp_enter.specs.Entering.{AreNamedSound}
use Rattle.rp_meaning.specs.Binding.{Arguments, none}
use Rattle.rp_engine.specs.ArgumentSteps.{named_in, word_at}
use Rattle.rp_engine.specs.HandSteps.{held_by, size_of}
use Rattle.rp_engine.specs.declared.calling.Hand.{Hand}
use Rattle.rp_engine.proofs.Lasts.{fit_reversed}

-- the first of some values, without the last ones

counted : {A : Type 0} (p n : ℕ) (xs : List A) → length (reverse (take n (drop p xs)) ++ reverse (take p xs)) - p ≡ length (reverse (take n (drop p xs)))
counted p n xs = omega (
  arith,
  length-append (reverse (take n (drop p xs))) (reverse (take p xs)),
  length-reverse (take n (drop p xs)),
  length-reverse (take p xs),
  length-take n (drop p xs),
  length-take p xs,
  length-drop p xs,
)

front_of : {A : Type 0} (p n : ℕ) (xs : List A) → take (length (reverse (take (p + n) xs)) - p) (reverse (take (p + n) xs)) ≡ reverse (take n (drop p xs))
front_of p n xs =
    ap (λ ys. take (length ys - p) ys) (ap reverse (take-add p n xs) ∙ reverse-append (take p xs) (take n (drop p xs)))
    ∙ ap (λ k. take k (reverse (take n (drop p xs)) ++ reverse (take p xs))) (counted p n xs)
    ∙ take-append_seam (reverse (take n (drop p xs))) (reverse (take p xs))

-- those without a name
pub plain_is : (h : Hand) (vs values args : List Value) (p : ℕ) → values ≡ reverse (take (size_of h) vs) → p ≡ 2 * h.named → args ≡ take (length values - p) values → args ≡ (held_by h vs).plain
plain_is h vs values args p are last is =
    is ∙ ap (λ p. take (length values - p) values) last ∙ ap (λ ys. take (length ys - 2 * h.named) ys) are ∙ front_of (2 * h.named) h.plain vs

pub args_are : (a : Arguments) (ps : List Value) (ns : List (List ℕ × Value)) → ps ≡ a.plain → ns ≡ a.named → record { plain = ps; named = ns } ≡ a
args_are a ps ns plain named = ap (λ ps. record { plain = ps; named = ns }) plain ∙ ap (λ ns. record { plain = a.plain; named = ns }) named

-- they stand in the store
module _ (heap : List Owned) (side : Side) where
  named_sound : (vs : List Value) → AreFit heap side vs → AreNamedSound heap (named_in vs)
  named_sound [] fit = All-nil (λ (n : List ℕ × Value). IsSound heap n.1)
  named_sound (v ∷ []) fit = All-nil (λ (n : List ℕ × Value). IsSound heap n.1)
  named_sound (v ∷ word ∷ vs) fit =
      All-append (λ (n : List ℕ × Value). IsSound heap n.1) (named_in vs) ((word_at word, v) ∷ []) (named_sound vs (All-tail (IsFit heap side) word vs (All-tail (IsFit heap side) v (word ∷ vs) fit)))
      (All-cons (λ (n : List ℕ × Value). IsSound heap n.1) (word_at word, v) [] (All-head (IsFit heap side) v (word ∷ vs) fit).0 (All-nil (λ (n : List ℕ × Value). IsSound heap n.1)))

  pub held_named_sound : (h : Hand) (vs : List Value) → AreFit heap side vs → AreNamedSound heap (held_by h vs).named
  held_named_sound h vs fit = named_sound (take (2 * h.named) vs) (All-take (IsFit heap side) (2 * h.named) vs fit)

  pub plain_sound : (h : Hand) (vs : List Value) → AreFit heap side vs → AreSound heap (held_by h vs).plain
  plain_sound h vs fit = All-weaker (IsFit heap side) (IsSound heap) (λ v f. f.0) (held_by h vs).plain
      (fit_reversed heap side (take h.plain (drop (2 * h.named) vs)) (All-take (IsFit heap side) h.plain (drop (2 * h.named) vs) (All-drop (IsFit heap side) (2 * h.named) vs fit)))

-- there are arguments, or none

pub no_args : (h : Hand) (vs : List Value) (plain named : ℕ) → plain ≡ length (held_by h vs).plain → named ≡ length (held_by h vs).named → plain ≡ 0 → named ≡ 0
    → held_by h vs ≡ none
no_args h vs plain named ps ns no_plain no_named =
    sym (args_are (held_by h vs) [] [] (sym (nil_from_length (held_by h vs).plain (sym ps ∙ no_plain))) (sym (nil_from_length (held_by h vs).named (sym ns ∙ no_named))))

pub some_args : {A : Type 0} (xs : List A) (n : ℕ) → n ≡ length xs → 0 < n → xs ≢ []
some_args xs n is some = λ e. let k : length xs ≡ 0 = ap length e in absurd (omega (arith, is, some, k))
