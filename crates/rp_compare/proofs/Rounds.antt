-- One round of a walk over two lists or two dicts, and its end.
use Rattle.std.proofs.Common.{◌≡◌, ◌≢◌, ◌⊎◌, inl, inr, ℕ, zero, suc, ◌-◌, Bool, true, false, List, [], ◌∷◌, Option, Some, None, Result, Ok, Err, IsErrAnd, Bor, if◌then◌else◌, refl, sym, ap, ◌∙◌, subst, eq-eqb, arith}
use Rattle.std.specs.List.{zip}
use Rattle.std.specs.Map.{lookup}
use Rattle.std.specs.Option.{option_copied}
use Rattle.rp_base.specs.declared.value.OpEnd.{OpEnd}
use Rattle.rp_base.specs.declared.value.Rock.{Rock}
use Rattle.rp_base.specs.declared.value.Value.{Value}
use Rattle.rp_store.specs.Key.{same_key}
use Rattle.rp_store.specs.Object.{Entries}
use Rattle.rp_store.specs.contracts.key.KeyPartialEq.TheImpl as key_block
use Rattle.rp_store.specs.declared.key.Key.{Key}
use Rattle.rp_ops.specs.Outcome.{Meets, State, Outcome, gives, on_value}
use Rattle.rp_compare.specs.Equality.{all_equal, equal, of_length, within}
use Rattle.rp_ops.proofs.CallerLemmas.{meets-passes}
use Rattle.rp_store.proofs.CallerLemmas.{same_by_cases}

pub of_length-same : (m n : ℕ) (s : State) (o : Outcome Bool) → m ≡ n → of_length m n s o ≡ o
of_length-same m n s o e = rw (eq-eqb m n e) refl

-- ---- rounds

module _ {A : Type 0} (one : A → State → Outcome Bool) where
  -- what follows the test of the first
  abbrev pub goes_on : List A → Bool → State → Outcome Bool
  goes_on more b s = if b then all_equal one more s else gives false s

  pub all-next : (left more : List A) (x : A) (b want : Bool) (s t : State) → left ≡ x ∷ more → one x s ≡ gives b t → b ≡ want → all_equal one left s ≡ goes_on more want t
  all-next left more x b want s t e tested is =
      ap (λ (l : List A). all_equal one l s) e ∙ ap (λ (o : Outcome Bool). on_value o (goes_on more)) tested ∙ ap (λ (c : Bool). goes_on more c t) is

  pub all-stops : (result : Result Bool OpEnd) (e : OpEnd) (left more : List A) (x : A) (s t : State) → left ≡ x ∷ more → IsErrAnd result (λ f. f ≡ e)
      → Meets {A = Bool} (Err e) t (one x s) → Meets result t (all_equal one left s)
  all-stops (Ok b) e left more x s t is over h = absurd over
  all-stops (Err f) e left more x s t is over h =
      subst (λ (g : OpEnd). Meets {A = Bool} (Err g) t (all_equal one left s)) (sym over)
      (subst (λ (l : List A). Meets {A = Bool} (Err e) t (all_equal one l s)) (sym is) (meets-passes e t (one x s) (goes_on more) h))

  pub all-end : (left : List A) (s : State) → left ≡ [] → all_equal one left s ≡ gives true s
  all-end left s e = ap (λ (l : List A). all_equal one l s) e

-- the next pair of two lists, and their end
pub zip-next : {A : Type 0} (xs ys more others : List A) (x y : A) → xs ≡ x ∷ more → ys ≡ y ∷ others → zip xs ys ≡ (x, y) ∷ zip more others
zip-next xs ys more others x y e f = ap (λ (l : List _). zip l ys) e ∙ ap (zip (x ∷ more)) f

pub zip-end : {A : Type 0} (xs ys : List A) → (xs ≡ []) ⊎ (ys ≡ []) → zip xs ys ≡ []
zip-end xs ys (inl e) = ap (λ (l : List _). zip l ys) e
zip-end [] ys (inr e) = refl
zip-end (x ∷ xs) ys (inr e) = ap (zip (x ∷ xs)) e

-- ---- depth

pub within-zero : (d : ℕ) → d ≡ 0 → within d ≡ None
unfolding within
within-zero d e = ap within e

pub within-next : (d : ℕ) → d ≢ 0 → within d ≡ Some (equal (d - 1))
unfolding within
within-next zero h = absurd (h refl)
within-next (suc d) h =
    let e : suc d - 1 ≡ d = omega arith in
    ap (λ (n : ℕ). Some (equal n)) (sym e)

-- ---- keys

-- what a dict has at a key, as it hands it out
pub looked-up : (fs : Entries) (k : Key) (r : Option (Bor (Rock × Value))) → option_copied r ≡ lookup ((key_block.ghosts).eq k) fs → lookup (same_key k) fs ≡ option_copied r
looked-up fs k r e = ap (λ (test : Key → Bool). lookup test fs) (λ j y. sym (same_by_cases k y) j) ∙ sym e
