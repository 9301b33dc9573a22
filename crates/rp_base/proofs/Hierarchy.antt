-- How far the kinds of exceptions stand above one another.
use Rattle.std.proofs.Common.{◌≡◌, refl, sym, ◌∙◌, ℕ, zero, suc, ◌↔◌, Bool, true, false, true≢false, ◌||◌, IsTrue}
use denote.Enum.Bare.{same_true, true_same}
use Rattle.rp_base.specs.declared.kind.Kind.{Kind}
use Rattle.rp_base.specs.declared.kind.Kind.TheVariants.{Exception, ZeroDivisionError, OverflowError, IndexError, KeyError, UnboundLocalError, RecursionError, ForbiddenAttribute}
use Rattle.rp_base.specs.contracts.kind.Kind.{the_type}
use Rattle.rp_base.specs.Kind.{is_same_kind, is_under, reaches}

one_parent : (b : Bool) → IsTrue ((b || false) || false) → IsTrue b
one_parent true t = refl
one_parent false t = t

two_parents : (b : Bool) → IsTrue ((b || false) || ((b || false) || false)) → IsTrue b
two_parents true t = refl
two_parents false t = t

-- what the test calls one kind is one kind
is_one : (a b : Kind) → IsTrue (is_same_kind a b) → a ≡ b
is_one = same_true the_type tt

-- every kind stands at or under `Exception`
reaches-Exception : (kind : Kind) → (n : ℕ) × IsTrue (reaches n kind Exception)
reaches-Exception Exception = (0, refl)
reaches-Exception ZeroDivisionError = (2, refl)
reaches-Exception OverflowError = (2, refl)
reaches-Exception IndexError = (2, refl)
reaches-Exception KeyError = (2, refl)
reaches-Exception UnboundLocalError = (2, refl)
reaches-Exception RecursionError = (2, refl)
reaches-Exception ForbiddenAttribute = (2, refl)
reaches-Exception _ = (1, refl)

-- two steps above a kind there is at most `Exception`
reaches-two : (kind handler : Kind) → IsTrue (reaches 2 kind handler) → Exception ≡ handler
reaches-two ZeroDivisionError handler t = is_one _ _ (one_parent _ t)
reaches-two OverflowError handler t = is_one _ _ (one_parent _ t)
reaches-two IndexError handler t = is_one _ _ (one_parent _ t)
reaches-two KeyError handler t = is_one _ _ (one_parent _ t)
reaches-two UnboundLocalError handler t = is_one _ _ (one_parent _ t)
reaches-two RecursionError handler t = is_one _ _ (one_parent _ t)
reaches-two ForbiddenAttribute handler t = is_one _ _ (two_parents _ t)
reaches-two _ handler t = cc

-- three steps above a kind there is none
reaches-three : (n : ℕ) (kind handler : Kind) → reaches (suc (suc (suc n))) kind handler ≡ false
reaches-three n Exception handler = refl
reaches-three n _ handler = refl

-- one kind stands at itself
pub at_one : (b : Bool) (kind handler : Kind) → b ≡ true → kind ≡ handler → IsTrue b ↔ ((n : ℕ) × IsTrue (reaches n kind handler))
at_one b kind handler is e = (λ _. (0, true_same the_type kind handler e), λ _. is)

-- every kind stands at or under `Exception`
pub at_Exception : (b : Bool) (kind handler : Kind) → b ≡ true → handler ≡ Exception → IsTrue b ↔ ((n : ℕ) × IsTrue (reaches n kind handler))
at_Exception b kind handler is e = (λ _. rw e (reaches-Exception kind), λ _. is)

-- every other pair of kinds stands one step apart or not at all
pub at_others : (kind handler : Kind) → (kind ≡ handler → ⊥) → (handler ≡ Exception → ⊥) → IsTrue (reaches 1 kind handler) ↔ ((n : ℕ) × IsTrue (reaches n kind handler))
at_others kind handler other lower = (λ t. (1, t), λ (n, t). back n t)
  where
    back : (n : ℕ) → IsTrue (reaches n kind handler) → IsTrue (reaches 1 kind handler)
    back zero t = absurd (other (is_one kind handler t))
    back (suc zero) t = t
    back (suc (suc zero)) t = absurd (lower (sym (reaches-two kind handler t)))
    back (suc (suc (suc n))) t = let none = reaches-three n kind handler in cc

same_truth : (a b : Bool) → (IsTrue a → IsTrue b) → (IsTrue b → IsTrue a) → a ≡ b
same_truth true b there back = sym (there refl)
same_truth false true there back = back refl
same_truth false false there back = refl

under-first : (a b c : Bool) → IsTrue a → IsTrue (a || (b || c))
under-first true b c t = refl
under-first false b c t = absurd (true≢false (sym t))

under-second : (a b c : Bool) → IsTrue b → IsTrue (a || (b || c))
under-second true b c t = refl
under-second false true c t = refl
under-second false false c t = absurd (true≢false (sym t))

under-third : (a b c : Bool) → IsTrue c → IsTrue (a || (b || c))
under-third true b c t = refl
under-third false true c t = refl
under-third false false c t = t

-- a kind that so many steps lead to from another is one that this one stands under
under-reaches : (kind handler : Kind) (n : ℕ) → IsTrue (reaches n kind handler) → IsTrue (is_under kind handler)
under-reaches kind handler zero t = under-first (reaches 0 kind handler) (reaches 1 kind handler) (reaches 2 kind handler) t
under-reaches kind handler (suc zero) t = under-second (reaches 0 kind handler) (reaches 1 kind handler) (reaches 2 kind handler) t
under-reaches kind handler (suc (suc zero)) t = under-third (reaches 0 kind handler) (reaches 1 kind handler) (reaches 2 kind handler) t
under-reaches kind handler (suc (suc (suc n))) t = absurd (true≢false (sym t ∙ reaches-three n kind handler))

-- one that stands under another is some steps below it
reaches-under : (kind handler : Kind) → IsTrue (is_under kind handler) → (n : ℕ) × IsTrue (reaches n kind handler)
reaches-under kind handler t = by (reaches 0 kind handler) (reaches 1 kind handler) (reaches 2 kind handler) refl refl refl t
  where
    by : (a b c : Bool) → reaches 0 kind handler ≡ a → reaches 1 kind handler ≡ b → reaches 2 kind handler ≡ c → IsTrue (a || (b || c)) → (n : ℕ) × IsTrue (reaches n kind handler)
    by true b c first second third t = (0, first)
    by false true c first second third t = (1, second)
    by false false c first second third t = (2, third ∙ t)

-- what tells whether some steps lead from a kind to another tells whether it stands under it
pub is_under-decided : (b : Bool) (kind handler : Kind) → IsTrue b ↔ ((n : ℕ) × IsTrue (reaches n kind handler)) → b ≡ is_under kind handler
is_under-decided b kind handler decides =
    same_truth b (is_under kind handler) (λ t. let (n, steps) = decides.0 t in under-reaches kind handler n steps) (λ t. decides.1 (reaches-under kind handler t))
