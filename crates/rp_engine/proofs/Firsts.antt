-- What holds at an answer of a list, from what holds of its first element and the part behind it; and of its empty form.
use Rattle.std.proofs.Common.{◌≡◌, ◌<◌, ◌≤◌, ◌-◌, List, [], ◌∷◌, length, get_or, take, drop, Result, sym, ap, ◌∙◌, subst, arith}
use Rattle.std.specs.Prelude.{OnOk}
use Rattle.std.proofs.lemmas.List.{take_all}
use Rattle.rp_base.specs.declared.value.Value.{Value}
use Rattle.rp_meaning.specs.Expressions as forms
use Rattle.rp_meaning.specs.Frame.{Meaning, Run}
use Rattle.rp_meaning.specs.State.{State}
use Rattle.rp_ops.specs.Outcome.{gives}
use Rattle.rp_proxy.specs.declared.world.World.{World}
use Rattle.rp_engine.specs.ComparisonSteps.{with_test}
use Rattle.rp_engine.specs.Does as does
use Rattle.rp_engine.specs.ExpressionSteps.{step_to}
use Rattle.rp_engine.specs.Law.{Evaluates, frame_in, rest_of}
use Rattle.rp_access.specs.Moment.{state_of}
use Rattle.rp_engine.specs.Rest.{gave, rest}
use Rattle.rp_engine.specs.declared.halt.Halt.{Halt}
use Rattle.rp_engine.specs.declared.machine.Machine.{Machine}
use Rattle.rp_access.proofs.Lists.{first_rest, none_left}
use Rattle.rp_engine.proofs.Moves.{goes_ok, on_ok}
use Rattle.rp_tree.specs.declared.expr.Expr.{Expr}
use Rattle.rp_tree.specs.declared.parts.Test.{Test}

module _ {A : Type 0} (r : Result (Unit {0}) Halt) (P : List A → Type 0) (xs : List A) where
  pub of_first : (x : A) → 1 ≤ length xs → x ≡ get_or xs 0 x → OnOk r (P (x ∷ take (length xs - 1) (drop 1 xs))) → OnOk r (P xs)
  of_first x some is law = subst (λ (ys : List A). OnOk r (P ys)) (first_rest xs x some is) law

  pub of_none : length xs < 1 → OnOk r (P []) → OnOk r (P xs)
  of_none none law = subst (λ (ys : List A). OnOk r (P ys)) (sym (none_left xs none)) law

-- a value is given
module _ (m n : Machine) (r : Result (Unit {0}) Halt) (M : Meaning) (v : Value) where
  pub gives_ok : (w : World) → ((base : Run) → M (frame_in base m) (state_of w) ≡ gives v (state_of w))
      → OnOk r ((base : Run) (s : State) → rest_of base n s ≡ rest m.tasks (gave (frame_in base m) m.values (gives v s))) → OnOk r (Evaluates M m w n w)
  gives_ok w same law = goes_ok m n w w r M (λ f s. gives v s) same law

  -- in any world
  pub gives_any : ((base : Run) (s : State) → M (frame_in base m) s ≡ gives v s)
      → OnOk r ((base : Run) (s : State) → rest_of base n s ≡ rest m.tasks (gave (frame_in base m) m.values (gives v s))) → OnOk r ((w : World) → Evaluates M m w n w)
  gives_any same h = on_ok r ((base : Run) (s : State) → rest_of base n s ≡ rest m.tasks (gave (frame_in base m) m.values (gives v s))) ((w : World) → Evaluates M m w n w)
      (λ law w base. law base (state_of w) ∙ ap (λ o. rest m.tasks (gave (frame_in base m) m.values o)) (sym (same base (state_of w)))) h

-- what is gone on with, in any world
pub goes_any : (m n : Machine) (r : Result (Unit {0}) Halt) (M : Meaning)
    → OnOk r ((base : Run) (s : State) → rest_of base n s ≡ rest m.tasks (gave (frame_in base m) m.values (M (frame_in base m) s))) → OnOk r ((w : World) → Evaluates M m w n w)
goes_any m n r M h = on_ok r ((base : Run) (s : State) → rest_of base n s ≡ rest m.tasks (gave (frame_in base m) m.values (M (frame_in base m) s))) ((w : World) → Evaluates M m w n w)
    (λ law w base. law base (state_of w)) h

-- the tests of a comparison, from the next one on
pub tests_front : (m n : Machine) (w v : World) (r : Result (Unit {0}) Halt) (a : Value) (xs : List (Test × Expr)) (p q : Test × Expr) → 1 ≤ length xs
    → OnOk r (Evaluates (step_to (does.expr (get_or xs 0 q).1) (with_test (get_or xs 0 p).0 a (does.tests (take (length xs - 1) (drop 1 xs))))) m w n v)
    → OnOk r (Evaluates (forms.tests (does.tests xs) a) m w n v)
tests_front m n w v r a [] p q some law = absurd (omega arith)
tests_front m n w v r a (y ∷ ys) p q some law =
    subst (λ (zs : List (Test × Expr)). OnOk r (Evaluates (step_to (does.expr y.1) (with_test y.0 a (does.tests zs))) m w n v))
    (take_all (length (y ∷ ys) - 1) ys (omega arith)) law
