-- Operations that are left to special methods, once they are decided: what the code asks for is what the forms of rp_meaning do.
use Rattle.std.proofs.Common.{◌≡◌, ℕ, zero, suc, Bool, List, [], ◌∷◌, drop, reverse, take, Option, Some, None, refl, sym, ap, ◌∙◌}
use Rattle.std.specs.Prelude.{IsTrue, is_some, not, option_map}
use Rattle.std.proofs.lemmas.Bool.{false≢true}
use Rattle.std.proofs.lemmas.List.{reverse-reverse}
use Rattle.rp_base.specs.declared.native.NativeId.TheVariants as native
use Rattle.rp_base.specs.declared.value.Name.{Name}
use Rattle.rp_base.specs.declared.value.Oid.{Oid}
use Rattle.rp_base.specs.declared.value.Rock.TheVariants as rock
use Rattle.rp_base.specs.declared.value.Value.{Value}
use Rattle.rp_base.specs.declared.value.Value.TheVariants as value
use Rattle.rp_base.specs.declared.word.TheConstants.{CONTAINS, DEL_ITEM, GET_ITEM, LEN, SET_ITEM}
use Rattle.rp_compare.specs.Membership as membership
use Rattle.rp_frame.specs.Top.{below, top}
use Rattle.rp_frame.specs.declared.activation.Activation.{Activation}
use Rattle.rp_items.specs.Items as items
use Rattle.rp_meaning.specs.Access.{del_item, get_item, is_within, set_item}
use Rattle.rp_meaning.specs.Access as access
use Rattle.rp_meaning.specs.Binding.{only}
use Rattle.rp_meaning.specs.BuiltIn.{length_given, not_called}
use Rattle.rp_meaning.specs.Calls as calls
use Rattle.rp_meaning.specs.Frame.{Frame, Meaning, Run, asked_for, got}
use Rattle.rp_meaning.specs.Operators.{tested}
use Rattle.rp_meaning.specs.Special.{Special, on_special, special}
use Rattle.rp_meaning.specs.State.{State, Outcome, Flow, done, heap_of, plainly, plainly_done}
use Rattle.rp_meaning.proofs.Laws.{then_then}
use Rattle.rp_ops.specs.Operand.{truth_of}
use Rattle.rp_ops.specs.Outcome.{gives, on_value}
use Rattle.rp_tree.specs.declared.parts.Test.{Test}
use Rattle.rp_tree.specs.declared.parts.Test.TheVariants as test
use Rattle.rp_access.specs.Calling.{IsCallLeft}
use Rattle.rp_access.specs.Comparisons.{IsTestLeft}
use Rattle.rp_access.specs.Parts.{IsForMethod, asking}
use Rattle.rp_access.proofs.Going.{gives-then, on_same}
use Rattle.rp_access.proofs.LengthCalls.{length_of_call, seen_same}
use Rattle.rp_engine.specs.ComparisonSteps.{by_test, with_test}
use Rattle.rp_engine.specs.DefinitionSteps.{callee_of}
use Rattle.rp_engine.specs.Moment.{frame_of, run_of}
use Rattle.rp_engine.specs.SpecialSteps.{called_by, holds_by, special_called, with_contained}
use Rattle.rp_engine.specs.declared.units.Units.{Units}
use Rattle.rp_engine.proofs.Going.{asked_then}

module _ (base : Run) (units : Units) (a : Activation) where
  abbrev frame : Frame
  frame = frame_of (run_of base units) a

  -- it is decided
  left_then : {A : Type 0} (name : Name) (o : Value) (s t : State) (go : State → Outcome A) → IsForMethod name o s t → asked_for frame name o s go ≡ go t
  left_then name o s t go left = asked_then base units a name o s go ∙ gives-then (tt {0}) t (asking name o s) (λ _ s. go s) left.0

  abbrev call : List Value → Special → State → Outcome Value
  call vs m = frame.calls m.function (only (m.of ∷ vs))

  -- an item that is read

  item_by : (m : Option Special) (o i : Value) (t : State) → IsTrue (is_some m)
      → on_value (on_special m (call (i ∷ [])) (plainly (items.item o i)) t) (λ v s. got o v frame s) ≡ called_by m o (i ∷ []) frame t
  item_by (Some m) o i t has = refl
  item_by None o i t has = absurd (false≢true has)

  pub item_left : (o i : Value) (s t : State) → IsForMethod GET_ITEM o s t → get_item o i frame s ≡ special_called GET_ITEM o (i ∷ []) frame t
  item_left o i s t left =
      left_then GET_ITEM o s t (λ s. on_value (on_special (special (heap_of s) o GET_ITEM) (call (i ∷ [])) (plainly (items.item o i)) s) (λ v s. got o v frame s)) left
      ∙ item_by (special (heap_of t) o GET_ITEM) o i t left.1

  -- what a method that is called for what it does gives is dropped

  dropped_by : (m : Option Special) (o : Value) (vs : List Value) (plain : State → Outcome Flow) (t : State) → IsTrue (is_some m)
      → on_special m (λ m s. access.called (call vs m s)) plain t ≡ on_value (called_by m o vs frame t) (λ v s. done s)
  dropped_by (Some m) o vs plain t has = sym (then_then (call vs m t) (λ r s. got o r frame s) (λ v s. done s))
  dropped_by None o vs plain t has = absurd (false≢true has)

  pub store_left : (o i v : Value) (s t : State) → IsForMethod SET_ITEM o s t
      → set_item o i v frame s ≡ on_value (special_called SET_ITEM o (i ∷ v ∷ []) frame t) (λ v s. done s)
  store_left o i v s t left =
      left_then SET_ITEM o s t (λ s. on_special (special (heap_of s) o SET_ITEM) (λ m s. access.called (call (i ∷ v ∷ []) m s)) (plainly_done (items.set_item o i v)) s) left
      ∙ dropped_by (special (heap_of t) o SET_ITEM) o (i ∷ v ∷ []) (plainly_done (items.set_item o i v)) t left.1

  pub delete_left : (o i : Value) (s t : State) → IsForMethod DEL_ITEM o s t
      → del_item o i frame s ≡ on_value (special_called DEL_ITEM o (i ∷ []) frame t) (λ v s. done s)
  delete_left o i s t left =
      left_then DEL_ITEM o s t (λ s. on_special (special (heap_of s) o DEL_ITEM) (λ m s. access.called (call (i ∷ []) m s)) (plainly_done (items.del_item o i)) s) left
      ∙ dropped_by (special (heap_of t) o DEL_ITEM) o (i ∷ []) (plainly_done (items.del_item o i)) t left.1

  -- a membership

  abbrev truth : Value → State → Outcome Bool
  truth r s = gives (truth_of (heap_of s) r) s

  within_by : (m : Option Special) (v o : Value) (t : State) → IsTrue (is_some m)
      → on_special m (λ m s. on_value (call (v ∷ []) m s) truth) (plainly (membership.contains v o)) t ≡ on_value (called_by m o (v ∷ []) frame t) truth
  within_by (Some m) v o t has =
      sym (then_then (call (v ∷ []) m t) (λ r s. got o r frame s) truth
      ∙ on_same (call (v ∷ []) m t) (λ r s. on_value (got o r frame s) truth) truth
      (λ r s. ap (λ b. gives b s) (seen_same (truth_of (heap_of s)) (λ at. refl) (heap_of s) a.side o r)))
  within_by None v o t has = absurd (false≢true has)

  within_left : (v o : Value) (s t : State) → IsForMethod CONTAINS o s t → is_within v o frame s ≡ on_value (special_called CONTAINS o (v ∷ []) frame t) truth
  within_left v o s t left =
      left_then CONTAINS o s t (λ s. on_special (special (heap_of s) o CONTAINS) (λ m s. on_value (call (v ∷ []) m s) truth) (plainly (membership.contains v o)) s) left
      ∙ within_by (special (heap_of t) o CONTAINS) v o t left.1

  abbrev holds : Test → Value → State → Outcome Bool
  holds x r s = gives (holds_by x (truth_of (heap_of s) r)) s

  tested_left : (x : Test) (v o : Value) (s t : State) → IsTestLeft x o s t → tested x v o frame s ≡ on_value (special_called CONTAINS o (v ∷ []) frame t) (holds x)
  tested_left (test.Order op) v o s t left = absurd left
  tested_left test.Within v o s t left = within_left v o s t left
  tested_left test.NotWithin v o s t left =
      ap (λ o. on_value o (λ r s. gives (not r) s)) (within_left v o s t left)
      ∙ then_then (special_called CONTAINS o (v ∷ []) frame t) truth (λ r s. gives (not r) s)
  tested_left test.Is v o s t left = absurd left
  tested_left test.IsNot v o s t left = absurd left

  pub test_left : (x : Test) (v o : Value) (ts : List (Test × Meaning)) (s t : State) → IsTestLeft x o s t
      → with_test x v ts o frame s ≡ on_value (special_called CONTAINS o (v ∷ []) frame t) (λ r s. with_contained x o ts r frame s)
  test_left x v o ts s t left =
      ap (λ p. on_value p (λ r s. by_test r o ts frame s)) (tested_left x v o s t left)
      ∙ then_then (special_called CONTAINS o (v ∷ []) frame t) (holds x) (λ r s. by_test r o ts frame s)

  -- `len` of the only argument

  length_got : (m : Option Special) (x : Value) (t : State)
      → on_value (on_special m (call []) not_called t) length_given ≡ on_value (called_by m x [] frame t) length_given
  length_got m x t =
      sym (then_then (on_special m (call []) not_called t) (λ r s. got x r frame s) length_given
      ∙ on_same (on_special m (call []) not_called t) (λ r s. on_value (got x r frame s) length_given) length_given
      (λ r s. seen_same (λ r. length_given r s) (λ at. refl) (heap_of s) a.side x r))

  length_left : (x : Value) (s t : State) → IsCallLeft (value.Rock (rock.Native native.Len)) (x ∷ []) s t
      → calls.call (value.Rock (rock.Native native.Len)) (only (x ∷ [])) frame s ≡ on_value (special_called LEN x [] frame t) length_given
  length_left x s t left = length_of_call frame x s t left ∙ length_got (special (heap_of t) x LEN) x t

  pub function_left : (v x : Value) (vs : List Value) (s t : State) → callee_of v ≡ None → ((y : Value) → vs ≡ y ∷ [] → x ≡ y) → IsCallLeft v vs s t
      → calls.call v (only vs) frame s ≡ on_value (special_called LEN x [] frame t) length_given
  function_left (value.Rock (rock.Native native.Len)) x (y ∷ []) s t none only_one left =
      length_left y s t left ∙ ap (λ x. on_value (special_called LEN x [] frame t) length_given) (sym (only_one y refl))
  function_left (value.Rock (rock.Native native.Len)) x [] s t none only_one left = absurd left.1
  function_left (value.Rock (rock.Native native.Len)) x (y ∷ z ∷ zs) s t none only_one left = absurd left.1
  function_left (value.Rock (rock.Native id)) x vs s t none only_one left = absurd left.1
  function_left (value.Rock r) x vs s t none only_one left = absurd left
  function_left (value.Ref at) x vs s t none only_one left = let k : Some at ≡ None = ap (option_map (λ (p : Oid × Bool). p.0)) none in absurd (cc)
  function_left (value.Prox at) x vs s t none only_one left = let k : Some at ≡ None = ap (option_map (λ (p : Oid × Bool). p.0)) none in absurd (cc)

-- the only argument is the last value at hand

first_is : (n : ℕ) (vs : List Value) (x : Value) → take n vs ≡ x ∷ [] → top vs ≡ x
first_is zero vs x e = let k : [] ≡ x ∷ [] = e in absurd (cc)
first_is (suc n) [] x e = let k : [] ≡ x ∷ [] = e in absurd (cc)
first_is (suc n) (v ∷ vs) x e = let same : v ≡ x = cc in same

pub last_is : (n : ℕ) (vs : List Value) (x : Value) → reverse (take n vs) ≡ x ∷ [] → top vs ≡ x
last_is n vs x e = first_is n vs x (sym (reverse-reverse (take n vs)) ∙ ap reverse e)

pub drop_below : (n : ℕ) (vs : List Value) → drop n (below vs) ≡ drop (suc n) vs
drop_below zero [] = refl
drop_below (suc n) [] = refl
drop_below n (v ∷ vs) = refl
