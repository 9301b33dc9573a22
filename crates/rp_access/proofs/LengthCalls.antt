-- `len` of an instance whose class has a method for it, once that is decided; and values that are looked at through proxies.
use Rattle.std.proofs.Common.{◌≡◌, Bool, true, false, ℤ, pos, negsuc, ◌<ℤ◌, ◌≤ℤ◌, List, [], ◌∷◌, Option, Some, None, refl, sym, ap, ◌∙◌, arith}
use Rattle.std.proofs.lemmas.Bool.{false≢true}
use Rattle.std.proofs.lemmas.Int.{ints}
use Rattle.std.specs.Prelude.{IsTrue, is_some, nat_eq, if◌then◌else◌}
use Rattle.rp_base.specs.declared.native.NativeId.TheVariants as native
use Rattle.rp_base.specs.declared.value.Oid.{Oid}
use Rattle.rp_base.specs.declared.value.Rock.{Rock}
use Rattle.rp_base.specs.declared.value.Rock.TheVariants as rock
use Rattle.rp_base.specs.declared.value.Side.{Side}
use Rattle.rp_base.specs.declared.value.Value.{Value}
use Rattle.rp_base.specs.declared.value.Value.TheVariants as value
use Rattle.rp_base.specs.declared.word.TheConstants.{LEN}
use Rattle.rp_meaning.specs.Binding.{only}
use Rattle.rp_meaning.specs.BuiltIn.{length_given, not_called}
use Rattle.rp_meaning.specs.Calls as calls
use Rattle.rp_meaning.specs.Frame.{Frame, through}
use Rattle.rp_meaning.specs.Special.{Special, on_special, special}
use Rattle.rp_meaning.specs.State.{State, Outcome, heap_of}
use Rattle.rp_meaning.proofs.Laws.{then_then}
use Rattle.rp_ops.specs.Keys.{index_number}
use Rattle.rp_ops.specs.Operand.{lent}
use Rattle.rp_ops.specs.Outcome.{gives, on_value}
use Rattle.rp_proxy.specs.Taken.{owns, taken, taken_by_script}
use Rattle.rp_store.specs.Heap.{Owned}
use Rattle.rp_access.specs.CallSteps.{IsFunctionLeft, applied_by, given, needs_asked}
use Rattle.rp_access.specs.Lengths.{counted, natural_of}
use Rattle.rp_access.specs.Moment.{decided_frame}
use Rattle.rp_access.proofs.Going.{gives-then, on_same}
use Rattle.rp_access.proofs.NativeCalls.{function_is, length_called}

-- what looks through proxies sees the same of a value that was got through another

module _ {A : Type 0} (P : Value → A) (same : (at : Oid) → P (value.Prox at) ≡ P (value.Ref at)) where
  of_lent : (v : Value) → P (lent v) ≡ P v
  of_lent (value.Rock r) = refl
  of_lent (value.Ref at) = same at
  of_lent (value.Prox at) = refl

  of_through : (o v : Value) → P (through o v) ≡ P v
  of_through (value.Rock r) v = refl
  of_through (value.Ref at) v = refl
  of_through (value.Prox at) v = of_lent v

  of_script : (heap : List Owned) (side : Side) (v : Value) → P (taken_by_script heap side v) ≡ P v
  of_script heap side (value.Rock r) = refl
  of_script heap side (value.Ref at) = by (owns heap side at) where
    by : (b : Bool) → P (if b then value.Ref at else value.Prox at) ≡ P (value.Ref at)
    by true = refl
    by false = same at
  of_script heap side (value.Prox at) = by (owns heap side at) where
    by : (b : Bool) → P (if b then value.Ref at else value.Prox at) ≡ P (value.Prox at)
    by true = sym (same at)
    by false = refl

  of_taken : (heap : List Owned) (side : Side) (v : Value) → P (taken heap side v) ≡ P v
  of_taken heap side v = by (nat_eq side.0 0) where
    by : (b : Bool) → P (if b then v else taken_by_script heap side v) ≡ P v
    by true = refl
    by false = of_script heap side v

  pub seen_same : (heap : List Owned) (side : Side) (o v : Value) → P (taken heap side (through o v)) ≡ P v
  seen_same heap side o v = of_taken heap side (through o v) ∙ of_through o v

rock_taken : (heap : List Owned) (side : Side) (r : Rock) → taken heap side (value.Rock r) ≡ value.Rock r
rock_taken heap side r = by (nat_eq side.0 0) where
  by : (b : Bool) → (if b then value.Rock r else value.Rock r) ≡ value.Rock r
  by true = refl
  by false = refl

-- a length is a number of at least 0
pub length_counted : (v : Value) (s : State) → length_given v s ≡ counted (natural_of (index_number v)) s
length_counted (value.Rock rock.Nil) s = refl
length_counted (value.Rock (rock.Truth true)) s = refl
length_counted (value.Rock (rock.Truth false)) s = refl
length_counted (value.Rock (rock.Int (pos n))) s = refl
length_counted (value.Rock (rock.Int (negsuc n))) s = refl
length_counted (value.Rock (rock.Text t)) s = refl
length_counted (value.Rock (rock.Exc k t)) s = refl
length_counted (value.Rock (rock.Kind k)) s = refl
length_counted (value.Rock (rock.Native f)) s = refl
length_counted (value.Ref at) s = refl
length_counted (value.Prox at) s = refl

pub length_found : (v : Value) (found : Option ℤ) (s : State) → found ≡ natural_of (index_number v) → length_given v s ≡ counted found s
length_found v found s is = length_counted v s ∙ ap (λ o. counted o s) (sym is)

-- a number below 0, and one of at least 0

pub natural_below : (z : ℤ) → z <ℤ pos 0 → None ≡ natural_of (Some z)
natural_below (pos n) below = absurd (omega (arith, ints))
natural_below (negsuc n) below = refl

pub natural_from : (z : ℤ) → pos 0 ≤ℤ z → Some z ≡ natural_of (Some z)
natural_from (pos n) from = refl
natural_from (negsuc n) from = absurd (omega (arith, ints))

-- a length is taken as it is
length_taken : (side : Side) (v : Value) (s : State) → on_value (length_given v s) (λ v s. gives (taken (heap_of s) side v) s) ≡ length_given v s
length_taken side (value.Rock rock.Nil) s = refl
length_taken side (value.Rock (rock.Truth true)) s = ap (λ v. gives v s) (rock_taken (heap_of s) side (rock.Int (pos 1)))
length_taken side (value.Rock (rock.Truth false)) s = ap (λ v. gives v s) (rock_taken (heap_of s) side (rock.Int (pos 0)))
length_taken side (value.Rock (rock.Int (pos n))) s = ap (λ v. gives v s) (rock_taken (heap_of s) side (rock.Int (pos n)))
length_taken side (value.Rock (rock.Int (negsuc n))) s = refl
length_taken side (value.Rock (rock.Text t)) s = refl
length_taken side (value.Rock (rock.Exc k t)) s = refl
length_taken side (value.Rock (rock.Kind k)) s = refl
length_taken side (value.Rock (rock.Native f)) s = refl
length_taken side (value.Ref at) s = refl
length_taken side (value.Prox at) s = refl

module _ (code : Frame) (x : Value) where
  abbrev frame : Frame
  frame = decided_frame code

  -- what the method is called with
  abbrev method : Special → State → Outcome Value
  method m = frame.calls m.function (only (m.of ∷ []))

  abbrev last : Value → State → Outcome Value
  last v s = gives (taken (heap_of s) code.side v) s

  by_method : (m : Option Special) (t : State) → IsTrue (is_some m)
      → on_value (on_special m (length_called code) (given code.side native.Len (x ∷ [])) t) last ≡ on_value (on_special m method not_called t) length_given
  by_method None t has = absurd (false≢true has)
  by_method (Some m) t has = then_then (method m t) length_given last ∙ on_same (method m t) (λ r s. on_value (length_given r s) last) length_given (λ r s. length_taken code.side r s)

  pub length_of_call : (s t : State) → IsFunctionLeft native.Len (x ∷ []) s t
      → calls.call (value.Rock (rock.Native native.Len)) (only (x ∷ [])) frame s ≡ on_value (on_special (special (heap_of t) x LEN) method not_called t) length_given
  length_of_call s t left =
      function_is code native.Len (x ∷ []) s refl
      ∙ ap (λ o. on_value o last) (gives-then (tt {0}) t (needs_asked native.Len (x ∷ []) s) (λ _ s. applied_by (length_called code) code.side native.Len (x ∷ []) s) left.0)
      ∙ by_method (special (heap_of t) x LEN) t left.1
