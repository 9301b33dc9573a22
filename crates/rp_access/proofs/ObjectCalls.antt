-- Calls of objects and other values, from what is known of the decision and of what is called.
use Rattle.std.proofs.Common.{◌≡◌, ◌≢◌, List, false, Option, Some, None, IsSomeAnd, Result, Ok, Err, refl, sym, ap, ◌∙◌, subst}
use Rattle.std.specs.Option.{option_map}
use Rattle.std.specs.Prelude.{is_some, slice_get}
use mathlib.Core.Path.{fun_ext}
use Rattle.rp_base.specs.declared.kind.Kind.{Kind}
use Rattle.rp_base.specs.declared.native.NativeId.{NativeId}
use Rattle.rp_base.specs.declared.value.Oid.{Oid}
use Rattle.rp_base.specs.declared.value.OpEnd.{OpEnd}
use Rattle.rp_base.specs.declared.value.Rock.{Rock}
use Rattle.rp_base.specs.declared.value.Rock.TheVariants as rock
use Rattle.rp_base.specs.declared.value.Side.{Side}
use Rattle.rp_base.specs.declared.value.Value.{Value}
use Rattle.rp_base.specs.declared.value.Value.TheVariants as value
use Rattle.rp_base.specs.declared.word.TheConstants.{CALL}
use Rattle.rp_meaning.specs.Binding.{Arguments, only}
use Rattle.rp_meaning.specs.BuiltIn as built_in
use Rattle.rp_meaning.specs.BuiltIn.{not_called}
use Rattle.rp_meaning.specs.Calls as calls
use Rattle.rp_meaning.specs.Frame.{Frame, through}
use Rattle.rp_meaning.specs.Special.{Special}
use Rattle.rp_meaning.specs.State.{State, Outcome, choose, heap_of, plainly}
use Rattle.rp_attributes.specs.BuiltIns.{counts_of, receiver_of}
use Rattle.rp_methods.specs.Methods.{method}
use Rattle.rp_ops.specs.Outcome.{gives, on_value}
use Rattle.rp_proxy.specs.Taken.{taken}
use Rattle.rp_proxy.specs.declared.world.World.{World}
use Rattle.rp_store.specs.Heap.{Owned, Names, content_at, owner_at}
use Rattle.rp_store.specs.Object as object
use Rattle.rp_store.specs.Object.{Content}
use Rattle.rp_store.specs.declared.object.Callee.TheVariants as callee
use Rattle.rp_access.specs.CallSteps.{bound_by, function_by, is_form, kind_by, method_by}
use Rattle.rp_access.specs.Calling.{CallComes, IsCallLeft}
use Rattle.rp_access.specs.Callees.{IsAt, IsCode, IsUncalled}
use Rattle.rp_access.specs.Comes.{ComesIfAny, IsEnd}
use Rattle.rp_access.specs.Moment.{decided_frame, state_of}
use Rattle.rp_access.specs.Natives.{natives}
use Rattle.rp_access.specs.Parts.{asking}
use Rattle.rp_access.proofs.Going.{IsEnd-same, IsEnd-then, asked_then, gives-then}
use Rattle.rp_access.proofs.Known.{ComesIfAny-same}
use Rattle.rp_access.proofs.NativeCalls.{function_is, kind_is, length_called, needs_then}

module _ (code : Frame) where
  abbrev pub frame : Frame
  frame = decided_frame code

  -- a built-in method
  method_is : (owner : Side) (receiver : Value) (id : NativeId) (vs : List Value) (s : State) → built_in.method_call owner receiver id (only vs) frame s ≡ method_by owner receiver id vs s
  unfolding natives
  method_is owner receiver id vs s =
      ap (λ (go : State → Outcome Value). choose (is_some (counts_of (receiver_of (heap_of s) receiver) id)) go not_called s)
      (fun_ext (λ s. needs_then code id vs s (plainly (method owner receiver id vs))))

  -- what is got through a value
  abbrev pub got : Value → Value → State → Outcome Value
  got f r s = gives (taken (heap_of s) code.side (through f r)) s

  abbrev pub found : Oid → Arguments → State → Outcome Value
  found o a s = calls.found_call o (slice_get (heap_of s) o.0) a frame s

  reference_is : (f : Value) (o : Oid) (a : Arguments) (s : State)
      → calls.reference_call f o a frame s ≡ on_value (asking CALL f s) (λ _ s. on_value (found o a s) (λ r s. got f r s))
  reference_is f o a s = asked_then code CALL f s (λ s. on_value (found o a s) (λ r s. got f r s))

  pub call_is : (f : Value) (o : Oid) (a : Arguments) (s : State) → IsAt f o
      → calls.call f a frame s ≡ on_value (asking CALL f s) (λ _ s. on_value (found o a s) (λ r s. got f r s))
  call_is (value.Rock r) o a s named = absurd named
  call_is (value.Ref other) o a s named =
      reference_is (value.Ref other) other a s
      ∙ ap (λ (o : Oid). on_value (asking CALL (value.Ref other) s) (λ _ s. on_value (found o a s) (λ r s. got (value.Ref other) r s))) named
  call_is (value.Prox other) o a s named =
      reference_is (value.Prox other) other a s
      ∙ ap (λ (o : Oid). on_value (asking CALL (value.Prox other) s) (λ _ s. on_value (found o a s) (λ r s. got (value.Prox other) r s))) named

  -- an object that may not be called
  uncalled : (o : Oid) (x : Owned) (a : Arguments) (s : State) → IsUncalled (heap_of s) o x.content → calls.object_call o x.owner x.content a frame s ≡ not_called s
  uncalled o x a s h = by x.content h where
    by : (c : Content) → IsUncalled (heap_of s) o c → calls.object_call o x.owner c a frame s ≡ not_called s
    by (object.function name unit block within defaults) h = absurd h
    by (object.method receiver called) h = absurd h
    by (object.class name declared methods) h = absurd h
    by (object.instance of fields) h = rw h refl
    by c h = refl

  pub found_uncalled : (o : Oid) (a : Arguments) (s : State) → Names (heap_of s) (IsUncalled (heap_of s) o) o → found o a s ≡ not_called s
  found_uncalled o a s h = by (slice_get (heap_of s) o.0) h where
    by : (x : Option Owned) → IsSomeAnd (option_map (λ o. o.content) x) (IsUncalled (heap_of s) o) → calls.found_call o x a frame s ≡ not_called s
    by None h = absurd h
    by (Some x) h = uncalled o x a s h

  found_method : (o : Oid) (owner : Side) (receiver : Value) (id : NativeId) (vs : List Value) (s : State)
      → slice_get (heap_of s) o.0 ≡ Some (record { owner = owner; content = object.method receiver (callee.Native id) }) → found o (only vs) s ≡ method_by owner receiver id vs s
  found_method o owner receiver id vs s is =
      ap (λ (x : Option Owned). calls.found_call o x (only vs) frame s) is ∙ method_is owner receiver id vs s

module _ (side : Side) (f : Value) (o : Oid) (vs : List Value) (w t u : World) (named : IsAt f o) where
  -- it may not be decided so
  pub asked_ends : (e : OpEnd) → IsEnd e (state_of u) (asking CALL f (state_of w)) → CallComes side f vs (Err e) w u
  asked_ends e is code same =
      IsEnd-same e (state_of u) _ _ (call_is code f o (only vs) (state_of w) named)
      (IsEnd-then e (state_of u) (asking CALL f (state_of w)) (λ _ s. on_value (found code o (only vs) s) (λ r s. got code f r s)) is)

  module _ (asked : asking CALL f (state_of w) ≡ gives (tt {0}) (state_of t)) where
    behind : (code : Frame) (p : Outcome Value) → found code o (only vs) (state_of t) ≡ p
        → calls.call f (only vs) (frame code) (state_of w) ≡ on_value p (λ r s. got code f r s)
    behind code p is =
        call_is code f o (only vs) (state_of w) named
        ∙ gives-then (tt {0}) (state_of t) (asking CALL f (state_of w)) (λ _ s. on_value (found code o (only vs) s) (λ r s. got code f r s)) asked
        ∙ ap (λ p. on_value p (λ r s. got code f r s)) is

    -- it may not be called
    pub nothing_comes : (e : OpEnd) → Names t.store.heap (IsUncalled t.store.heap o) o → IsEnd {A = Value} e (state_of t) (not_called (state_of t)) → CallComes side f vs (Err e) w t
    nothing_comes e none is code same =
        IsEnd-same e (state_of t) _ _ (behind code (not_called (state_of t)) (found_uncalled code o (only vs) (state_of t) none))
        (IsEnd-then e (state_of t) (not_called (state_of t)) (λ r s. got code f r s) is)

    -- a built-in method
    module _ (owner : Side) (receiver : Value) (id : NativeId) (is : slice_get t.store.heap o.0 ≡ Some (record { owner = owner; content = object.method receiver (callee.Native id) })) where
      method_behind : (code : Frame)
          → calls.call f (only vs) (frame code) (state_of w) ≡ on_value (method_by owner receiver id vs (state_of t)) (λ r s. got code f r s)
      method_behind code = behind code (method_by owner receiver id vs (state_of t)) (found_method code o owner receiver id vs (state_of t) is)

      pub method_comes : (r : Result (Option Value) OpEnd) → ComesIfAny r (state_of u) (bound_by side f owner receiver id vs (state_of t)) → CallComes side f vs r w u
      method_comes r is code same = ComesIfAny-same r (state_of u) _ _ (method_behind code)
          (subst (λ (side : Side). ComesIfAny r (state_of u) (bound_by side f owner receiver id vs (state_of t))) (sym same) is)

-- what stands at a place, by its owner and its content
pub stands_by : (heap : List Owned) (o : Oid) (owner : Side) (c : Content) → owner_at heap o ≡ Some owner → content_at heap o ≡ Some c
    → slice_get heap o.0 ≡ Some (record { owner = owner; content = c })
stands_by heap o owner c e f = by (slice_get heap o.0) e f where
  by : (x : Option Owned) → option_map (λ o. o.owner) x ≡ Some owner → option_map (λ o. o.content) x ≡ Some c → x ≡ Some (record { owner = owner; content = c })
  by None e f = cc
  by (Some x) e f =
      let a : x.owner ≡ owner = cc in
      let b : x.content ≡ c = cc in
      λ i. Some (record { owner = a i; content = b i })

-- calls of rocks

pub native_comes : (side : Side) (id : NativeId) (vs : List Value) (r : Result (Option Value) OpEnd) (w u : World) → is_form id ≡ false
    → ((call : Special → State → Outcome Value) → ComesIfAny r (state_of u) (function_by call side id vs (state_of w))) → CallComes side (value.Rock (rock.Native id)) vs r w u
native_comes side id vs r w u other law code same =
    ComesIfAny-same r (state_of u) _ _ (function_is code id vs (state_of w) other)
    (subst (λ (side : Side). ComesIfAny r (state_of u) (function_by (length_called code) side id vs (state_of w))) (sym same) (law (length_called code)))

module _ (side : Side) (k : Kind) (vs : List Value) (w u : World) where
  pub kind_comes : (v : Value) → kind_by k vs (state_of w) ≡ gives v (state_of u) → CallComes side (value.Rock (rock.Kind k)) vs (Ok (Some v)) w u
  kind_comes v is code same = kind_is code k vs (state_of w) ∙ is

  pub kind_ends : (e : OpEnd) → IsEnd e (state_of u) (kind_by k vs (state_of w)) → CallComes side (value.Rock (rock.Kind k)) vs (Err e) w u
  kind_ends e is code same = IsEnd-same e (state_of u) _ _ (kind_is code k vs (state_of w)) is

-- of a rock that may not be called
pub rock_ends : (side : Side) (r : Rock) (vs : List Value) (w : World) (e : OpEnd) → ((id : NativeId) → r ≢ rock.Native id) → ((k : Kind) → r ≢ rock.Kind k)
    → IsEnd {A = Value} e (state_of w) (not_called (state_of w)) → CallComes side (value.Rock r) vs (Err e) w w
rock_ends side (rock.Native id) vs w e native kind ends code same = absurd (native id refl)
rock_ends side (rock.Kind k) vs w e native kind ends code same = absurd (kind k refl)
rock_ends side r vs w e native kind ends code same = ends

-- code is not done here
pub code_left : (f : Value) (o : Oid) (vs : List Value) (s t : State) → IsAt f o → asking CALL f s ≡ gives (tt {0}) t → Names (heap_of t) (IsCode (heap_of t) o) o → IsCallLeft f vs s t
code_left (value.Rock r) o vs s t named asked code = absurd named
code_left (value.Ref other) o vs s t named asked code = (asked, subst (λ (o : Oid). Names (heap_of t) (IsCode (heap_of t) o) o) (sym named) code)
code_left (value.Prox other) o vs s t named asked code = (asked, subst (λ (o : Oid). Names (heap_of t) (IsCode (heap_of t) o) o) (sym named) code)
