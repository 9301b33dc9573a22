-- Calls with named arguments that are refused, from what is known of the decision and of what is called.
use Rattle.std.proofs.Common.{◌≡◌, ◌≢◌, ℕ, List, [], ◌∷◌, Bool, true, false, Some, Err, codes, length, refl, sym, ap, ◌∙◌, subst}
use Rattle.std.specs.Prelude.{is_some, slice_get}
use Rattle.rp_base.specs.declared.kind.Kind.{Kind}
use Rattle.rp_base.specs.declared.kind.Kind.TheVariants.{TypeError}
use Rattle.rp_base.specs.declared.native.NativeId.{NativeId}
use Rattle.rp_base.specs.declared.value.Oid.{Oid}
use Rattle.rp_base.specs.declared.value.OpEnd.{OpEnd}
use Rattle.rp_base.specs.declared.value.Rock.{Rock}
use Rattle.rp_base.specs.declared.value.Rock.TheVariants as rock
use Rattle.rp_base.specs.declared.value.Side.{Side}
use Rattle.rp_base.specs.declared.value.Value.{Value}
use Rattle.rp_base.specs.declared.value.Value.TheVariants as value
use Rattle.rp_base.specs.declared.word.TheConstants.{CALL}
use Rattle.rp_meaning.specs.Binding.{Arguments}
use Rattle.rp_meaning.specs.BuiltIn as built_in
use Rattle.rp_meaning.specs.BuiltIn.{not_called, unnamed, wrong_arguments}
use Rattle.rp_meaning.specs.Calls as calls
use Rattle.rp_meaning.specs.Frame.{Frame, asked_each, takes}
use Rattle.rp_meaning.specs.State.{State, Outcome, choose, heap_of, plainly}
use Rattle.rp_attributes.specs.BuiltIns.{counts_of, receiver_of}
use Rattle.rp_native.specs.Counts.{is_function}
use Rattle.rp_ops.specs.Outcome.{Raises, gives, on_value}
use Rattle.rp_store.specs.Heap.{Names}
use Rattle.rp_store.specs.Object as object
use Rattle.rp_store.specs.declared.object.Callee.TheVariants as callee
use Rattle.rp_access.specs.Callees.{IsAt, IsCode, IsUncalled}
use Rattle.rp_access.specs.Calling.{IsCallRefused, IsCodeLeft, IsMethodRefused}
use Rattle.rp_access.specs.Comes.{IsEnd}
use Rattle.rp_access.specs.Moment.{decided_frame}
use Rattle.rp_access.specs.Natives.{natives}
use Rattle.rp_access.specs.Parts.{asking}
use Rattle.rp_access.proofs.FunctionLaws.{uncalled_end}
use Rattle.rp_access.proofs.Going.{IsEnd-same, IsEnd-then, gives-then, raises_end}
use Rattle.rp_access.proofs.ObjectCalls.{call_is, found, found_uncalled, got}

-- the arguments are refused
wrong_end : (e : OpEnd) (s : State) → Raises e (record { kind = TypeError; text = codes "arguments" }) → IsEnd {A = Value} e s (wrong_arguments s)
wrong_end e s h = raises_end Value e (record { kind = TypeError; text = codes "arguments" }) s h

unnamed_by : (ns : List (List ℕ × Value)) (vs : List Value) (s : State) (go : List Value → State → Outcome Value) → ns ≢ []
    → unnamed (record { plain = vs; named = ns }) s go ≡ wrong_arguments s
unnamed_by [] vs s go some = absurd (some refl)
unnamed_by (n ∷ ns) vs s go some = refl

unnamed_wrong : (a : Arguments) (s : State) (go : List Value → State → Outcome Value) → a.named ≢ [] → unnamed a s go ≡ wrong_arguments s
unnamed_wrong a s go some = unnamed_by a.named a.plain s go some

-- calls of rocks

kind_by : (k : Kind) (ns : List (List ℕ × Value)) (vs : List Value) (frame : Frame) (s : State) → ns ≢ []
    → calls.kind_call k (record { plain = vs; named = ns }) frame s ≡ wrong_arguments s
kind_by k [] vs frame s some = absurd (some refl)
kind_by k (n ∷ ns) [] frame s some = refl
kind_by k (n ∷ ns) (v ∷ vs) frame s some = refl

pub kind_refused : (k : Kind) (e : OpEnd) → Raises e (record { kind = TypeError; text = codes "arguments" }) → (s : State) → IsCallRefused (value.Rock (rock.Kind k)) (Err e) s s
kind_refused k e h s a code some = IsEnd-same e s _ _ (kind_by k a.named a.plain (decided_frame code) s some) (wrong_end e s h)

module _ (id : NativeId) (e : OpEnd) (s : State) (a : Arguments) (code : Frame) where
  abbrev function_go : State → Outcome Value
  function_go s = unnamed a s (λ vs s. built_in.function id vs (decided_frame code) s)

  function_is : (b : Bool) → is_function id ≡ b
      → calls.call (value.Rock (rock.Native id)) a (decided_frame code) s ≡ on_value (choose b function_go not_called s) (λ v s. takes v (decided_frame code) s)
  unfolding natives
  function_is b is = ap (λ b. on_value (choose b function_go not_called s) (λ v s. takes v (decided_frame code) s)) is

  function_wrong : is_function id ≡ true → a.named ≢ [] → Raises e (record { kind = TypeError; text = codes "arguments" })
      → IsEnd e s (calls.call (value.Rock (rock.Native id)) a (decided_frame code) s)
  function_wrong is some h =
      IsEnd-same e s _ _ (function_is true is ∙ ap (λ o. on_value o (λ v s. takes v (decided_frame code) s)) (unnamed_wrong a s (λ vs s. built_in.function id vs (decided_frame code) s) some))
      (IsEnd-then e s (wrong_arguments s) (λ v s. takes v (decided_frame code) s) (wrong_end e s h))

  function_uncalled : is_function id ≡ false → Raises e (record { kind = TypeError; text = codes "call" })
      → IsEnd e s (calls.call (value.Rock (rock.Native id)) a (decided_frame code) s)
  function_uncalled is h = IsEnd-same e s _ _ (function_is false is) (IsEnd-then e s (not_called s) (λ v s. takes v (decided_frame code) s) (uncalled_end e s h))

pub native_wrong : (id : NativeId) (e : OpEnd) → is_function id ≡ true → Raises e (record { kind = TypeError; text = codes "arguments" }) → (s : State)
    → IsCallRefused (value.Rock (rock.Native id)) (Err e) s s
native_wrong id e is h s a code some = function_wrong id e s a code is some h

pub native_uncalled : (id : NativeId) (e : OpEnd) → is_function id ≡ false → Raises e (record { kind = TypeError; text = codes "call" }) → (s : State)
    → IsCallRefused (value.Rock (rock.Native id)) (Err e) s s
native_uncalled id e is h s a code some = function_uncalled id e s a code is h

pub rock_uncalled : (r : Rock) (e : OpEnd) → ((id : NativeId) → r ≢ rock.Native id) → ((k : Kind) → r ≢ rock.Kind k) → Raises e (record { kind = TypeError; text = codes "call" }) → (s : State)
    → IsCallRefused (value.Rock r) (Err e) s s
rock_uncalled (rock.Native id) e native kind h s = absurd (native id refl)
rock_uncalled (rock.Kind k) e native kind h s = absurd (kind k refl)
rock_uncalled r e native kind h s = λ a code some. uncalled_end e s h

-- built-in methods

module _ (receiver : Value) (id : NativeId) (e : OpEnd) (s : State) where
  module _ (owner : Side) (a : Arguments) (code : Frame) where
    abbrev plain_go : List Value → State → Outcome Value
    plain_go vs s = asked_each (decided_frame code) (λ i. (decided_frame code).run.natives.needs id i (length vs)) 0 vs s (λ s.
        plainly ((decided_frame code).run.natives.method s.names owner receiver id vs) s)

    method_is : (b : Bool) → is_some (counts_of (receiver_of (heap_of s) receiver) id) ≡ b
        → built_in.method_call owner receiver id a (decided_frame code) s ≡ choose b (λ s. unnamed a s plain_go) not_called s
    unfolding natives
    method_is b is = ap (λ b. choose b (λ s. unnamed a s plain_go) not_called s) is

  pub method_wrong : is_some (counts_of (receiver_of (heap_of s) receiver) id) ≡ true → Raises e (record { kind = TypeError; text = codes "arguments" }) → IsMethodRefused receiver id e s
  method_wrong is h owner a code some =
      IsEnd-same e s _ _ (method_is owner a code true is ∙ unnamed_wrong a s (plain_go owner a code) some) (wrong_end e s h)

  pub method_uncalled : is_some (counts_of (receiver_of (heap_of s) receiver) id) ≡ false → Raises e (record { kind = TypeError; text = codes "call" }) → IsMethodRefused receiver id e s
  method_uncalled is h owner a code some = IsEnd-same e s _ _ (method_is owner a code false is) (uncalled_end e s h)

-- calls of objects

module _ (f : Value) (o : Oid) (s t : State) (named : IsAt f o) where
  -- it may not be decided so
  pub asked_refused : (e : OpEnd) → IsEnd e t (asking CALL f s) → IsCallRefused f (Err e) s t
  asked_refused e is a code some =
      IsEnd-same e t _ _ (call_is code f o a s named) (IsEnd-then e t (asking CALL f s) (λ _ s. on_value (found code o a s) (λ r s. got code f r s)) is)

  module _ (asked : asking CALL f s ≡ gives (tt {0}) t) where
    found_ends : (e : OpEnd) (a : Arguments) (code : Frame) → IsEnd e t (found code o a t) → IsEnd e t (calls.call f a (decided_frame code) s)
    found_ends e a code is =
        IsEnd-same e t _ _
        (call_is code f o a s named ∙ gives-then (tt {0}) t (asking CALL f s) (λ _ s. on_value (found code o a s) (λ r s. got code f r s)) asked)
        (IsEnd-then e t (found code o a t) (λ r s. got code f r s) is)

    -- it may not be called
    pub nothing_refused : (e : OpEnd) → Names (heap_of t) (IsUncalled (heap_of t) o) o → Raises e (record { kind = TypeError; text = codes "call" }) → IsCallRefused f (Err e) s t
    nothing_refused e none h a code some = found_ends e a code (IsEnd-same e t _ _ (found_uncalled code o a t none) (uncalled_end e t h))

    -- a built-in method
    pub method_refused : (e : OpEnd) (owner : Side) (receiver : Value) (id : NativeId)
        → slice_get (heap_of t) o.0 ≡ Some (record { owner = owner; content = object.method receiver (callee.Native id) })
        → IsMethodRefused receiver id e t → IsCallRefused f (Err e) s t
    method_refused e owner receiver id is refused a code some =
        found_ends e a code (IsEnd-same e t _ _ (ap (λ x. calls.found_call o x a (decided_frame code) t) is) (refused owner a code some))

-- code is called, once that is decided
pub named_left : (f : Value) (o : Oid) (s t : State) → IsAt f o → asking CALL f s ≡ gives (tt {0}) t → Names (heap_of t) (IsCode (heap_of t) o) o → IsCodeLeft f s t
named_left (value.Rock r) o s t named asked code = absurd named
named_left (value.Ref other) o s t named asked code = (asked, subst (λ (o : Oid). Names (heap_of t) (IsCode (heap_of t) o) o) (sym named) code)
named_left (value.Prox other) o s t named asked code = (asked, subst (λ (o : Oid). Names (heap_of t) (IsCode (heap_of t) o) o) (sym named) code)
