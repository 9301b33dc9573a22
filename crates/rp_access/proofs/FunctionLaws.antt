-- What a function comes to, from what is known of its decisions and of what it does.
use Rattle.std.proofs.Common.{◌≡◌, ◌≤◌, ◌++◌, ℕ, Bool, true, false, List, [], ◌∷◌, length, refl, sym, ap, ◌∙◌, codes, arith}
use Rattle.std.specs.Prelude.{is_some}
use Rattle.rp_base.specs.declared.kind.Kind.{Kind}
use Rattle.rp_base.specs.declared.kind.Kind.TheVariants.{TypeError}
use Rattle.rp_base.specs.declared.native.NativeId.{NativeId}
use Rattle.rp_base.specs.declared.value.OpEnd.{OpEnd}
use Rattle.rp_base.specs.declared.value.Side.{Side}
use Rattle.rp_base.specs.declared.value.Value.{Value}
use Rattle.rp_meaning.specs.BuiltIn.{not_called, wrong_arguments}
use Rattle.rp_meaning.specs.Expressions.{nil}
use Rattle.rp_meaning.specs.Special.{Special}
use Rattle.rp_meaning.specs.State.{State, Outcome, choose, heap_of, plainly}
use Rattle.rp_attributes.specs.BuiltIns.{counts_of, receiver_of}
use Rattle.rp_methods.specs.Methods.{method}
use Rattle.rp_native.specs.Counts.{is_function}
use Rattle.rp_native.specs.Print.{print_line}
use Rattle.rp_ops.specs.Outcome.{Raises, gives, on_value}
use Rattle.rp_proxy.specs.Taken.{taken}
use Rattle.rp_access.specs.CallSteps.{HasLength, IsFunctionLeft, applied_by, function_by, kind_by, method_by, needs_asked, printing}
use Rattle.rp_access.specs.Comes.{IsEnd}
use Rattle.rp_access.proofs.Going.{IsEnd-same, IsEnd-then, gives-then, raises_end}

-- it may not be called
pub uncalled_end : (e : OpEnd) (s : State) → Raises e (record { kind = TypeError; text = codes "call" }) → IsEnd {A = Value} e s (not_called s)
uncalled_end e s h = raises_end Value e (record { kind = TypeError; text = codes "call" }) s h

module _ (call : Special → State → Outcome Value) (side : Side) (id : NativeId) (vs : List Value) (s : State) where
  abbrev last : Value → State → Outcome Value
  last v s = gives (taken (heap_of s) side v) s

  abbrev asked : State → Outcome Value
  asked s = on_value (needs_asked id vs s) (λ _ s. applied_by call side id vs s)

  pub no_function : (e : OpEnd) → is_function id ≡ false → IsEnd {A = Value} e s (not_called s) → IsEnd e s (function_by call side id vs s)
  no_function e is ends =
      IsEnd-same e s _ _ (ap (λ (b : Bool). on_value (choose b asked not_called s) last) is) (IsEnd-then e s (not_called s) last ends)

  module _ (is : is_function id ≡ true) where
    begun : function_by call side id vs s ≡ on_value (asked s) last
    begun = ap (λ (b : Bool). on_value (choose b asked not_called s) last) is

    pub function_unasked : (e : OpEnd) (u : State) → IsEnd e u (needs_asked id vs s) → IsEnd e u (function_by call side id vs s)
    function_unasked e u ends = IsEnd-same e u _ _ begun
        (IsEnd-then e u (asked s) last (IsEnd-then e u (needs_asked id vs s) (λ _ s. applied_by call side id vs s) ends))

    module _ (t u : State) (decided : needs_asked id vs s ≡ gives (tt {0}) t) where
      applied : function_by call side id vs s ≡ on_value (applied_by call side id vs t) last
      applied = begun ∙ ap (λ o. on_value o last) (gives-then (tt {0}) t (needs_asked id vs s) (λ _ s. applied_by call side id vs s) decided)

      pub function_ends : (e : OpEnd) → IsEnd e u (applied_by call side id vs t) → IsEnd e u (function_by call side id vs s)
      function_ends e ends = IsEnd-same e u _ _ applied (IsEnd-then e u (applied_by call side id vs t) last ends)

      pub function_gives : (v w : Value) → applied_by call side id vs t ≡ gives v u → w ≡ taken (heap_of u) side v → function_by call side id vs s ≡ gives w u
      function_gives v w given got = applied ∙ gives-then v u (applied_by call side id vs t) last given ∙ ap (λ w. gives w u) (sym got)

-- a line that is printed
module _ (vs : List Value) (s t u : State) where
  pub printing_ends : (e : OpEnd) → IsEnd e u (plainly (print_line s.names vs) s) → IsEnd e u (printing vs s)
  printing_ends e ends = IsEnd-then e u (plainly (print_line s.names vs) s) (λ line s. gives nil (record s { printed = s.printed ++ line })) ends

  pub printing_gives : (line : List ℕ) → plainly (print_line s.names vs) s ≡ gives line t → u ≡ record t { printed = t.printed ++ line } → printing vs s ≡ gives nil u
  printing_gives line given put =
      gives-then line t (plainly (print_line s.names vs) s) (λ line s. gives nil (record s { printed = s.printed ++ line })) given ∙ ap (λ u. gives nil u) (sym put)

-- a method
module _ (owner : Side) (receiver : Value) (id : NativeId) (vs : List Value) (s : State) where
  abbrev begun_method : State → Outcome Value
  begun_method s = on_value (needs_asked id vs s) (λ _ s. plainly (method owner receiver id vs) s)

  pub no_method : (e : OpEnd) → is_some (counts_of (receiver_of (heap_of s) receiver) id) ≡ false → IsEnd {A = Value} e s (not_called s) → IsEnd e s (method_by owner receiver id vs s)
  no_method e is ends = IsEnd-same e s _ _ (ap (λ (b : Bool). choose b begun_method not_called s) is) ends

  module _ (is : is_some (counts_of (receiver_of (heap_of s) receiver) id) ≡ true) where
    pub method_unasked : (e : OpEnd) (u : State) → IsEnd e u (needs_asked id vs s) → IsEnd e u (method_by owner receiver id vs s)
    method_unasked e u ends = IsEnd-same e u _ _ (ap (λ (b : Bool). choose b begun_method not_called s) is)
        (IsEnd-then e u (needs_asked id vs s) (λ _ s. plainly (method owner receiver id vs) s) ends)

    pub method_plain : (t : State) → needs_asked id vs s ≡ gives (tt {0}) t → method_by owner receiver id vs s ≡ plainly (method owner receiver id vs) t
    method_plain t decided = ap (λ (b : Bool). choose b begun_method not_called s) is
        ∙ gives-then (tt {0}) t (needs_asked id vs s) (λ _ s. plainly (method owner receiver id vs) s) decided

-- more than one argument of an exception
pub kind_many : (k : Kind) (vs : List Value) (s : State) → 2 ≤ length vs → kind_by k vs s ≡ wrong_arguments s
kind_many k [] s two = absurd (omega arith)
kind_many k (v ∷ []) s two = absurd (omega arith)
kind_many k (v ∷ w ∷ vs) s two = refl

-- a function that is not done
pub length_left : (id : NativeId) (vs : List Value) (s t : State) → needs_asked id vs s ≡ gives (tt {0}) t → HasLength (heap_of t) id vs → IsFunctionLeft id vs s t
length_left id vs s t asked has = (asked, has)
