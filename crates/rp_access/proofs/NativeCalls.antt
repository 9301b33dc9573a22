-- Calls of built-in functions: what is asked of rp_meaning's forms is what the code asks and does.
use Rattle.std.proofs.Common.{◌≡◌, ℕ, suc, ◌+◌, ◌<◌, true, false, List, [], ◌∷◌, length, Option, Some, None, refl, sym, ap, ◌∙◌, arith}
use Rattle.std.specs.Option.{option_map}
use Rattle.std.specs.Prelude.{◌&&◌, if◌then◌else◌}
use Rattle.std.proofs.lemmas.Bool.{false≢true, lt-ltb}
use mathlib.Core.Path.{fun_ext}
use Rattle.rp_base.specs.declared.kind.Kind.{Kind}
use Rattle.rp_base.specs.declared.native.NativeId.{NativeId}
use Rattle.rp_base.specs.declared.native.NativeId.TheVariants as native
use Rattle.rp_base.specs.declared.value.Name.{Name}
use Rattle.rp_base.specs.declared.value.Rock.TheVariants as rock
use Rattle.rp_base.specs.declared.value.Side.{Side}
use Rattle.rp_base.specs.declared.value.Value.{Value}
use Rattle.rp_base.specs.declared.value.Value.TheVariants as value
use Rattle.rp_base.specs.declared.word.TheConstants.{STR}
use Rattle.rp_meaning.specs.Binding.{only}
use Rattle.rp_meaning.specs.BuiltIn as built_in
use Rattle.rp_meaning.specs.BuiltIn.{length_given, not_called}
use Rattle.rp_meaning.specs.Calls as calls
use Rattle.rp_meaning.specs.Frame.{Frame, asked_each, asked_if}
use Rattle.rp_meaning.specs.Special.{Special}
use Rattle.rp_meaning.specs.State.{State, Outcome, choose, heap_of, plainly}
use Rattle.rp_meaning.proofs.Laws.{then_then}
use Rattle.rp_native.specs.Counts.{is_called_here, is_function}
use Rattle.rp_native.specs.Needs.{need_of, takes}
use Rattle.rp_ops.specs.Outcome.{gives, on_value}
use Rattle.rp_proxy.specs.Taken.{taken}
use Rattle.rp_show.specs.Show.{show}
use Rattle.rp_access.specs.CallSteps.{IsPlainly, all_asked, applied_by, each_asked, function_by, given, is_form, kind_by, needs_asked, printing}
use Rattle.rp_access.specs.Moment.{decided_frame}
use Rattle.rp_access.specs.Natives.{name_needed, natives, need_name}
use Rattle.rp_access.specs.Parts.{asking}
use Rattle.rp_access.proofs.Going.{asked_then, on_same}

-- every argument needs the same
needed_same : (id : NativeId) (count i : ℕ) → i < count → name_needed id i count ≡ name_needed id 0 count
needed_same id count i within =
    ap (λ b. option_map need_name (if takes id count && b then need_of id count else None)) (lt-ltb i count within ∙ sym (lt-ltb 0 count (omega arith)))

module _ (code : Frame) where
  abbrev frame : Frame
  frame = decided_frame code

  all_then : {A : Type 0} (name : Name) (needs : ℕ → Option Name) (i : ℕ) (vs : List Value) (s : State) (go : State → Outcome A)
      → ((j : ℕ) → j < i + length vs → needs j ≡ Some name) → asked_each frame needs i vs s go ≡ on_value (all_asked name vs s) (λ _ s. go s)
  all_then name needs i [] s go each = refl
  all_then name needs i (v ∷ vs) s go each =
      ap (λ n. asked_if frame n v s (λ s. asked_each frame needs (suc i) vs s go)) (each i (omega arith))
      ∙ asked_then code name v s (λ s. asked_each frame needs (suc i) vs s go)
      ∙ on_same (asking name v s) (λ _ s. asked_each frame needs (suc i) vs s go) (λ _ s. on_value (all_asked name vs s) (λ _ s. go s))
      (λ u t. all_then name needs (suc i) vs t go (λ j within. each j (omega arith)))
      ∙ sym (then_then (asking name v s) (λ _ s. all_asked name vs s) (λ _ s. go s))

  none_then : {A : Type 0} (needs : ℕ → Option Name) (i : ℕ) (vs : List Value) (s : State) (go : State → Outcome A)
      → ((j : ℕ) → j < i + length vs → needs j ≡ None) → asked_each frame needs i vs s go ≡ go s
  none_then needs i [] s go each = refl
  none_then needs i (v ∷ vs) s go each =
      ap (λ n. asked_if frame n v s (λ s. asked_each frame needs (suc i) vs s go)) (each i (omega arith))
      ∙ none_then needs (suc i) vs s go (λ j within. each j (omega arith))

  each_then : {A : Type 0} (n : Option Name) (needs : ℕ → Option Name) (vs : List Value) (s : State) (go : State → Outcome A)
      → ((j : ℕ) → j < length vs → needs j ≡ n) → asked_each frame needs 0 vs s go ≡ on_value (each_asked n vs s) (λ _ s. go s)
  each_then (Some name) needs vs s go each = all_then name needs 0 vs s go (λ j within. each j (omega arith))
  each_then None needs vs s go each = none_then needs 0 vs s go (λ j within. each j (omega arith))

  -- the decisions on the arguments
  pub needs_then : {A : Type 0} (id : NativeId) (vs : List Value) (s : State) (go : State → Outcome A)
      → asked_each frame (λ i. frame.run.natives.needs id i (length vs)) 0 vs s go ≡ on_value (needs_asked id vs s) (λ _ s. go s)
  unfolding natives
  needs_then id vs s go =
      each_then (name_needed id 0 (length vs)) (λ i. name_needed id i (length vs)) vs s go (λ j within. needed_same id (length vs) j within)

  -- what a call of a special method for `len` gives
  abbrev pub length_called : Special → State → Outcome Value
  length_called m s = on_value (frame.calls m.function (only (m.of ∷ [])) s) length_given

  applied_is : (id : NativeId) (vs : List Value) (s : State) → built_in.applied id vs frame s ≡ applied_by length_called code.side id vs s
  unfolding natives
  applied_is native.Len (v ∷ []) s = refl
  applied_is native.Print vs s = refl
  applied_is id vs s = refl

  plain_function : (id : NativeId) (vs : List Value) (s : State) → is_form id ≡ false → built_in.function id vs frame s ≡ built_in.decided_and_applied id vs frame s
  plain_function native.GetAttr vs s other = absurd (false≢true (sym other))
  plain_function native.SetAttr vs s other = absurd (false≢true (sym other))
  plain_function id vs s other = refl

  decided : (id : NativeId) (vs : List Value) (s : State) → is_form id ≡ false
      → built_in.function id vs frame s ≡ on_value (needs_asked id vs s) (λ _ s. applied_by length_called code.side id vs s)
  decided id vs s other =
      plain_function id vs s other
      ∙ needs_then id vs s (built_in.applied id vs frame)
      ∙ on_same (needs_asked id vs s) (λ _ s. built_in.applied id vs frame s) (λ _ s. applied_by length_called code.side id vs s) (λ u t. applied_is id vs t)

  abbrev got : Value → State → Outcome Value
  got v s = gives (taken (heap_of s) code.side v) s

  -- a call of a function
  pub function_is : (id : NativeId) (vs : List Value) (s : State) → is_form id ≡ false
      → calls.call (value.Rock (rock.Native id)) (only vs) frame s ≡ function_by length_called code.side id vs s
  unfolding natives
  function_is id vs s other =
      ap (λ (go : State → Outcome Value). on_value (choose (is_function id) go not_called s) got) (fun_ext (λ s. decided id vs s other))

  -- a call of an exception kind
  pub kind_is : (k : Kind) (vs : List Value) (s : State) → calls.call (value.Rock (rock.Kind k)) (only vs) frame s ≡ kind_by k vs s
  kind_is k [] s = refl
  kind_is k (v ∷ []) s =
      asked_then code STR v s (λ s. on_value (plainly (show s.names v) s) (λ t s. gives (value.Rock (rock.Exc k t)) s))
      ∙ sym (then_then (asking STR v s) (λ _ s. plainly (show s.names v) s) (λ t s. gives (value.Rock (rock.Exc k t)) s))
  kind_is k (v ∷ w ∷ vs) s = refl

-- what is called here by its values alone
pub plainly_applied : (call : Special → State → Outcome Value) (side : Side) (id : NativeId) (vs : List Value) (s : State) → is_called_here id ≡ true
    → IsPlainly (heap_of s) id vs → applied_by call side id vs s ≡ given side id vs s
plainly_applied call side native.Len (v ∷ []) s here none = rw none refl
plainly_applied call side native.Print vs s here none = absurd (false≢true here)
plainly_applied call side id vs s here none = refl

-- and what is not, and is no form
pub print_applied : (call : Special → State → Outcome Value) (side : Side) (id : NativeId) (vs : List Value) (s : State) → is_called_here id ≡ false → is_form id ≡ false
    → applied_by call side id vs s ≡ printing vs s
print_applied call side native.Print vs s here other = refl
print_applied call side native.GetAttr vs s here other = absurd (false≢true (sym other))
print_applied call side native.SetAttr vs s here other = absurd (false≢true (sym other))
print_applied call side id vs s here other = absurd (false≢true (sym here))
