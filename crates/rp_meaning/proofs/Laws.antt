-- How going on composes, and the values of parts behind those of the parts before them, as a machine has them on its stack.
use Rattle.std.proofs.Common.{◌≡◌, ℕ, suc, List, [], ◌∷◌, ◌++◌, Result, Ok, Err, refl, sym, ap, ◌∙◌}
use mathlib.Core.Path.{fun_ext}
use Rattle.std.proofs.lemmas.List.{append_assoc, append-nil}
use Rattle.rp_base.specs.declared.value.Oid.{Oid}
use Rattle.rp_base.specs.declared.value.Value.{Value}
use Rattle.rp_ops.specs.Outcome.{End, gives, on_answer, on_value}
use Rattle.rp_store.specs.Heap.{content_at}
use Rattle.rp_meaning.specs.Binding.{Arguments}
use Rattle.rp_meaning.specs.State.{State, Outcome, heap_of}
use Rattle.rp_meaning.specs.Frame.{Frame, Meaning, Run}
use Rattle.rp_meaning.specs.Expressions.{values}
use Rattle.rp_meaning.specs.Running.{calls_within, function_called}

answer_then : {A B C : Type 0} (r : Result A End) (s : State) (f : A → State → Outcome B) (g : B → State → Outcome C)
    → on_value (on_answer r s f) g ≡ on_answer r s (λ a s. on_value (f a s) g)
answer_then (Ok a) s f g = refl
answer_then (Err e) s f g = refl

-- going on twice
pub then_then : {A B C : Type 0} (o : Outcome A) (f : A → State → Outcome B) (g : B → State → Outcome C)
    → on_value (on_value o f) g ≡ on_value o (λ a s. on_value (f a s) g)
then_then o f g = answer_then o.answer o.state f g

-- what is done with the values of parts, behind those of the parts before
abbrev pub items : {A : Type 0} → List Meaning → List Value → (List Value → State → Outcome A) → Frame → State → Outcome A
items ms vs go frame s = on_value (values ms frame s) (λ ws s. go (vs ++ ws) s)

pub items_none : {A : Type 0} (vs : List Value) (go : List Value → State → Outcome A) (frame : Frame) (s : State) → items [] vs go frame s ≡ go vs s
items_none vs go frame s = ap (λ ws. go ws s) (append-nil vs)

pub items_more : {A : Type 0} (m : Meaning) (ms : List Meaning) (vs : List Value) (go : List Value → State → Outcome A) (frame : Frame) (s : State)
    → items (m ∷ ms) vs go frame s ≡ on_value (m frame s) (λ v s. items ms (vs ++ v ∷ []) go frame s)
items_more m ms vs go frame s =
    then_then (m frame s) (λ v s. on_value (values ms frame s) (λ ws s. gives (v ∷ ws) s)) (λ ws s. go (vs ++ ws) s)
    ∙ ap (on_value (m frame s)) (fun_ext (λ v. fun_ext (λ s. then_then (values ms frame s) (λ ws s. gives (v ∷ ws) s) (λ ws s. go (vs ++ ws) s)
    ∙ ap (on_value (values ms frame s)) (fun_ext (λ ws. fun_ext (λ s. ap (λ us. go us s) (sym (append_assoc vs (v ∷ []) ws))))))))

-- a call, with one call less within it
pub call_unrolled : (run : Run) (n : ℕ) (at : Oid) (a : Arguments) (s : State)
    → calls_within run (suc n) at a s ≡ function_called run (calls_within run n) (content_at (heap_of s) at) a s
call_unrolled run n at a s = refl
