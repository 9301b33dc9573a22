-- Functions of programs do what they do without marks, and so does a statement of a program.
use Rattle.std.proofs.Common.{◌≡◌, ◌∙◌, refl, sym, ℕ, zero, suc, List, Option, Some, None, option_map}
use Rattle.rp_base.specs.declared.value.Oid.{Oid}
use Rattle.rp_base.specs.declared.value.Side.{Side}
use Rattle.rp_base.specs.declared.value.Value.{Value}
use Rattle.rp_ops.specs.Outcome as plain
use Rattle.rp_ops.specs.Outcome.{gives, on_value}
use Rattle.rp_store.specs.Heap.{content_at}
use Rattle.rp_store.specs.Object as object
use Rattle.rp_store.specs.Object.{Content}
use Rattle.rp_tree.specs.Expressions as tree
use Rattle.rp_tree.specs.Maps.{map_expr, map_stmt}
use Rattle.rp_tree.specs.Marks.{erase, no_marks}
use Rattle.rp_tree.specs.Statements as stmt_tree
use Rattle.rp_meaning.specs.Binding.{Arguments, bind}
use Rattle.rp_meaning.specs.Blocks.{Code, def, lambda}
use Rattle.rp_meaning.specs.Frame.{Calls, Frame, Run}
use Rattle.rp_meaning.specs.Meaning.{block, eval, exec}
use Rattle.rp_meaning.specs.Running as running
use Rattle.rp_meaning.specs.Running.{calls_within, code_called, frame_in, function_called, params_of, program_frame, slots_for, slots_taken, taken_all, value_of, value_of_code}
use Rattle.rp_meaning.specs.State.{State, heap_of, makes, plainly}
use Rattle.rp_meaning.specs.Statements as stmt_forms
use Rattle.rp_mark_laws.specs.Unmarked.{unmarked, unmarked_code}
use Rattle.rp_mark_laws.proofs.Erased as erased
use Rattle.rp_mark_laws.proofs.Trees as blind

module _ (run : Run) (calls : Calls) (side : Side) (number : ℕ) (scope : Oid) where
  -- the frame, in the run without marks and in the other
  abbrev bare : Frame
  bare = frame_in (unmarked run) calls side number scope

  abbrev full : Frame
  full = frame_in run calls side number scope

  block-same : (b : stmt_tree.Stmts) (s : State) → block (erase b) bare s ≡ block b full s
  block-same b s = (λ j. stmt_forms.block (erased.stmts b j) bare s) ∙ sym (blind.block b bare s) ∙ blind.block b full s

  expr-same : (x : tree.Expr) (s : State) → eval (map_expr no_marks x) bare s ≡ eval x full s
  expr-same x s = (λ j. erased.expr x j bare s) ∙ sym (blind.expression x bare s) ∙ blind.expression x full s

  pub stmt-same : (x : stmt_tree.Stmt) (s : State) → exec (map_stmt no_marks x) bare s ≡ exec x full s
  stmt-same x s = (λ j. erased.stmt x j bare s) ∙ sym (blind.statement x bare s) ∙ blind.statement x full s

  value-same : (code : Code) (s : State) → value_of_code (unmarked_code code) bare s ≡ value_of_code code full s
  value-same (def ps b) s = λ j. on_value (block-same b s j) (λ flow s. gives (value_of flow) s)
  value-same (lambda ps x) s = expr-same x s

-- calls

binds : (side : Side) (words : List (List ℕ)) (code : Code) (defaults : List Value) (a : Arguments) (s : plain.State)
    → bind side words (params_of (unmarked_code code)) defaults a s ≡ bind side words (params_of code) defaults a s
binds side words (def ps b) defaults a s = erased.binds side words ps defaults a s
binds side words (lambda ps x) defaults a s = erased.binds side words ps defaults a s

module _ (run : Run) (calls : Calls) where
  called : (side : Side) (number : ℕ) (within : Oid) (defaults : List Value) (code : Option Code) (a : Arguments) (s : State)
      → code_called (unmarked run) calls side number within defaults (option_map unmarked_code code) a s ≡ code_called run calls side number within defaults code a s
  called side number within defaults None a s = refl
  called side number within defaults (Some code) a s = λ j.
      on_value (plainly (λ p. binds side s.names code defaults (taken_all (heap_of s) side a) p j) s) (λ bound s.
      on_value (makes side (object.scope (Some number) (Some within) (slots_for ((run.programs side).layouts.locals number) (slots_taken (heap_of s) side bound))) s) (λ scope s.
      value-same run calls side number scope code s j))

  function-same : (content : Option Content) (a : Arguments) (s : State) → function_called (unmarked run) calls content a s ≡ function_called run calls content a s
  function-same (Some (object.function name side number within defaults)) a s =
      called side number within defaults ((run.programs side).code number) a s
  function-same _ a s = refl

calls-same : (run : Run) (n : ℕ) (at : Oid) (a : Arguments) (s : State) → calls_within (unmarked run) n at a s ≡ calls_within run n at a s
calls-same run zero at a s = refl
calls-same run (suc n) at a s =
    function-same run (λ at a s. calls_within (unmarked run) n at a s) (content_at (heap_of s) at) a s
    ∙ (λ j. function_called run (λ at a s. calls-same run n at a s j) (content_at (heap_of s) at) a s)

-- a statement of a program's own, where the calls are the same
at-calls : (run : Run) (c d : Calls) → ((at : Oid) (a : Arguments) (s : State) → c at a s ≡ d at a s)
    → (side : Side) (globals : Oid) (x : stmt_tree.Stmt) (s : State)
    → exec (map_stmt no_marks x) (frame_in (unmarked run) c side 0 globals) s ≡ exec x (frame_in run d side 0 globals) s
at-calls run c d same side globals x s =
    stmt-same run c side 0 globals x s ∙ (λ j. exec x (frame_in run (λ at a s. same at a s j) side 0 globals) s)

pub statement-same : (run : Run) (side : Side) (globals : Oid) (x : stmt_tree.Stmt) (s : State)
    → exec (map_stmt no_marks x) (program_frame (unmarked run) side globals) s ≡ exec x (program_frame run side globals) s
statement-same run side globals x s =
    at-calls run (running.calls (unmarked run)) (running.calls run) (λ at a s. calls-same run 1000 at a s) side globals x s
