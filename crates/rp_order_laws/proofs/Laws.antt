-- The laws of code, from what is kept.
use Rattle.std.proofs.Common.{refl, ℕ, suc, List}
use Rattle.rp_base.specs.declared.value.Side.{Side}
use Rattle.rp_scope.specs.Blocks.{expr_blocks, stmt_blocks, stmts_blocks}
use Rattle.rp_meaning.specs.Blocks.{Codes, of_expr, of_stmt, of_stmts}
use Rattle.rp_meaning.specs.Frame.{Frame}
use Rattle.rp_meaning.specs.Meaning as meaning
use Rattle.rp_meaning.specs.Meaning.{eval, exec}
use Rattle.rp_meaning.specs.Running.{calls, frame_in}
use Rattle.rp_meaning.specs.State.{Outcome, State, heap_of}
use Rattle.rp_keeper_laws.specs.Blocks.{Around, telling_around}
use Rattle.rp_keeper_laws.proofs.Going.{Any, Held, KeepsAt, Saying}
use Rattle.rp_keeper_laws.proofs.Programs.{calls_keep, frame_fits, spot}
use Rattle.rp_keeper_laws.proofs.Trees.{Has, block, expression, statement}
use Rattle.rp_keeper_laws.proofs.Everything.{any_each}
use Rattle.rp_owner_laws.proofs.CutPrograms.{functions_leave_unallowed}
use Rattle.rp_order_laws.specs.Laws.{BlocksKeepOrder, CallsLeaveOthersUnallowed, ExpressionsKeepOrder}
use Rattle.rp_order_laws.specs.Laws.{FunctionsKeepOrder, KeepsOrder}
use Rattle.rp_order_laws.proofs.Keeping.{all_are_ordered, own_place}
use Rattle.rp_order_laws.specs.Laws.{StatementsKeepOrder}
use Rattle.rp_order_laws.proofs.OrderKeeper.{order_keeper}

-- nothing is asked of functions and blocks
pub any_has : (side : Side) (codes : Codes) (blocks : List Around) → Has order_keeper side codes blocks
any_has side codes blocks = record { functions = any_each codes; blocks = any_each blocks }

keeps_order : {A : Type 0} {P : Frame → Saying A} (does : Frame → State → Outcome A)
    → ((side : Side) (number : ℕ) → KeepsAt order_keeper (spot side number) P does) → KeepsOrder does
keeps_order does i run quiet side number scope s h own =
    let these = i side number (frame_in run (calls run) side number scope)
    (frame_fits order_keeper run quiet side number scope tt) s ((h.objects, h.classes), own) in
    record { objects = these.there.0.0; classes = these.there.0.1 }

pub expressions_keep_order : ExpressionsKeepOrder
expressions_keep_order x = keeps_order {P = Held order_keeper} (eval x) (λ side number.
    expression order_keeper (spot side number) x (any_has side (of_expr x) (expr_blocks telling_around number x)))

pub statements_keep_order : StatementsKeepOrder
statements_keep_order x = keeps_order {P = Any} (exec x) (λ side number.
    statement order_keeper (spot side number) x (any_has side (of_stmt x) (stmt_blocks telling_around number x)))

pub blocks_keep_order : BlocksKeepOrder
blocks_keep_order b = keeps_order {P = Any} (meaning.block b) (λ side number.
    block order_keeper (spot side number) b (any_has side (of_stmts b) (stmts_blocks telling_around number b)))

pub functions_keep_order : FunctionsKeepOrder
functions_keep_order run quiet at a s h =
    let these = calls_keep order_keeper run quiet at a s tt (h.objects, h.classes) in
    record { objects = these.there.0; classes = these.there.1 }

pub calls_leave_others_unallowed : CallsLeaveOthersUnallowed
calls_leave_others_unallowed run natives lengths n at a s h own none =
    functions_leave_unallowed run natives lengths n at a s (all_are_ordered (heap_of s) h n)
    (own_place (heap_of s) n (record { 0 = suc n }) at refl own) none
