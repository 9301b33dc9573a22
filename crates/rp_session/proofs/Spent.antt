-- A block of a program adds none to the steps that are left.
use Rattle.std.proofs.Common.{◌≡◌, ◌≤◌, subst, List, [], ◌∷◌, map}
use Rattle.std.proofs.Math.Nat.{le_refl}
use Rattle.rp_access.specs.Natives.{natives}
use Rattle.rp_base.specs.declared.value.Oid.{Oid}
use Rattle.rp_base.specs.declared.value.Side.{Side}
use Rattle.rp_meaning.specs.Frame.{Frame, Run}
use Rattle.rp_meaning.specs.Running.{program_frame}
use Rattle.rp_meaning.specs.State.{State}
use Rattle.rp_meter_laws.proofs.AtMost.{Keeping}
use Rattle.rp_meter_laws.proofs.Going.{Each}
use Rattle.rp_meter_laws.proofs.Programs.{built_ins-add_none, functions-add_none, steady}
use Rattle.rp_meter_laws.proofs.Statements as statement
use Rattle.rp_meter_laws.proofs.Trees as tree
use Rattle.rp_meter_laws.specs.Metered.{AddNone, IsMetered}
use Rattle.rp_engine.specs.Does as does
use Rattle.rp_engine.specs.Moment.{run_of}
use Rattle.rp_engine.specs.declared.units.Units.{Units}
use Rattle.rp_tree.specs.StatementViews.{view_stmt}
use Rattle.rp_tree.specs.declared.stmt.Stmt.{Stmt}

natives-add_none : AddNone natives
unfolding natives
natives-add_none = built_ins-add_none natives

does-add_none : (xs : List Stmt) → Each (λ d. Keeping d) (map does.stmt xs)
unfolding does.stmt
does-add_none [] = tt
does-add_none (x ∷ xs) = (tree.statement (view_stmt x), does-add_none xs)

-- from one moment to the next
pub spent : (base : Run) (units : Units) (xs : List Stmt) (side : Side) (globals : Oid) (m s : State)
    → (does.block xs (program_frame (run_of base units) side globals) m).state ≡ s → s.plain.steps ≤ m.plain.steps
spent base units xs side globals m s h =
    let frame : Frame = program_frame (run_of base units) side globals in
    let metered : IsMetered frame =
    record { calls = functions-add_none (run_of base units) natives-add_none; natives = natives-add_none } in
    subst (λ (s : State). s.plain.steps ≤ m.plain.steps) h
    (statement.block (map does.stmt xs) (does-add_none xs) m.plain.steps frame (steady m.plain.steps frame metered) m
    (le_refl m.plain.steps)).steps
