-- How a session that has run is told.
use Rattle.std.proofs.Common.{◌≡◌, ℕ, Bool, true, false, if◌then◌else◌, List}
use Rattle.std.proofs.Common.{map, Result, Ok, Err, IfOk}
use Rattle.std.proofs.Common.{arith}
use Rattle.rp_base.specs.declared.memory.Memory.{Memory}
use Rattle.rp_meaning.specs.Sessions.{World}
use Rattle.rp_session.specs.Played.{Plays}
use Rattle.rp_trail.specs.Entry.{Entry}
use Rattle.rp_tree.specs.Statements as stmt_tree
use Rattle.rp_tree.specs.StatementTrees.{Stmts}
use Rattle.rp_run.specs.Output.{Finished, as_told, run_status, run_text, some_ends}
use Rattle.rp_run.specs.Steps.{IsCommandStatus}
use Rattle.rp_run.specs.Told.{ToldPlayed}
use Rattle.rp_run.specs.declared.answer.Answer.{Answer}
use Rattle.rp_words.specs.Command.{Pair, Run}

module _ (r : Run) (body : stmt_tree.Stmts) (w : World) (trees : List (Stmts (List ℕ))) where
  -- what scripts come to, and how it is told
  pub told_ran : (sessions : List Finished) (log : List Entry) (result : Result Answer Memory)
      → Plays w body trees (map (λ (p : Pair). p.ids) r.pairs) r.turns r.steps (map as_told sessions) log
      → IfOk result (λ a. a.text ≡ run_text r sessions log) → IfOk result (λ a. a.status.0 ≡ run_status sessions)
      → IfOk result (λ a. ToldPlayed r body w trees a.text a.status.0)
  told_ran sessions log (Err e) plays said ends = tt
  told_ran sessions log (Ok a) plays said ends =
      record { sessions = sessions; log = log; plays = plays; said = said; ends = ends }

-- what is told where a fact holds is told of what has it
pub told_there : {X : Type 0} (P : X → Type 0) (T : X → Answer → Type 0) (result : Result Answer Memory)
    → IfOk result (λ a. (x : X) → P x → T x a) → (x : X) → P x → IfOk result (T x)
told_there P T (Err stop) tells x has = tt
told_there P T (Ok a) tells x has = tells x has

-- the status of what is told of scripts
run_is : (stopped some : Bool) (status : ℕ) → status ≡ (if stopped then 5 else (if some then 1 else 0))
    → IsCommandStatus status
run_is true some status e = (omega arith, (omega arith, omega arith, omega arith), omega arith)
run_is false true status e = (omega arith, (omega arith, omega arith, omega arith), omega arith)
run_is false false status e = (omega arith, (omega arith, omega arith, omega arith), omega arith)

pub ran_status : (all : List Finished) (result : Result Answer Memory) → IfOk result (λ a. a.status.0 ≡ run_status all)
    → IfOk result (λ a. IsCommandStatus a.status.0)
ran_status all (Err e) ends = tt
ran_status all (Ok a) ends = run_is (some_ends 5 all) (some_ends 1 all) a.status.0 ends
