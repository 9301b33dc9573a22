-- That each entry of the trail of a run tells the verdict of the written policy on the principals of its session (zope.security, interactions and
-- checkers).
use Rattle.std.specs.Prelude.{◌≡◌, ℕ, suc, List, All, map, slice_get, Some}
use Rattle.rp_decl.specs.Records.{Declarations}
use Rattle.rp_entry_laws.specs.Decided.{IsDecided}
use Rattle.rp_meaning.specs.Sessions.{World}
use Rattle.rp_run.specs.Output.{Finished, run_text}
use Rattle.rp_run.specs.Told.{IsReady, Told, read_into, scripts_of}
use Rattle.rp_session.specs.Played.{Reaches}
use Rattle.rp_trail.specs.Entry.{Entry}
use Rattle.rp_tree.specs.Statements as stmt_tree
use Rattle.rp_tree.specs.StatementTrees.{Stmts}
use Rattle.rp_words.specs.Command.{Pair, Run, command_of, run}

-- an entry of the session of a pair, sessions being numbered from 1, that tells what the declarations say of the pair's principals
pub record IsOfPair (d : Declarations) (pairs : List Pair) (e : Entry) : Type 0 where
  pub place : ℕ
  pub number : e.session ≡ suc place
  pub pair : Pair
  pub stands : slice_get pairs place ≡ Some pair
  pub decided : IsDecided d pair.ids e

-- where no step refuses a run, its sessions come to a world whose trail has such entries alone
abbrev pub EachEntryIsDecided : Type 0
EachEntryIsDecided = (r : Run) (contents : List ℕ → List ℕ) (d : Declarations) (body : stmt_tree.Stmts) (w : World)
    (trees : List (Stmts (List ℕ))) → IsReady r contents d body w trees → (last : World)
    → Reaches (read_into (scripts_of r contents) w) body trees (map (λ (p : Pair). p.ids) r.pairs) r.turns r.steps last
    → All (IsOfPair d r.pairs) last.log

-- so what is told of it is the text of a log of such entries
abbrev pub EachToldEntryIsDecided : Type 0
EachToldEntryIsDecided = (words : List (List ℕ)) (contents : List ℕ → List ℕ) (text : List ℕ) (status : ℕ)
    → Told words contents text status → (r : Run) → command_of words ≡ Some (run r) → (d : Declarations)
    (body : stmt_tree.Stmts) (w : World) (trees : List (Stmts (List ℕ))) → IsReady r contents d body w trees
    → (sessions : List Finished) × ((log : List Entry) × ((text ≡ run_text r sessions log) × All (IsOfPair d r.pairs) log))
