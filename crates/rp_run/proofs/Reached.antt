-- The world to which the sessions of a run come.
use Rattle.std.proofs.Common.{◌≡◌, ℕ, List, IfOk, Result, Ok, Err, subst}
use Rattle.rp_meaning.specs.Sessions.{World}
use Rattle.rp_session.specs.Played.{Reaches}
use Rattle.rp_session.specs.View.{sessions_view}
use Rattle.rp_session.specs.declared.no_outcome.NoOutcome.{NoOutcome}
use Rattle.rp_session.specs.declared.sessions.Sessions.{Sessions}
use Rattle.rp_tree.specs.Statements as stmt_tree
use Rattle.rp_tree.specs.StatementTrees.{Stmts}

-- it is that of the same scripts, principals and turns
pub reached_so : (w : World) (body : stmt_tree.Stmts) (ts us : List (Stmts (List ℕ))) (whos ids : List (List (List ℕ)))
    (listed turns : List ℕ) (steps : ℕ) (result : Result Sessions NoOutcome) → ts ≡ us → whos ≡ ids → listed ≡ turns
    → IfOk result (λ s. Reaches w body ts whos listed steps (sessions_view s))
    → IfOk result (λ s. Reaches w body us ids turns steps (sessions_view s))
reached_so w body ts us whos ids listed turns steps (Err e) trees same_whos same_turns comes = tt
reached_so w body ts us whos ids listed turns steps (Ok s) trees same_whos same_turns comes =
    subst (λ (l : List ℕ). Reaches w body us ids l steps (sessions_view s)) same_turns
    (subst (λ (ws : List (List (List ℕ))). Reaches w body us ws listed steps (sessions_view s)) same_whos
    (subst (λ (given : List (Stmts (List ℕ))). Reaches w body given whos listed steps (sessions_view s)) trees comes))
