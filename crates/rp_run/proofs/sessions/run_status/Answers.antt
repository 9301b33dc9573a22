use Rattle.std.proofs.Common.{◌≡◌, ◌∙◌, sym, refl, true, false}
use Rattle.rp_run.proofs.Blocks.{status-other, status-stopped}
use Rattle.rp_run.proofs.sessions.run_status.Goals as goal

pub returns-then-stopped : goal.returns-then-stopped
returns-then-stopped c = λ all told.
    status-stopped c.args.sessions.now all 5 told (sym c.some_ends-stopped.ensures ∙ c.if-stopped.true) refl

pub returns-then-raised : goal.returns-then-raised
returns-then-raised c = λ all told.
    status-other c.args.sessions.now all 1 true told (sym c.some_ends-stopped.ensures ∙ c.if-stopped.false)
    (sym c.some_ends-raised.ensures ∙ c.if-raised.true) refl

pub returns : goal.returns
returns c = λ all told.
    status-other c.args.sessions.now all 0 false told (sym c.some_ends-stopped.ensures ∙ c.if-stopped.false)
    (sym c.some_ends-raised.ensures ∙ c.if-raised.false) refl
