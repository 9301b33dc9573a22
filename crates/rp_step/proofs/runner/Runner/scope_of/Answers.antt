use Rattle.std.proofs.Common.{◌≡◌, ℕ, ap, length, subst, sym}
use Rattle.rp_access.specs.Comes.{Comes}
use Rattle.rp_access.specs.Moment.{state_of}
use Rattle.rp_calls.specs.Binding.{defaults_at}
use Rattle.rp_codes.specs.Codes.{code_view}
use Rattle.rp_enter.specs.Entering.{entered}
use Rattle.rp_meaning.specs.Running.{params_of}
use Rattle.rp_scope.specs.Scopes.{locals_of}
use Rattle.rp_step.specs.Callables.{before_all}
use Rattle.rp_engine.specs.HandSteps.{held_by}
use Rattle.rp_engine.specs.Moment.{program_at}
use Rattle.rp_engine.specs.declared.calling.Hand.{Hand}
use Rattle.rp_step.proofs.runner.Runner.scope_of.Goals as goal

pub returns-then-hand-eq0-clause-law : goal.returns-then-hand-eq0-clause-law
returns-then-hand-eq0-clause-law c =
    let m = c.args.self.now.machine in
    let e = c.args.entry in
    let none : c.args.hand ≡ record c.args.hand { named = 0 } = ap (λ (k : ℕ). record c.args.hand { named = k }) c.if-hand-eq0.true in
    subst (λ (h : Hand). Comes c.plain_scope.result (state_of c.plain_scope.new.world) (entered e.side e.block e.within (length (locals_of (program_at m.units.now e.side).layouts e.block))
    (params_of (code_view c.args.code)) (defaults_at c.args.world.now.store.heap e.function) (before_all c.args.receiver (held_by h m.values)) (state_of c.args.world.now))) (sym none)
    c.plain_scope.ensures.law
