use Rattle.std.proofs.Common.{refl, sym}
use Rattle.rp_expressions.proofs.Definings.{definition_ok}
use Rattle.rp_engine.specs.Does as does
use Rattle.rp_tree.specs.declared.expr.Params.{out-Params}
use Rattle.rp_expressions.proofs.definitions.definition.Goals as goal

pub returns-clause-law : goal.returns-clause-law
returns-clause-law c =
    definition_ok c.args.machine.now (record c.args.machine.now { tasks = c.push.new.self }) c.defaults.new.machine c.args.world.now c.defaults.new.world c.defaults.result c.args.name c.args.block
    (does.defaults (out-Params c.args.params.now).plain.items) c.push.new.self refl c.in_ok-push.ensures.pushed (rw (sym c.deref.ensures.value) c.defaults.ensures.law)
