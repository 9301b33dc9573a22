use Rattle.std.proofs.Common.{sym, ◌∙◌}
use Rattle.std.specs.Prelude.{None, Some}
use Rattle.rp_base.specs.declared.word.TheConstants.{INIT}
use Rattle.rp_store.specs.Heap.{method_at}
use Rattle.rp_step.proofs.Instancing.{init_as}
use Rattle.rp_step.proofs.runner.Runner.instance_of.Goals as goal

pub returns-in-Some-clause-law : goal.returns-in-Some-clause-law
returns-in-Some-clause-law c =
    init_as c.args.self.now c.initialise.new.self c.args.world.now c.initialise.new.world c.args.hand c.args.owner c.args.class c.args.lent c.initialise.result
    (method_at c.args.world.now.store.heap c.args.class INIT) (Some c.in-Some.function) (sym c.method.ensures.value ∙ c.in-Some.is) c.initialise.ensures.law

pub returns-in-None-clause-law : goal.returns-in-None-clause-law
returns-in-None-clause-law c =
    init_as c.args.self.now c.bare_instance.new.self c.args.world.now c.bare_instance.new.world c.args.hand c.args.owner c.args.class c.args.lent c.bare_instance.result
    (method_at c.args.world.now.store.heap c.args.class INIT) None (sym c.method.ensures.value ∙ c.in-None.is) c.bare_instance.ensures.law
