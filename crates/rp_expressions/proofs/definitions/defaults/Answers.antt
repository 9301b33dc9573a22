use Rattle.std.proofs.Common.{List, sym, subst}
use Rattle.std.specs.Prelude.{OnOk}
use Rattle.rp_meaning.specs.Frame.{Meaning}
use Rattle.rp_expressions.proofs.Definings.{defines_more}
use Rattle.rp_expressions.specs.Defining.{Defines}
use Rattle.rp_engine.specs.Does as does
use Rattle.rp_expressions.proofs.definitions.defaults.Goals as goal

pub returns-in-None-clause-law : goal.returns-in-None-clause-law
returns-in-None-clause-law c =
    subst (λ (ms : List Meaning). OnOk c.make_function.result (Defines c.args.name c.args.block c.args.count ms c.args.machine.now c.args.world.now c.make_function.new.machine c.make_function.new.world))
    (sym c.in-None.ensures.law) c.make_function.ensures.law

pub returns-in-Some-clause-law : goal.returns-in-Some-clause-law
returns-in-Some-clause-law c =
    defines_more c.args.machine.now c.wait.new.self c.args.world.now c.wait.result c.args.name c.args.block c.args.count (does.expr c.in-Some.x.now) (does.defaults c.in-Some.rest.now)
    (does.defaults c.args.params.now) c.in-Some.ensures.law c.wait.ensures.law
