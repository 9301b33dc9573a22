use Rattle.std.proofs.Common.{sym, ◌∙◌}
use Rattle.rp_step.proofs.CalledObjects.{special_callable, special_uncalled}
use Rattle.rp_step.proofs.callables.special_at.Goals as goal

pub returns-in-Some : goal.returns-in-Some
returns-in-Some c =
    special_callable c.args.store.now.heap c.args.at c.in-Some.function c.callable_with.result c.requires.instance (sym c.method_of.ensures.value ∙ c.in-Some.is) c.callable_with.ensures

pub returns-in-None : goal.returns-in-None
returns-in-None c = special_uncalled c.args.store.now.heap c.args.at c.requires.instance (sym c.method_of.ensures.value ∙ c.in-None.is)
