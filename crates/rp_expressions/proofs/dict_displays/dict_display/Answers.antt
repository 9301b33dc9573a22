use Rattle.rp_expressions.proofs.DictDisplays.{dict_ends, dict_goes}
use Rattle.rp_engine.specs.Does as does
use Rattle.rp_store.proofs.CallerLemmas.{KeepsShape-trans}
use Rattle.rp_engine.proofs.Worlds.{IsReady-stored, shape_stored}
use Rattle.rp_expressions.proofs.dict_displays.dict_display.Goals as goal

pub returns-in-Ok-clause-law : goal.returns-in-Ok-clause-law
returns-in-Ok-clause-law c =
    dict_goes c.args.machine.now c.entries.new.machine c.args.world.now c.take_step.new.world c.entries.new.world c.entries.result (does.pairs c.args.pairs.now) c.in-Ok.ensures.law c.entries.ensures.law

pub returns-in-Err-clause-law : goal.returns-in-Err-clause-law
returns-in-Err-clause-law c =
    dict_ends c.args.machine.now c.no_value.new.self c.args.world.now c.take_step.new.world c.no_value.result (does.pairs c.args.pairs.now) c.in-Err.end c.in-Err.ensures.law c.no_value.ensures.law

pub entries-requires : goal.entries-requires
entries-requires c = record { ready = IsReady-stored _ _ _ c.args.world.now c.take_step.new.world c.requires.ready c.take_step.ensures.store (c.take_step.ensures.faithful c.requires.ready.faithful) }

pub returns-in-Ok-clause-ready : goal.returns-in-Ok-clause-ready
returns-in-Ok-clause-ready c = c.entries.ensures.ready

pub returns-in-Ok-clause-shape : goal.returns-in-Ok-clause-shape
returns-in-Ok-clause-shape c = KeepsShape-trans _ _ _ (shape_stored c.args.world.now.store c.take_step.new.world.store c.take_step.ensures.store) c.entries.ensures.shape

pub returns-in-Err-clause-ready : goal.returns-in-Err-clause-ready
returns-in-Err-clause-ready c = c.no_value.ensures.ready c.take_step.new.world (IsReady-stored _ _ _ c.args.world.now c.take_step.new.world c.requires.ready c.take_step.ensures.store (c.take_step.ensures.faithful c.requires.ready.faithful))

pub returns-in-Err-clause-shape : goal.returns-in-Err-clause-shape
returns-in-Err-clause-shape c = shape_stored c.args.world.now.store c.take_step.new.world.store c.take_step.ensures.store
