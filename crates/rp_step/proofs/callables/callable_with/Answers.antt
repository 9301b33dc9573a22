use Rattle.std.proofs.Common.{refl}
use Rattle.rp_step.proofs.CalledObjects.{function_sound}
use Rattle.rp_step.proofs.callables.callable_with.Goals as goal

pub function_at-entry-requires-clause-sound : goal.function_at-entry-requires-clause-sound
function_at-entry-requires-clause-sound c = function_sound c.args.store.now.heap c.args.function c.requires.function

pub returns : goal.returns
returns c = record { place = c.function_at-entry.ensures.place; receiver = refl; function = c.function_at-entry.ensures.function; sound = c.requires.receiver }
