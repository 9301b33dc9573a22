use Rattle.rp_store.specs.Kept.{IsSound}
use Rattle.rp_methods.proofs.Sound.{All-get}
use Rattle.rp_methods.proofs.dict_keys.second.Goals as goal

pub returns-clause-sound : goal.returns-clause-sound
returns-clause-sound c = (λ heap sound. All-get (IsSound heap) c.args.args.now 1 _ c.argument.ensures sound)
