-- Claims on a cause for which there is no world.
use Rattle.std.proofs.Common.{Result}
use Rattle.rp_meaning.specs.Load.{Refused}
use Rattle.rp_meaning.specs.Sessions.{World}
use Rattle.rp_world.specs.Worlds.{Refuses}
use Rattle.rp_world.specs.declared.refusal.NoWorld.{NoWorld}
use Rattle.rp_world.specs.declared.refusal.NoWorld.TheVariants as cause

-- what follows of each claim is claimed
pub refuses-on : (e : NoWorld) (P Q : Result World Refused → Type 0) → ((r : Result World Refused) → P r → Q r) → Refuses e P → Refuses e Q
refuses-on (cause.Raised r) P Q go h = go _ h
refuses-on cause.StopSteps P Q go h = go _ h
refuses-on cause.StopCells P Q go h = go _ h
refuses-on (cause.Unbound word) P Q go h = go _ h
refuses-on cause.TooLong P Q go h = tt
refuses-on cause.Memory P Q go h = tt
