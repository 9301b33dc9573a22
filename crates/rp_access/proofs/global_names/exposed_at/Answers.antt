use Rattle.std.proofs.Common.{Some, refl, rules}
use Rattle.rp_access.proofs.Exposed.{first_sound}
use Rattle.rp_access.proofs.global_names.exposed_at.Goals as goal

pub taken-requires : goal.taken-requires
taken-requires c =
    rw c.in_ok-copy-in-Some.ensures
    (first_sound c.args.world.now.store.heap _ (Some c.in-Some.value.now) refl (search rules) c.in-Some.ensures.fit)
