use Rattle.std.proofs.Common.{Some, ap, subst, ◌∙◌}
use Rattle.rp_store.specs.Kept.{IsHeldBySome}
use Rattle.rp_store.specs.Object.{content_of, dict}
use Rattle.rp_store.specs.Heap.{content_at}
use Rattle.rp_store.specs.declared.object.Object.{Object}
use Rattle.rp_access.proofs.Spreadings.{got_at}
use Rattle.rp_access.proofs.spreading.object_named.Goals as goal

pub all_named-requires : goal.all_named-requires
all_named-requires c =
    (subst (λ (o : Object). IsHeldBySome c.args.world.now.store.heap (content_of o)) c.in-Dict.is c.object.ensures.holds).holds

pub returns-in-Dict-clause-named : goal.returns-in-Dict-clause-named
returns-in-Dict-clause-named c =
    got_at c.args.world.now.store.heap c.args.side c.args.from.now c.all_named.result (content_at c.args.world.now.store.heap c.args.at) (Some (dict c.in-Dict.entries))
    (c.object.ensures.content ∙ ap (λ (o : Object). Some (content_of o)) c.in-Dict.is) c.all_named.ensures.named
