use Rattle.rp_store.specs.Object.{content_of}
use Rattle.rp_store.specs.Parts.{IsScope}
use Rattle.rp_access.proofs.Occupants.{stands}
use Rattle.rp_engine.proofs.NoItems.{none_no_items, scope_no_items}
use Rattle.rp_engine.proofs.standing.is_value.Goals as goal

pub returns-in-Some-clause-sound : goal.returns-in-Some-clause-sound
returns-in-Some-clause-sound c = λ h. stands c.args.store.now.heap c.args.at (content_of c.in-Some.object.now) (λ x. ¬ IsScope x) c.in-Some.ensures.content (c.is_no_scope.ensures.value h)

pub returns-in-Some-clause-other : goal.returns-in-Some-clause-other
returns-in-Some-clause-other c = λ h. scope_no_items c.args.store.now.heap c.args.at (content_of c.in-Some.object.now) c.in-Some.ensures.content (c.is_no_scope.ensures.scope h)

pub returns-in-None-clause-other : goal.returns-in-None-clause-other
returns-in-None-clause-other c = λ h. none_no_items c.args.store.now.heap c.args.at c.in-None.ensures.content
