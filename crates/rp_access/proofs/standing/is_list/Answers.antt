use Rattle.rp_store.specs.Object.{content_of}
use Rattle.rp_store.specs.Parts.{IsList}
use Rattle.rp_access.proofs.Additions.{none_no_end, some_no_end}
use Rattle.rp_access.proofs.Occupants.{is_held, stands}
use Rattle.rp_access.proofs.standing.is_list.Goals as goal

pub returns-in-Some-clause-list : goal.returns-in-Some-clause-list
returns-in-Some-clause-list c = λ h. stands c.args.store.now.heap c.args.at (content_of c.in-Some.object.now) IsList c.in-Some.ensures.content (c.is_a_list.ensures.list h)

pub returns-in-Some-clause-held : goal.returns-in-Some-clause-held
returns-in-Some-clause-held c = λ h. is_held c.args.store.now.heap c.args.at (content_of c.in-Some.object.now) c.in-Some.ensures.content

pub returns-in-Some-clause-other : goal.returns-in-Some-clause-other
returns-in-Some-clause-other c = λ h. some_no_end c.args.store.now.heap c.args.at (content_of c.in-Some.object.now) c.in-Some.ensures.content (c.is_a_list.ensures.other h)

pub returns-in-None-clause-other : goal.returns-in-None-clause-other
returns-in-None-clause-other c = λ h. none_no_end c.args.store.now.heap c.args.at c.in-None.ensures.content
