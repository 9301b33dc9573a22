use Rattle.std.proofs.Common.{Option, false, ap, ◌∙◌}
use Rattle.std.specs.Option.{option_map_or}
use Rattle.rp_meaning.specs.Classes.{is_class}
use Rattle.rp_store.specs.Object.{Content, content_of}
use Rattle.rp_store.specs.Parts.{IsClass}
use Rattle.rp_access.proofs.Occupants.{is_held, stands}
use Rattle.rp_access.proofs.standing.is_class.Goals as goal

pub returns-in-Some-clause-value : goal.returns-in-Some-clause-value
returns-in-Some-clause-value c = c.is_a_class.ensures.value ∙ ap (λ (o : Option Content). option_map_or is_class o false) c.in-Some.ensures.content

pub returns-in-Some-clause-class : goal.returns-in-Some-clause-class
returns-in-Some-clause-class c = λ h. stands c.args.store.now.heap c.args.at (content_of c.in-Some.object.now) IsClass c.in-Some.ensures.content (c.is_a_class.ensures.class h)

pub returns-in-Some-clause-held : goal.returns-in-Some-clause-held
returns-in-Some-clause-held c = λ h. is_held c.args.store.now.heap c.args.at (content_of c.in-Some.object.now) c.in-Some.ensures.content

pub returns-in-None-clause-value : goal.returns-in-None-clause-value
returns-in-None-clause-value c = ap (λ (o : Option Content). option_map_or is_class o false) c.in-None.ensures.content
