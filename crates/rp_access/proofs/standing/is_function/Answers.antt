use Rattle.std.proofs.Common.{Option, false, ap, ◌∙◌}
use Rattle.std.specs.Option.{option_map_or}
use Rattle.rp_meaning.specs.Classes.{is_function}
use Rattle.rp_store.specs.Object.{Content}
use Rattle.rp_access.proofs.standing.is_function.Goals as goal

pub returns-in-Some : goal.returns-in-Some
returns-in-Some c = c.is_a_function.ensures ∙ ap (λ (o : Option Content). option_map_or is_function o false) c.in-Some.ensures.content

pub returns-in-None : goal.returns-in-None
returns-in-None c = ap (λ (o : Option Content). option_map_or is_function o false) c.in-None.ensures.content
