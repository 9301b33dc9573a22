use Rattle.std.proofs.Common.{◌∙◌, inr, refl, sym}
use Rattle.rp_proxy.proofs.crossing.is_last_yes.Goals as goal

pub returns-in-Some-clause-has : goal.returns-in-Some-clause-has
returns-in-Some-clause-has c told = sym c.in-Some.ensures.answer ∙ told

pub returns-in-Some-clause-asked : goal.returns-in-Some-clause-asked
returns-in-Some-clause-asked c told = record { held = λ found. c.in-Some.ensures.same refl; other = λ none. inr refl }
