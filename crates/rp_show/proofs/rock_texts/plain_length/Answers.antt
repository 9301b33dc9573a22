use Rattle.std.proofs.Common.{rules, ap, length, ◌∙◌}
use borrow.Author.Tests.{tests}
use Rattle.std.proofs.lemmas.Iterator.{YieldsList-from_slice}
use Rattle.std.proofs.lemmas.Iterator.Search.{position_from_yields_List}
use Rattle.rp_show.specs.EscapeSteps.{has_escape}
use Rattle.rp_show.proofs.Runs.{first-some, first-none}
use Rattle.rp_show.proofs.rock_texts.plain_length.Goals as goal

pub returns-in-Some : goal.returns-in-Some
returns-in-Some c = first-some (has_escape c.args.quote) c.args.text.now c.position.result c.in-Some.at
    (position_from_yields_List (has_escape c.args.quote) _ _ c.position.result c.position.ensures.ran (YieldsList-from_slice c.args.text.now cc) (λ x b q k. search (rules, tests)))
    c.in-Some.is

pub returns-in-None : goal.returns-in-None
returns-in-None c = ap length c.as_bytes-bytes.ensures.value ∙ first-none (has_escape c.args.quote) c.args.text.now c.position.result
    (position_from_yields_List (has_escape c.args.quote) _ _ c.position.result c.position.ensures.ran (YieldsList-from_slice c.args.text.now cc) (λ x b q k. search (rules, tests)))
    c.in-None.is
