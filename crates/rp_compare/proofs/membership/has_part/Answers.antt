use Rattle.std.proofs.lemmas.Str.Pattern.{contains_text}
use Rattle.rp_compare.proofs.Parts.{part-answer, text_part-answer}
use Rattle.rp_compare.proofs.membership.has_part.Goals as goal

pub returns : goal.returns
returns c =
    let text = c.as_str.result.now in
    let part = c.as_str-2.result.now in
    text_part-answer c.contains.result c.args.part.now c.args.text.now part text c.as_str-2.utf8 c.as_str.utf8 c.as_str-2.ensures c.as_str.ensures
    (part-answer c.contains.result part text (contains_text c.contains.result part text c.contains.ensures.cases))
