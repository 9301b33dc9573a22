use Rattle.std.proofs.Common.{◌∙◌}
use Rattle.rp_calls.proofs.Tables.{names-told}
use Rattle.rp_calls.proofs.parameter_names.is_one.Goals as goal

pub returns-in-Some : goal.returns-in-Some
returns-in-Some c =
    c.contains.ensures
    ∙ names-told c.args.words.now c.in-Some.words c.args.names.now c.args.plain.now c.as_str.result.now c.args.name.now c.requires c.in-Some.is c.as_str.utf8 c.as_str.ensures
