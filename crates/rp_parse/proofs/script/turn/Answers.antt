use Rattle.std.proofs.Common.{sym, ◌∙◌}
use Rattle.rp_parse.proofs.script.turn.Goals as goal

pub returns-then-begins_compound : goal.returns-then-begins_compound
returns-then-begins_compound c = rw (sym c.begins_compound.ensures ∙ c.if-begins_compound.true) c.compound_turn.ensures

pub returns : goal.returns
returns c = rw (sym c.begins_compound.ensures ∙ c.if-begins_compound.false) c.line_turn.ensures
