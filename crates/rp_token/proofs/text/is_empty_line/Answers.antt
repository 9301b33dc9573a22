use Rattle.std.proofs.Common.{◌∙◌, sym, rules, chars}
use Rattle.rp_token.proofs.Texts.{is_empty_line-none, is_empty_line-some, no_chars, not_empty}
use Rattle.rp_base.proofs.CallerLemmas.{some_chars}
use Rattle.rp_token.proofs.text.is_empty_line.Goals as goal

pub returns-then-is_empty : goal.returns-then-is_empty
returns-then-is_empty c = c.if-is_empty.true ∙ sym (is_empty_line-none _ (no_chars c.args.text.now (search rules)))

pub returns-in_default : goal.returns-in_default
returns-in_default c =
    let some = some_chars c.args.text.now c.utf8.text (not_empty _ _ c.is_empty.ensures c.if-is_empty.false) in
    rw (is_empty_line-some (chars c.args.text.now) some) (search rules)
