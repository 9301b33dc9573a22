use Rattle.std.proofs.Common.{◌∙◌, sym, ap, arith}
use Rattle.std.proofs.lemmas.List.{drop_all}
use Rattle.rp_calls.specs.Binding.{given}
use Rattle.rp_calls.specs.TableSteps.{at_word, noted}
use Rattle.rp_calls.proofs.Tables.{argument-turn}
use Rattle.rp_calls.proofs.named_arguments.table_of.Goals as goal

pub loop-name-preserved : goal.loop-name-preserved
loop-name-preserved c word =
    let at = c.loop-name in
    argument-turn c.args.list.now at.name-index c.loop-name-item.result c.as_str.result.now word (at_word at.table word) (at_word c.note.new.table word)
    (omega arith) c.loop-name-item.is c.as_str.utf8 c.as_str.ensures (c.in_ok-note.ensures word)
    ∙ at.invariant word

pub returns : goal.returns
returns c word =
    let at = c.loop-name in
    ap (λ gs. noted (at_word at.table word) (given gs word)) (sym (drop_all at.name-index c.args.list.now (omega arith))) ∙ at.invariant word
