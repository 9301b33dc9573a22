use Rattle.std.proofs.Common.{◌∙◌, ◌||◌, sym, ap, arith}
use Rattle.std.proofs.lemmas.List.{drop_all}
use Rattle.std.proofs.Math.Bool.{or-false}
use Rattle.rp_calls.specs.Binding.{is_plain}
use Rattle.rp_calls.specs.TableSteps.{has_word}
use Rattle.rp_calls.proofs.Tables.{parameter-turn}
use Rattle.rp_calls.proofs.parameter_names.words_of.Goals as goal

pub loop-parameter-preserved : goal.loop-parameter-preserved
loop-parameter-preserved c word =
    let at = c.loop-parameter in
    parameter-turn c.args.names.now c.args.plain.now at.parameter-index c.loop-parameter-item.result c.word_of.result.now word (has_word at.words word) (has_word c.add.new.words word)
    (omega arith) c.loop-parameter-item.is c.word_of.utf8 c.word_of.ensures (c.in_ok-add.ensures word)
    ∙ at.invariant word

pub returns : goal.returns
returns c word =
    let at = c.loop-parameter in
    sym (or-false (has_word at.words word))
    ∙ ap (λ ps. has_word at.words word || is_plain c.args.names.now ps word) (sym (drop_all at.parameter-index c.args.plain.now (omega arith)))
    ∙ at.invariant word
