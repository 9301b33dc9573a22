use Rattle.std.proofs.Common.{chars, refl}
use Rattle.std.specs.Str.Iter.{split_whitespace_rest}
use Rattle.rp_methods.specs.Texts.{text_value, words}
use Rattle.rp_methods.proofs.Turns.{collected-all}
use Rattle.rp_methods.proofs.Walked.{collected-next}
use Rattle.rp_methods.proofs.Words.{words-none, words-step}
use Rattle.rp_methods.proofs.text_lists.words_of.Goals as goal

pub loop-word-preserved : goal.loop-word-preserved
loop-word-preserved c =
    let steps = c.in-Some.ensures.steps in
    let whole = split_whitespace_rest c.loop-word.walk in
    let rest = split_whitespace_rest c.next.new.self in
    let word = c.in-Some.word.now in
    let first = words-step whole steps.0 word rest steps.5.0 c.loop-word.invariant.utf8 steps.1 steps.2 steps.3 steps.4 steps.5.1 in
    record {
      whole = collected-next text_value c.loop-word.all.items c.push_text.new.all.items (chars word) (words (chars rest)) (words (chars whole)) (words (chars c.args.text.now))
          (text_value (chars word)) c.loop-word.invariant.whole first.0 c.in_ok-push_text.ensures refl;
      utf8 = first.1;
    }

pub returns : goal.returns
returns c =
    let rest = split_whitespace_rest c.loop-word.walk in
    collected-all c.loop-word.all.items (words (chars rest)) (words (chars c.args.text.now)) c.loop-word.invariant.whole
    (words-none rest c.loop-word.invariant.utf8 c.in_default.ensures.steps.1)
