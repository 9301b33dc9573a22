use Rattle.std.proofs.Common.{chars, ap}
use Rattle.rp_ops.specs.Outcome.{state_of}
use Rattle.rp_methods.specs.Texts.{words}
use Rattle.rp_methods.proofs.Turns.{listed-same, values-again}
use Rattle.rp_methods.proofs.text_lists.split_words.Goals as goal

pub list_texts-requires : goal.list_texts-requires
list_texts-requires c = values-again c.in_ok-values.values.items (words (chars c.as_str.result.now)) c.in_ok-values.ensures

pub returns-clause-plain : goal.returns-clause-plain
returns-clause-plain c =
    (λ steps. listed-same c.list_texts.result (state_of c.args.store.now steps) (state_of c.list_texts.new.store steps) c.args.side c.in_ok-values.values.items
    (words (chars c.as_str.result.now)) (words c.args.text.now) c.in_ok-values.ensures (ap words c.as_str.ensures) (c.list_texts.ensures.plain steps))
