use Rattle.std.proofs.Common.{map, arith}
use Rattle.std.proofs.lemmas.List.{map_push}
use Rattle.rp_words.specs.Command.{pair_of}
use Rattle.rp_words.specs.View.{pair_view}
use Rattle.rp_words.proofs.Found.{AreFound-missing_word, AreFound-next_word}
use Rattle.rp_words.proofs.pair.read_each.Goals as goal

pub returns-in_default : goal.returns-in_default
returns-in_default c =
    AreFound-missing_word pair_of pair_view c.args.words.now c.pairs.word-index _
    (map pair_view c.pairs.pairs.items) c.in_ok-pair.field-0 (omega arith)
    c.in_ok-pair.ensures c.in_default.is c.pairs.invariant

pub pairs-preserved : goal.pairs-preserved
pairs-preserved c =
    rw (c.in_ok-push.ensures.items, map_push pair_view c.pairs.pairs.items c.in-Some.pair)
    (AreFound-next_word pair_of pair_view c.args.words.now c.pairs.word-index _
    (map pair_view c.pairs.pairs.items) c.in_ok-pair.field-0 c.in-Some.pair (omega arith)
    c.in_ok-pair.ensures c.in-Some.is c.pairs.invariant)
