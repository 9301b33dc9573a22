use Rattle.std.proofs.Common.{◌==◌, ◌∙◌, sym, arith, length}
use Rattle.std.proofs.lemmas.Iterator.Consumers.{YieldsList-turn, YieldsList-end}
use Rattle.std.proofs.lemmas.Iterator.Splits.{YieldsList-from_str_split}
use Rattle.std.proofs.lemmas.List.{length_push}
use Rattle.std.specs.List.{slice_split}
use Rattle.rp_words.specs.Command.{number_of}
use Rattle.rp_words.proofs.Found.{AreFound-start, AreFound-next, AreFound-missing, AreFound-end}
use Rattle.rp_words.proofs.turns.read_each.Goals as goal

pub numbers-init : goal.numbers-init
numbers-init c =
    rw c.new-numbers.ensures.items
    (AreFound-start (number_of 2 1 c.args.pairs) (slice_split (λ b. b == 44) c.args.turns.now))

pub returns-in_default : goal.returns-in_default
returns-in_default c =
    let parts = slice_split (λ b. b == 44) c.args.turns.now in
    let turn = YieldsList-turn (YieldsList-from_str_split 44 c.args.turns.now (omega arith) (cc) (cc) (cc))
    c.numbers.yielded _ c.numbers.yielded_by _ c.next.new.self c.in-Some.digits c.in-Some.is c.next.ensures.steps in
    sym (AreFound-missing (number_of 2 1 c.args.pairs) parts (length c.numbers.yielded)
    c.numbers.numbers.items c.in-Some.digits.now turn.0 turn.1
    (sym c.read_number.ensures ∙ c.in_default.is) c.numbers.invariant)

pub numbers-preserved : goal.numbers-preserved
numbers-preserved c =
    let parts = slice_split (λ b. b == 44) c.args.turns.now in
    let turn = YieldsList-turn (YieldsList-from_str_split 44 c.args.turns.now (omega arith) (cc) (cc) (cc))
    c.numbers.yielded _ c.numbers.yielded_by _ c.next.new.self c.in-Some.digits c.in-Some.is c.next.ensures.steps in
    rw (c.in_ok-push.ensures.items, length_push c.numbers.yielded c.in-Some.digits)
    (AreFound-next (number_of 2 1 c.args.pairs) parts (length c.numbers.yielded)
    c.numbers.numbers.items c.in-Some.digits.now c.in-Some-read_number.number turn.0 turn.1
    (sym c.read_number.ensures ∙ c.in-Some-read_number.is) c.numbers.invariant)

pub returns : goal.returns
returns c =
    let parts = slice_split (λ b. b == 44) c.args.turns.now in
    let end = YieldsList-end (YieldsList-from_str_split 44 c.args.turns.now (omega arith) (cc) (cc) (cc))
    c.numbers.yielded _ c.numbers.yielded_by _ c.next.new.self c.in-None.is c.next.ensures.steps in
    sym (AreFound-end (number_of 2 1 c.args.pairs) parts (length c.numbers.yielded) c.numbers.numbers.items
    (omega (arith, end.1)) c.numbers.invariant)
