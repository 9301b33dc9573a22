use Rattle.std.proofs.Common.{ap, arith, chars, encode_utf8_all, length, string_bytes}
use Rattle.rp_methods.specs.Texts.{joined, pieces}
use Rattle.rp_methods.proofs.Pieces.{replaced-last, replaced-turn}
use Rattle.rp_methods.proofs.Turns.{longer}
use Rattle.rp_methods.proofs.text_makers.replaced.Goals as goal

pub loop-before-preserved : goal.loop-before-preserved
loop-before-preserved c =
    let whole = encode_utf8_all (joined (chars c.args.to.now) (pieces (chars c.args.from.now) (chars c.args.text.now))) in
    record {
      whole = replaced-turn (string_bytes c.loop-before.all) (string_bytes c.push_both.new.all) whole c.args.from.now c.in-Some.before.now c.in-Some.after.now c.loop-before.rest.now
          c.args.to.now c.in-Some.ensures.utf8.0 c.utf8.to c.loop-before.invariant.whole c.in-Some.ensures.cut c.in_ok-push_both.ensures;
      utf8 = c.in-Some.ensures.utf8.1;
    }

pub returns-then-as_str-room-clause-over : goal.returns-then-as_str-room-clause-over
returns-then-as_str-room-clause-over c =
    let whole = encode_utf8_all (joined (chars c.args.to.now) (pieces (chars c.args.from.now) (chars c.args.text.now))) in
    let turn = replaced-turn (string_bytes c.loop-before.all) (string_bytes c.push_both.new.all) whole c.args.from.now c.in-Some.before.now c.in-Some.after.now c.loop-before.rest.now
    c.args.to.now c.in-Some.ensures.utf8.0 c.utf8.to c.loop-before.invariant.whole c.in-Some.ensures.cut c.in_ok-push_both.ensures in
    let size = ap length c.as_str.ensures.value in
    longer (string_bytes c.push_both.new.all) (encode_utf8_all (joined (chars c.args.to.now) (pieces (chars c.args.from.now) (chars c.in-Some.after.now)))) whole c.args.room turn
    (omega (size, arith))

pub returns-clause-replaced : goal.returns-clause-replaced
returns-clause-replaced c =
    let whole = encode_utf8_all (joined (chars c.args.to.now) (pieces (chars c.args.from.now) (chars c.args.text.now))) in
    replaced-last (string_bytes c.loop-before.all) (string_bytes c.push_str.new.self) whole c.args.from.now c.loop-before.rest.now c.args.to.now c.loop-before.invariant.utf8
    c.loop-before.invariant.whole c.in_default.ensures.cut c.in_ok-push_str.ensures.bytes
