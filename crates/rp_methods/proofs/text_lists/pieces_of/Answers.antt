use Rattle.std.proofs.Common.{chars, refl}
use Rattle.rp_methods.specs.Texts.{pieces, text_value}
use Rattle.rp_methods.proofs.Turns.{collected-last}
use Rattle.rp_methods.proofs.Walked.{collected-next}
use Rattle.rp_methods.proofs.text_lists.pieces_of.Goals as goal

pub loop-before-preserved : goal.loop-before-preserved
loop-before-preserved c =
    let cut = pieces (chars c.args.part.now) in
    let before = chars c.in-Some.before.now in
    record {
      whole = collected-next text_value c.loop-before.all.items c.push_text.new.all.items before (cut (chars c.in-Some.after.now)) (cut (chars c.loop-before.rest.now))
          (cut (chars c.args.text.now)) (text_value before) c.loop-before.invariant.whole c.in-Some.ensures.cut c.in_ok-push_text.ensures refl;
      utf8 = c.in-Some.ensures.utf8.1;
    }

pub returns : goal.returns
returns c =
    let cut = pieces (chars c.args.part.now) in
    collected-last c.loop-before.all.items c.push_text-2.new.all.items (cut (chars c.loop-before.rest.now)) (cut (chars c.args.text.now)) (chars c.loop-before.rest.now)
    c.loop-before.invariant.whole c.in_default.ensures.cut c.in_ok-push_text-2.ensures
