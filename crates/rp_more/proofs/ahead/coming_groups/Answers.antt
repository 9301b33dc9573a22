use Rattle.std.proofs.Common.{◌≡◌, ◌∙◌, ◌+◌, ◌-◌, ◌<◌, sym, ap, arith, take, drop, get_or, length}
use Rattle.std.proofs.lemmas.List.{length-drop, take_all}
use Rattle.std.proofs.Math.Seq.{drop-length}
use Rattle.rp_more.specs.SetSteps.{aheads, groups_ahead}
use Rattle.rp_more.proofs.Closings.{walk-turn}
use Rattle.rp_more.proofs.ahead.coming_groups.Goals as goal

pub tokens-init : goal.tokens-init
tokens-init c = record {
  within = omega arith;
  groups = c.new.ensures ∙ sym (ap groups_ahead (drop-length c.args.tokens.now));
  closing = c.new-2.ensures ∙ sym (ap aheads (drop-length c.args.tokens.now));
}

pub tokens-preserved : goal.tokens-preserved
tokens-preserved c =
    let at = c.tokens in
    let ts = c.args.tokens.now in
    let p = at.place - 1 in
    let within = at.invariant.within in
    let more : at.place ≡ p + 1 = omega arith in
    let less : p < length ts = omega arith in
    let t = get_or ts p c.index-tokens-place.result in
    let behind = take (length ts - (p + 1)) (drop (p + 1) ts) in
    let all : behind ≡ drop (p + 1) ts = take_all (length ts - (p + 1)) (drop (p + 1) ts) (omega (arith, length-drop (p + 1) ts)) in
    let turn = walk-turn at.walk.groups c.take.new.self.groups at.walk.closing c.take.new.self.closing ts behind p at.place t more less (ap (get_or ts p) c.index-tokens-place.is) all
    at.invariant.groups at.invariant.closing c.in_ok-take.ensures.groups c.in_ok-take.ensures.closing in
    record { within = omega arith; groups = turn.0; closing = turn.1 }
