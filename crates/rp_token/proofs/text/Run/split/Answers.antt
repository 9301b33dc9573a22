use Rattle.std.proofs.Common.{◌≡◌, ◌∙◌, ◌<◌, ◌-◌, inl, inr, ap, [], length, take_while, chars, arith, rules}
use Rattle.std.proofs.lemmas.List.{length-drop}
use Rattle.std.proofs.lemmas.Str.{IsUtf8-take}
use Rattle.rp_token.specs.Run.{passes}
use Rattle.rp_token.proofs.Texts.{Passed-more, Passed-le, Passed-cut, Passed-rest, Passed-front, run-over, no_chars}
use Rattle.rp_base.proofs.CallerLemmas.{some_chars}
use Rattle.rp_token.proofs.text.Run.split.Goals as goal
use Rattle.rp_token.proofs.text.Run.split.Goals.{then-run-test+else-passes, else-run-test}

pub run-smaller : goal.run-smaller
run-smaller c =
    let some : 0 < length c.run.rest.now = search rules in
    let letters = some_chars c.run.rest.now c.run.invariant.0 some in
    let shorter = ap length c.behind-rest.ensures ∙ length-drop 1 (chars c.run.rest.now) in
    omega arith

pub run-preserved : goal.run-preserved
run-preserved c =
    let some : 0 < length c.run.rest.now = search rules in
    (c.behind-rest.utf8, Passed-more _ _ _ _ c.run.invariant.1 (some_chars c.run.rest.now c.run.invariant.0 some) (search rules) c.behind-rest.ensures)

pub overflow_sub-text : goal.overflow_sub-text
overflow_sub-text c = Passed-le _ _ _ c.utf8.text c.run.invariant.0 c.run.invariant.1

pub split_at-requires : goal.split_at-requires
split_at-requires c = Passed-cut _ _ _ c.utf8.text c.run.invariant.0 c.run.invariant.1

pub returns : goal.returns
returns c =
    let over : take_while (passes c.args.self) (chars c.run.rest.now) ≡ [] =
    elim c.run-test.branch as (λ _. take_while (passes c.args.self) (chars c.run.rest.now) ≡ []) [
      | then-run-test+else-passes w ↦ run-over (passes c.args.self) (chars c.run.rest.now) (inr (search rules))
      | else-run-test w ↦ run-over (passes c.args.self) (chars c.run.rest.now) (inl (no_chars c.run.rest.now (search rules)))
    ] in
    record {
      run = Passed-front _ _ _ _ c.utf8.text c.run.invariant.0 c.split_at.ensures.front c.run.invariant.1 over;
      rest = Passed-rest _ _ _ c.run.invariant.1 over;
      text = rw c.split_at.ensures.front (IsUtf8-take c.args.text.now (length c.args.text.now - length c.run.rest.now) c.utf8.text (Passed-cut _ _ _ c.utf8.text c.run.invariant.0 c.run.invariant.1));
    }
