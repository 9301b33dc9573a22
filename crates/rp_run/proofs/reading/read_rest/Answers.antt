use Rattle.std.proofs.Common.{◌≡◌, ◌≤◌, ◌<◌, ◌++◌, length, take, not, true, ◌==◌, refl, rules, arith, ◌∙◌, ap}
use Rattle.std.proofs.lemmas.Bool.{ne_eqb}
use Rattle.std.proofs.lemmas.List.{take-append-le}
use Rattle.rp_run.proofs.Taken.{taken_none, taken_front, taken_whole, taken_too_long}
use Rattle.rp_run.proofs.reading.read_rest.Goals as goal

pub loop-taken-init : goal.loop-taken-init
loop-taken-init g c = record {
  sound = c.requires.sound;
  opened = c.requires.open;
  told = rw c.new-taken.ensures.items (taken_none _);
  last = refl;
  counted = refl;
  same_contents = refl;
}

pub returns-then-count-eq0-clause-told : goal.returns-then-count-eq0-clause-told
returns-then-count-eq0-clause-told g c =
    let clauses = c.in_ok-count.ensures in
    let short : length c.loop-taken.taken.items ≤ 4194304 = omega (arith, c.loop-taken.taken.ok.0) in
    taken_whole _ c.loop-taken.taken _ _ _ _ c.if-count-eq0.true short c.loop-taken.invariant.told clauses.told

pub loop-taken-preserved : goal.loop-taken-preserved
loop-taken-preserved g c =
    let clauses = c.in_ok-count.ensures in
    let more : c.extend_from_slice.new.self.items ≡ c.loop-taken.taken.items
    ++ take c.in_ok-count.count c.read.new.into =
    c.in_ok-extend_from_slice.ensures.items
    ∙ ap (λ front. c.loop-taken.taken.items ++ front) (take-append-le _ c.read.new.into _ clauses.bound) in
    let some : not (c.in_ok-count.count == 0) ≡ true = ap not (ne_eqb _ 0 c.if-count-eq0.false) in
    record {
      sound = search rules;
      opened = rw some at clauses.ends;
      told = rw more (taken_front _ _ _ _ _ _ c.loop-taken.invariant.told clauses.told);
      last = search rules;
      counted = search rules;
      same_contents = search rules;
    }

pub returns-clause-told : goal.returns-clause-told
returns-clause-told g c =
    let long : 4194304 < length c.loop-taken.taken.items = omega (arith, c.loop-taken.taken.ok.0) in
    taken_too_long _ _ _ long c.loop-taken.invariant.told
