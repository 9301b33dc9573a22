use Rattle.std.proofs.lemmas.Result.{err_from_is_err_and}
use Rattle.std.proofs.Common.{◌≡◌, ◌∙◌, ◌+◌, ◌++◌, ◌∷◌, [], Err, ap, inl, inr, map, length, refl, arith, sym, rules}
use Rattle.std.proofs.lemmas.List.{length-append, map-append}
use Rattle.rp_run.proofs.ReadAll.{begins-more, fails-here, refuses-long, too_long_status, whole-all, whole-more}
use Rattle.rp_run.proofs.ReadAll.{whole-none}
use Rattle.rp_run.proofs.Sayings.{long_status, stop_of}
use Rattle.rp_run.proofs.scripts.read_scripts.Goals as goal

pub loop-pair-init : goal.loop-pair-init
loop-pair-init g c = record {
  sound = c.requires.sound;
  same_contents = refl;
  counted = omega arith;
  begun = inl (refl, refl);
  told = rw c.new-all.ensures.items (whole-none _);
  many = ap length c.new-all.ensures.items;
}

pub read_short-requires : goal.read_short-requires
read_short-requires g c =
    let counted = c.loop-pair.invariant.counted in
    record { sound = c.loop-pair.invariant.sound; few = omega (arith, counted, c.requires.few) }

pub loop-pair-preserved : goal.loop-pair-preserved
loop-pair-preserved g c =
    let known = c.loop-pair.invariant in
    let read = c.in_ok-read_short.ensures in
    let i = c.loop-pair.pair-index in
    let inside = c.loop-pair-test.true in
    let pushed = c.in_ok-push.ensures.items in
    let counted = known.counted in
    let one = read.begun.0 in
    record {
      sound = read.sound;
      same_contents = read.same_contents ∙ known.same_contents;
      counted = omega (arith, counted, one);
      begun = begins-more c.args.pairs.now i c.pair-item.result inside c.pair-item.is _ _ _ _ _ _ counted known.begun
          (inr read.begun);
      told = rw (pushed, map-append (λ bytes. bytes.items) c.loop-pair.all.items)
          (whole-more c.args.pairs.now i c.pair-item.result inside c.pair-item.is _ _ _ known.told
          (rw known.same_contents at read.told));
      many = ap length pushed ∙ length-append c.loop-pair.all.items _ ∙ ap (λ n. n + 1) known.many;
    }

pub returns-in_err-read_short-clause-refused : goal.returns-in_err-read_short-clause-refused
returns-in_err-read_short-clause-refused g c =
    let known = c.loop-pair.invariant in
    let p = err_from_is_err_and c.from_residual.result c.from_residual.ensures.1 in
    rw (p.1, p.2)
    (refuses-long c.args.pairs.now c.loop-pair.pair-index c.pair-item.result c.loop-pair-test.true c.pair-item.is _
    _ _ known.told
    (rw known.same_contents at c.in_err-read_short.ensures.refused))

pub returns-in_err-read_short-clause-status : goal.returns-in_err-read_short-clause-status
returns-in_err-read_short-clause-status g c =
    let p = err_from_is_err_and c.from_residual.result c.from_residual.ensures.1 in
    rw (p.1, p.2) (long_status _ _ _ c.in_err-read_short.ensures.refused)

pub returns-in_err-read_short-clause-begun : goal.returns-in_err-read_short-clause-begun
returns-in_err-read_short-clause-begun g c =
    let known = c.loop-pair.invariant in
    begins-more c.args.pairs.now c.loop-pair.pair-index c.pair-item.result c.loop-pair-test.true c.pair-item.is _ _ _ _
    _ _ known.counted known.begun c.in_err-read_short.ensures.tried

pub returns-in_err-read_short-clause-kept : goal.returns-in_err-read_short-clause-kept
returns-in_err-read_short-clause-kept g c =
    let p = err_from_is_err_and c.from_residual.result c.from_residual.ensures.1 in
    rw (p.1, p.2) c.in_err-read_short.ensures.kept

pub returns-in_err-read_short-clause-cause : goal.returns-in_err-read_short-clause-cause
returns-in_err-read_short-clause-cause g c = λ failed.
    let known = c.loop-pair.invariant in
    let p = err_from_is_err_and c.from_residual.result c.from_residual.ensures.1 in
    fails-here c.args.pairs.now c.loop-pair.pair-index c.pair-item.result c.loop-pair-test.true c.pair-item.is _ _ _ _ _
    _ known.counted known.told
    (c.in_err-read_short.ensures.cause (ap Err (ap stop_of (rw (p.1, p.2) at failed))))

pub returns-in_err-push-clause-begun : goal.returns-in_err-push-clause-begun
returns-in_err-push-clause-begun g c =
    let known = c.loop-pair.invariant in
    begins-more c.args.pairs.now c.loop-pair.pair-index c.pair-item.result c.loop-pair-test.true c.pair-item.is _ _ _ _
    _ _ known.counted known.begun (inr c.in_ok-read_short.ensures.begun)

pub returns-clause-told : goal.returns-clause-told
returns-clause-told g c =
    whole-all c.args.pairs.now c.loop-pair.pair-index _ _ c.loop-pair-test.false c.loop-pair.invariant.told

pub returns-clause-begun : goal.returns-clause-begun
returns-clause-begun g c = c.loop-pair.invariant.begun

pub returns-clause-count : goal.returns-clause-count
returns-clause-count g c = let many = c.loop-pair.invariant.many in omega (arith, many)
