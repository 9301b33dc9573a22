use Rattle.std.proofs.lemmas.Result.{err_from_is_err_and}
use Rattle.std.proofs.Common.{◌≡◌, ◌∙◌, refl, map, take, subst, sym, List, take_all}
use Rattle.std.proofs.lemmas.List.Elements.{All-nil, All-push}
use Rattle.rp_run.proofs.Whos.{ids-more, known-all, known-more, unknown-there}
use Rattle.rp_run.specs.View.{AnswersInAll}
use Rattle.rp_run.proofs.admitting.find_all_principals.Goals as goal

pub loop-pair-init : goal.loop-pair-init
loop-pair-init c = record {
  known = λ names. refl;
  ids = rw c.new-all.ensures.items refl;
  answers = rw c.new-all.ensures.items (All-nil (AnswersInAll c.args.decl.now));
}

pub loop-pair-preserved : goal.loop-pair-preserved
loop-pair-preserved c =
    let known = c.loop-pair.invariant in
    let found = c.in_ok-find_principals.ensures in
    let pushed = c.in_ok-push.ensures.items in
    record {
      known = known-more c.args.pairs.now c.loop-pair.pair-index c.pair-item.result c.loop-pair-test.true c.pair-item.is
          c.args.decl.now known.known (rw c.as_slice.ensures.value at found.known);
      ids = rw pushed
          (ids-more c.args.pairs.now c.loop-pair.pair-index c.pair-item.result c.loop-pair-test.true c.pair-item.is
          c.loop-pair.all.items _ known.ids (found.ids ∙ c.as_slice.ensures.value));
      answers = rw pushed (All-push (AnswersInAll c.args.decl.now) c.loop-pair.all.items _ known.answers found.answers);
    }

pub returns-in_err-find_principals-clause-refused : goal.returns-in_err-find_principals-clause-refused
returns-in_err-find_principals-clause-refused c =
    let known = c.loop-pair.invariant in
    let p = err_from_is_err_and c.from_residual.result
    c.from_residual.ensures.1 in
    rw (p.1, p.2)
    (unknown-there c.args.pairs.now c.loop-pair.pair-index c.pair-item.result c.loop-pair-test.true c.pair-item.is
    c.args.decl.now _ known.known
    (rw c.as_slice.ensures.value at c.in_err-find_principals.ensures.refused))

pub returns-in_err-find_principals-clause-status : goal.returns-in_err-find_principals-clause-status
returns-in_err-find_principals-clause-status c =
    let p = err_from_is_err_and c.from_residual.result
    c.from_residual.ensures.1 in
    rw (p.1, p.2) c.in_err-find_principals.ensures.status

pub returns-in_err-find_principals-clause-unfailed : goal.returns-in_err-find_principals-clause-unfailed
returns-in_err-find_principals-clause-unfailed c =
    let p = err_from_is_err_and c.from_residual.result
    c.from_residual.ensures.1 in
    rw (p.1, p.2) c.in_err-find_principals.ensures.unfailed

pub returns-clause-known : goal.returns-clause-known
returns-clause-known c =
    known-all c.args.pairs.now c.loop-pair.pair-index c.loop-pair-test.false c.args.decl.now c.loop-pair.invariant.known

pub returns-clause-ids : goal.returns-clause-ids
returns-clause-ids c =
    rw (← take_all c.loop-pair.pair-index c.args.pairs.now c.loop-pair-test.false) c.loop-pair.invariant.ids
