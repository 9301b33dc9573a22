use Rattle.std.proofs.Common.{true, false, length, Option, Err, Bool, sym, ap, ◌∙◌, subst, arith}
use Rattle.std.proofs.lemmas.Slice.Zip.{either_empty_from_Zip}
use Rattle.std.specs.Iterator.Adapters.{zip_first, zip_second}
use Rattle.std.specs.List.{zip}
use Rattle.std.specs.Slice.Iter.{iter_rest}
use Rattle.rp_base.specs.declared.value.Rock.{Rock}
use Rattle.rp_base.specs.declared.value.Value.{Value}
use Rattle.rp_store.specs.declared.key.Key.{Key}
use Rattle.rp_ops.specs.Outcome.{Meets, state_of}
use Rattle.rp_compare.specs.Equality.{all_equal, entry_equal, equal, found_equal, pair_equal}
use Rattle.rp_compare.proofs.Rounds.{all-end, all-next, all-stops, looked-up, of_length-same, zip-end}
use Rattle.rp_compare.proofs.equality.+equality.Goals as goal

pub equal_elements-returns-clause-plain : goal.equal_elements-returns-clause-plain
equal_elements-returns-clause-plain t c =
    let one = pair_equal (equal c.args.depth) in
    let s = state_of c.args.store.now c.args.meter.now.left in
    let lefts = iter_rest (zip_first c.loop-x.x-iterator) in
    let rights = iter_rest (zip_second c.loop-x.x-iterator) in
    of_length-same (length c.args.xs.now) (length c.args.ys.now) s (all_equal one (zip c.args.xs.now c.args.ys.now) s) c.if-xs-ys.false
    ∙ c.loop-x.invariant.same
    ∙ all-end one (zip lefts rights) (state_of c.args.store.now c.loop-x.meter.left)
    (zip-end lefts rights (either_empty_from_Zip c.loop-x.x-iterator c.next.new.self c.next.result c.in-None.is c.next.ensures.steps))

pub equal_entries-returns-in_err-equal_found-clause-plain : goal.equal_entries-returns-in_err-equal_found-clause-plain
equal_entries-returns-in_err-equal_found-clause-plain t c =
    let same = equal c.args.depth in
    let fs = c.args.fs.now in
    let one = entry_equal same fs in
    let s = state_of c.args.store.now c.args.meter.now.left in
    let now = state_of c.args.store.now c.loop-key.meter.left in
    let end = state_of c.args.store.now c.equal_found.new.meter.left in
    let f = c.in_err-equal_found.field-0.0 in
    let e : Key × (Rock × Value) = (c.in-Some.key.now, c.in-Some.field-0-1.now) in
    let walked = of_length-same (length c.args.es.now) (length fs) s (all_equal one c.args.es.now s) (sym c.len.ensures.value ∙ c.if-len.false ∙ c.len-2.ensures.value) ∙ c.loop-key.invariant.same in
    let found = looked-up fs c.in-Some.key.now c.get.result c.get.ensures.value in
    subst (Meets c.from_residual.result end) (sym walked)
    (all-stops one c.from_residual.result f c.loop-key.walk c.next.new.self e now end c.in-Some.ensures c.from_residual.ensures.1
    (subst (λ (o : Option (Rock × Value)). Meets {A = Bool} (Err f) end (found_equal same e.1.1 o now)) (sym found) c.in_err-equal_found.ensures.plain))

pub equal_entries-returns-then-not-branch-clause-plain : goal.equal_entries-returns-then-not-branch-clause-plain
equal_entries-returns-then-not-branch-clause-plain t c =
    let same = equal c.args.depth in
    let fs = c.args.fs.now in
    let one = entry_equal same fs in
    let s = state_of c.args.store.now c.args.meter.now.left in
    let now = state_of c.args.store.now c.loop-key.meter.left in
    let end = state_of c.args.store.now c.equal_found.new.meter.left in
    let e : Key × (Rock × Value) = (c.in-Some.key.now, c.in-Some.field-0-1.now) in
    let found = looked-up fs c.in-Some.key.now c.get.result c.get.ensures.value in
    of_length-same (length c.args.es.now) (length fs) s (all_equal one c.args.es.now s) (sym c.len.ensures.value ∙ c.if-len.false ∙ c.len-2.ensures.value)
    ∙ c.loop-key.invariant.same
    ∙ all-next one c.loop-key.walk c.next.new.self e c.in_ok-equal_found.field-0 false now end c.in-Some.ensures
    (ap (λ (o : Option (Rock × Value)). found_equal same e.1.1 o now) found ∙ c.in_ok-equal_found.ensures.plain) c.if-not-branch.true

pub equal_entries-loop-key-preserved : goal.equal_entries-loop-key-preserved
equal_entries-loop-key-preserved t c =
    let same = equal c.args.depth in
    let fs = c.args.fs.now in
    let now = state_of c.args.store.now c.loop-key.meter.left in
    let end = state_of c.args.store.now c.equal_found.new.meter.left in
    let e : Key × (Rock × Value) = (c.in-Some.key.now, c.in-Some.field-0-1.now) in
    let found = looked-up fs c.in-Some.key.now c.get.result c.get.ensures.value in
    record {
      same =
          c.loop-key.invariant.same
          ∙ all-next (entry_equal same fs) c.loop-key.walk c.next.new.self e c.in_ok-equal_found.field-0 true now end c.in-Some.ensures
          (ap (λ (o : Option (Rock × Value)). found_equal same e.1.1 o now) found ∙ c.in_ok-equal_found.ensures.plain) c.if-not-branch.false;
      fewer = omega (arith, c.loop-key.invariant.fewer, c.equal_found.ensures.fewer);
    }
