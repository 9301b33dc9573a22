use Rattle.std.proofs.Common.{◌++◌, ◌∙◌, ◌-◌, ap, arith, length, refl, reverse, take}
use Rattle.std.proofs.lemmas.List.{append-nil, length-take}
use Rattle.rp_expressions.proofs.NamedValues.{last_two, names_all, names_more}
use Rattle.rp_engine.specs.ArgumentSteps.{named_in, word_at}
use Rattle.rp_expressions.proofs.named_values.all_named.Goals as goal

pub pairs-init : goal.pairs-init
pairs-init c =
    record {
      named = ap (λ ns. named_in (reverse c.args.pairs.now) ++ reverse ns) c.in_ok-all.ensures.items ∙ append-nil (named_in (reverse c.args.pairs.now));
      few = c.requires;
    }

pub offset_bounds-left-left : goal.offset_bounds-left-left
offset_bounds-left-left c = omega (arith, c.pairs.invariant.few)

pub offset_bounds-left-left-in-pairs : goal.offset_bounds-left-left-in-pairs
offset_bounds-left-left-in-pairs c = omega (arith, c.pairs.invariant.few)

pub pairs-preserved : goal.pairs-preserved
pairs-preserved c =
    let vs = c.pairs.left.now in
    let word = c.word-item.result in
    let v = c.value-item.result in
    record {
      named = names_more vs (take (length vs - 2) vs) word v (word_at word) c.pairs.all.items c.push_named.new.all.items _
          (last_two vs word v c.in-len2-up.len_at_least c.word-item.is c.value-item.is) refl c.in_ok-push_named.ensures c.pairs.invariant.named;
      few = omega (arith, length-take (length vs - 2) vs, c.pairs.invariant.few);
    }

pub returns : goal.returns
returns c = c.reverse.ensures.items ∙ names_all c.pairs.left.now c.pairs.all.items _ (omega arith) c.pairs.invariant.named
