use Rattle.std.proofs.Common.{◌≡◌, ◌∷◌, ◌∙◌, ap, arith, length, sym, subst}
use Rattle.std.specs.Prelude.{ℕ, List, All}
use Rattle.std.specs.Vec.Iter.{into_iter_items}
use Rattle.std.proofs.lemmas.List.{nil_from_length}
use Rattle.rp_base.specs.declared.value.Value.{Value}
use Rattle.rp_store.specs.Kept.{IsFit}
use Rattle.rp_expressions.proofs.Spreads.{all_kept, kept_more, pair_more, pair_ready}
use Rattle.rp_expressions.proofs.named_arguments.hold_named.Goals as goal

pub loop-word-preserved : goal.loop-word-preserved
loop-word-preserved c =
    let l = c.loop-word in
    let rest = into_iter_items c.next.new.self in
    let steps : into_iter_items l.word-iterator ≡ (c.in-Some.word, c.in-Some.value) ∷ rest = c.in-Some.ensures.steps.0 in
    let m = c.args.machine.now in
    let q = c.hold_pair.new.machine in (
      (let was = l.invariant.0 in
          let gone = c.in-Some.ensures.steps.1 in
          let short = ap length steps in
          omega arith),
      kept_more m l.machine q _ l.invariant.1 c.in_ok-hold_pair.ensures.held,
      pair_more l.machine q (into_iter_items l.word-iterator) rest c.in-Some.word c.in-Some.value steps c.in_ok-hold_pair.ensures.held ∙ l.invariant.2,
      (λ w r f. pair_ready m l.machine q w (into_iter_items l.word-iterator) rest c.in-Some.word c.in-Some.value steps l.invariant.1 (c.hold_pair.ensures.ready w) (l.invariant.3 w r f)),
    )

pub returns-clause-held : goal.returns-clause-held
returns-clause-held c =
    let l = c.loop-word in
    let rest = into_iter_items l.word-iterator in
    let none = nil_from_length rest (omega (arith, l.invariant.0, c.in-None.ensures.steps.0)) in
    all_kept c.args.machine.now l.machine rest (into_iter_items c.into_iter-word-iterator.result) c.args.named.items none c.into_iter-word-iterator.ensures.into_iter_gives.0 l.invariant.1 l.invariant.2

pub returns-clause-ready : goal.returns-clause-ready
returns-clause-ready c = λ w r f.
    (c.loop-word.invariant.3 w r (subst (All (λ (n : List ℕ × Value). IsFit w.store.heap c.args.machine.now.frame.side n.1)) (sym c.into_iter-word-iterator.ensures.into_iter_gives.0) f)).0

pub returns-in_err-hold_pair-clause-ready : goal.returns-in_err-hold_pair-clause-ready
returns-in_err-hold_pair-clause-ready c = λ w r f.
    let l = c.loop-word in
    let rest = into_iter_items c.next.new.self in
    let steps : into_iter_items l.word-iterator ≡ (c.in-Some.word, c.in-Some.value) ∷ rest = c.in-Some.ensures.steps.0 in
    (pair_ready c.args.machine.now l.machine c.hold_pair.new.machine w (into_iter_items l.word-iterator) rest c.in-Some.word c.in-Some.value steps l.invariant.1 (c.hold_pair.ensures.ready w)
    (l.invariant.3 w r (subst (All (λ (n : List ℕ × Value). IsFit w.store.heap c.args.machine.now.frame.side n.1)) (sym c.into_iter-word-iterator.ensures.into_iter_gives.0) f))).0
