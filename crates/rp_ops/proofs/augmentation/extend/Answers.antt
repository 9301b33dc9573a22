use Rattle.std.proofs.Common.{◌≡◌, List, ◌∙◌, ap, subst, sym}
use Rattle.rp_base.specs.declared.value.Value.{Value}
use Rattle.rp_store.specs.Heap.{Names, Owned}
use Rattle.rp_store.specs.Kept.{IsSound}
use Rattle.rp_store.specs.Parts.{IsList}
use Rattle.rp_ops.specs.Inplace.{extends}
use Rattle.rp_ops.specs.Outcome.{Meets, Outcome, on_value, state_of}
use Rattle.rp_ops.specs.View.{grows}
use Rattle.rp_ops.specs.Walk.{elements}
use Rattle.rp_ops.proofs.CallerLemmas.{passes-on}
use Rattle.rp_ops.proofs.augmentation.extend.Goals as goal

pub returns-in_err-values-clause-plain : goal.returns-in_err-values-clause-plain
returns-in_err-values-clause-plain c =
    passes-on c.from_residual-in_err-values.result c.in_err-values.field-0.0 (state_of c.elements.new.store c.elements.new.meter.left)
    (elements c.args.b.now (state_of c.args.store.now c.args.meter.now.left)) (grows c.args.a.now c.args.at)
    c.from_residual-in_err-values.ensures.1 c.in_err-values.ensures.plain

pub put_last-requires-clause-list : goal.put_last-requires-clause-list
put_last-requires-clause-list c = subst (λ (heap : List Owned). Names heap IsList c.args.at) (sym c.in_ok-values.ensures.same) c.requires.list

pub put_last-requires-clause-same : goal.put_last-requires-clause-same
put_last-requires-clause-same c =
    subst (λ (heap : List Owned). IsSound heap c.in_ok-same.same) (sym c.in_ok-values.ensures.same)
    (subst (λ (v : Value). IsSound c.args.store.now.heap v) (sym c.in_ok-same.ensures) c.requires.a)

pub returns-clause-plain : goal.returns-clause-plain
returns-clause-plain c =
    let old = state_of c.args.store.now c.args.meter.now.left in
    let path : extends c.args.a.now c.args.at c.args.b.now old
    ≡ grows c.in_ok-same.same c.args.at c.in_ok-values.values.items (state_of c.elements.new.store c.elements.new.meter.left) =
    ap (λ o. on_value o (grows c.args.a.now c.args.at)) c.in_ok-values.ensures.plain
    ∙ ap (λ (v : Value). grows v c.args.at c.in_ok-values.values.items (state_of c.elements.new.store c.elements.new.meter.left)) (sym c.in_ok-same.ensures) in
    subst (λ (o : Outcome Value). Meets c.put_last.result (state_of c.put_last.new.store c.elements.new.meter.left) o) (sym path)
    (c.put_last.ensures.plain c.elements.new.meter.left)
