use Rattle.std.proofs.Common.{List, Some, ◌∙◌, ap, sym, subst}
use Rattle.rp_base.specs.declared.value.Value.{Value}
use Rattle.rp_store.specs.declared.object.Object.{Object}
use Rattle.rp_store.specs.Kept.{AreSound, IsHeldBySome}
use Rattle.rp_store.specs.Object.{content_of}
use Rattle.rp_ops.specs.Outcome.{Meets, Outcome, state_of}
use Rattle.rp_items.proofs.Found.{entries-found}
use Rattle.rp_items.proofs.items.object_item.Goals as goal

pub returns-in-List-clause-sound : goal.returns-in-List-clause-sound
returns-in-List-clause-sound c =
    let heap = c.args.store.now.heap in
    c.elements_item.ensures.sound heap (subst (λ (xs : List Value). AreSound heap xs) (sym c.as_slice.ensures.value)
    (subst (λ (o : Object). IsHeldBySome heap (content_of o)) c.in-List.is c.object.ensures.holds).holds)

pub returns-in-Tuple-clause-sound : goal.returns-in-Tuple-clause-sound
returns-in-Tuple-clause-sound c =
    let heap = c.args.store.now.heap in
    c.elements_item-in-Tuple.ensures.sound heap (subst (λ (xs : List Value). AreSound heap xs) (sym c.as_slice-in-Tuple.ensures.value)
    (subst (λ (o : Object). IsHeldBySome heap (content_of o)) c.in-Tuple.is c.object.ensures.holds).holds)

pub returns-in-Dict-clause-plain : goal.returns-in-Dict-clause-plain
returns-in-Dict-clause-plain c =
    let old = c.args.store.now in
    (λ steps. subst (λ (o : Outcome Value). Meets c.dict_item.result (state_of c.dict_item.new.store steps) o)
    (sym (entries-found old.heap c.args.at c.in-Dict.field-0 c.args.i.now (state_of old steps) (c.object.ensures.content ∙ ap (λ (o : Object). Some (content_of o)) c.in-Dict.is)))
    (c.dict_item.ensures.plain steps))
