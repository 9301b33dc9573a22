use Rattle.std.proofs.Common.{Some, ◌∙◌, ap, sym, subst}
use Rattle.rp_store.specs.declared.object.Object.{Object}
use Rattle.rp_store.specs.Object.{content_of}
use Rattle.rp_ops.specs.Outcome.{Meets, Outcome, state_of}
use Rattle.rp_items.proofs.Found.{entries-deleted}
use Rattle.rp_items.proofs.item_writers.del_in_object.Goals as goal

pub returns-in-Dict-clause-plain : goal.returns-in-Dict-clause-plain
returns-in-Dict-clause-plain c =
    let old = c.args.store.now in
    (λ steps. subst (λ (o : Outcome (Unit {0})). Meets c.del_entry.result (state_of c.del_entry.new.store steps) o)
    (sym (entries-deleted old.heap c.args.at c.in-Dict.field-0 c.args.i.now (state_of old steps) (c.object.ensures.content ∙ ap (λ (o : Object). Some (content_of o)) c.in-Dict.is)))
    (c.del_entry.ensures.plain steps))
