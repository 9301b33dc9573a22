use Rattle.std.proofs.Common.{Option, Some, ◌∙◌, ap, sym, subst}
use Rattle.std.specs.Option.{option_map_or}
use Rattle.rp_store.specs.declared.object.Object.{Object}
use Rattle.rp_store.specs.Object.{Content, content_of}
use Rattle.rp_ops.specs.Outcome.{Meets, state_of}
use Rattle.rp_items.specs.Items.{content_set, no_items}
use Rattle.rp_items.proofs.item_writers.set_in_object.Goals as goal

pub returns-in-Dict-clause-plain : goal.returns-in-Dict-clause-plain
returns-in-Dict-clause-plain c =
    (λ steps. let s = state_of c.args.store.now steps in
    subst (λ (x : Option Content). Meets c.set_entry.result (state_of c.set_entry.new.store steps) (option_map_or (λ d. content_set c.args.at d c.args.i.now c.args.v s) x (no_items s)))
    (sym (c.object.ensures.content ∙ ap (λ (o : Object). Some (content_of o)) c.in-Dict.is)) (c.set_entry.ensures.plain steps))
