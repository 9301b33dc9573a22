use Rattle.std.proofs.Common.{sym, subst}
use Rattle.std.specs.Option.{option_map_or}
use Rattle.rp_base.specs.declared.value.Value.{Value}
use Rattle.rp_store.specs.Heap.{entry_of}
use Rattle.rp_ops.specs.Keys.{key_named}
use Rattle.rp_ops.specs.Outcome.{Meets, gives, on_found, state_of}
use Rattle.rp_items.specs.Items.{missing_key}
use Rattle.rp_items.proofs.items.dict_item.Goals as goal

pub returns-in-Rock-clause-plain : goal.returns-in-Rock-clause-plain
returns-in-Rock-clause-plain c =
    let old = c.args.store.now in
    (λ steps. subst (λ (i : Value). Meets c.entry_item.result (state_of c.entry_item.new.store steps) (on_found (key_named i) (state_of old steps)
    (λ r s. option_map_or (λ e. gives e.1 s) (entry_of old.heap c.args.at r) (missing_key r s)))) (sym c.in-Rock.is) (c.entry_item.ensures.plain steps))
