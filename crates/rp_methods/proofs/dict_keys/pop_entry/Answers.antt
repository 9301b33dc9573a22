use Rattle.std.proofs.Common.{sym, ◌∙◌}
use Rattle.std.specs.Option.{option_copied}
use Rattle.rp_methods.proofs.Taken.{entry-taken, value-held}
use Rattle.rp_methods.proofs.dict_keys.pop_entry.Goals as goal

pub returns-clause-plain : goal.returns-clause-plain
returns-clause-plain c =
    let held = value-held c.entry.result c.in-Some-entry.field-0 _ c.in_ok-value.value c.entry.ensures.value c.in-Some-entry.is c.in_ok-value.ensures in
    (λ steps. entry-taken c.args.store.now c.args.at c.args.rock.now c.in-Some.key (option_copied c.args.default) steps (sym c.in-Some.is ∙ c.in_ok-key.ensures)
    c.drop_key.new.store c.in_ok-value.value held c.drop_key.ensures.dropped)
