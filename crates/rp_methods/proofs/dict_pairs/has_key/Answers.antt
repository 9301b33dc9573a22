use Rattle.std.proofs.Common.{Option, ap, is_some, sym, ◌∙◌}
use Rattle.std.specs.Option.{option_and_then}
use Rattle.rp_store.specs.Heap.{entry_at}
use Rattle.rp_store.specs.declared.key.Key.{Key}
use Rattle.rp_base.proofs.CallerLemmas.{is_some-copied}
use Rattle.rp_methods.proofs.dict_pairs.has_key.Goals as goal

pub returns-in-Some : goal.returns-in-Some
returns-in-Some c =
    c.is_some.ensures ∙ sym (is_some-copied c.entry.result) ∙ ap is_some c.entry.ensures.value
    ∙ ap (λ (k : Option Key). is_some (option_and_then (entry_at c.args.store.now.heap c.args.at) k)) (sym c.in-Some.is ∙ c.in_ok-key.ensures)
