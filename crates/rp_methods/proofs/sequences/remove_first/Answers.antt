use Rattle.std.proofs.Common.{ℕ, List, ap, sym, ◌∙◌}
use Rattle.rp_base.specs.declared.value.Value.{Value}
use Rattle.rp_store.specs.Store.{Cells}
use Rattle.rp_store.specs.Writers.{without_element}
use Rattle.rp_ops.specs.Outcome.{Outcome, State, gives, on_value, state_of, with_change}
use Rattle.rp_methods.specs.Lists.{none, sought}
use Rattle.rp_methods.proofs.sequences.remove_first.Goals as goal

pub returns-clause-plain : goal.returns-clause-plain
returns-clause-plain c =
    let s = state_of c.args.store.now c.args.meter.now.left in
    let go : ℕ → State → Outcome Value = (λ p s. gives none (with_change s c.args.at (without_element p))) in
    ap (λ (xs : List Value). on_value (sought 0 c.args.x.now xs s) go) (sym c.list_at.ensures.value)
    ∙ ap (λ (o : Outcome ℕ). on_value o go) c.in_ok-place.ensures.plain
    ∙ ap (λ (t : Cells). gives none (state_of t c.place_of.new.meter.left)) (sym c.drop_at.ensures.dropped)
