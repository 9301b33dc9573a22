use Rattle.std.proofs.Common.{List, arith, reverse, ap, sym, ◌∙◌}
use Rattle.rp_base.specs.declared.value.Value.{Value}
use Rattle.rp_store.specs.Store.{Cells, written}
use Rattle.rp_store.specs.Writers.{with_elements}
use Rattle.rp_ops.specs.Outcome.{gives, state_of}
use Rattle.rp_methods.specs.Lists.{none, reversed}
use Rattle.rp_methods.proofs.Sound.{none-of}
use Rattle.rp_methods.proofs.NoClasses.{no_class-set}
use Rattle.rp_methods.proofs.list_changes.reverse.Goals as goal

pub returns-clause-plain : goal.returns-clause-plain
returns-clause-plain c =
    let old = c.args.store.now in
    let items = c.in_ok-values.ensures ∙ ap (λ (xs : List Value). reverse xs) c.list_at.ensures.value in
    (λ steps. ap (λ (xs : List Value). reversed c.args.at xs (state_of old steps)) (none-of c.args.args.now (omega (c.in-empty.len_below, arith)))
    ∙ ap (λ (xs : List Value). gives none (state_of (written old c.args.at (with_elements xs)) steps)) (sym items)
    ∙ ap (λ (s : Cells). gives none (state_of s steps)) (sym c.set_elements.ensures.done))

pub returns-clause-classes : goal.returns-clause-classes
returns-clause-classes c = no_class-set c.args.store.now c.set_elements.new.self c.args.at c.in_ok-values.values.items c.set_elements.ensures.done
