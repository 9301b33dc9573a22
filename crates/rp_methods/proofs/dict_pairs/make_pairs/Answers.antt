use Rattle.std.proofs.Common.{ℕ, ap, sym, ◌∙◌}
use Rattle.rp_base.specs.declared.value.Value.TheVariants as value
use Rattle.rp_store.specs.Object as object
use Rattle.rp_store.specs.Store.{Cells, added}
use Rattle.rp_ops.specs.Outcome.{gives, state_of}
use Rattle.rp_methods.proofs.NoClasses.{AddsNoClass-trans, no_class-added}
use Rattle.rp_methods.proofs.dict_pairs.make_pairs.Goals as goal

pub returns-clause-plain : goal.returns-clause-plain
returns-clause-plain c =
    let between = added c.make_tuples.new.store c.args.side (object.list c.in_ok-made.made.items) in
    (λ steps. c.in_ok-made.ensures.made steps ∙ ap (λ (n : ℕ). gives (value.Ref (record { 0 = n })) (state_of between steps)) (sym c.in_ok-at.ensures.place)
    ∙ ap (λ (s : Cells). gives (value.Ref c.in_ok-at.at) (state_of s steps)) (sym c.in_ok-at.ensures.added))

pub returns-clause-classes : goal.returns-clause-classes
returns-clause-classes c =
    AddsNoClass-trans c.args.store.now.heap c.make_tuples.new.store.heap c.add.new.self.heap c.make_tuples.ensures.classes
    (no_class-added c.make_tuples.new.store c.add.new.self c.args.side _ (λ h. h) c.in_ok-at.ensures.added)
