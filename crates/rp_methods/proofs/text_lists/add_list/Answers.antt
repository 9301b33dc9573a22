use Rattle.std.proofs.Common.{ℕ, ap, sym, ◌∙◌}
use Rattle.rp_base.specs.declared.value.Value.TheVariants as value
use Rattle.rp_store.specs.Object as object
use Rattle.rp_store.specs.Store.{Cells, added}
use Rattle.rp_ops.specs.Outcome.{gives, state_of}
use Rattle.rp_methods.proofs.NoClasses.{no_class-added}
use Rattle.rp_methods.proofs.text_lists.add_list.Goals as goal

pub returns-clause-plain : goal.returns-clause-plain
returns-clause-plain c =
    let between = added c.args.store.now c.args.side (object.list c.args.values.items) in
    (λ steps. ap (λ (n : ℕ). gives (value.Ref (record { 0 = n })) (state_of between steps)) (sym c.in_ok-at.ensures.place)
    ∙ ap (λ (s : Cells). gives (value.Ref c.in_ok-at.at) (state_of s steps)) (sym c.in_ok-at.ensures.added))

pub returns-clause-classes : goal.returns-clause-classes
returns-clause-classes c = no_class-added c.args.store.now c.add.new.self c.args.side _ (λ h. h) c.in_ok-at.ensures.added
