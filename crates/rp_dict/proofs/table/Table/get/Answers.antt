use Rattle.std.proofs.Common.{refl, sym, ap, ◌∙◌}
use Rattle.rp_dict.specs.declared.slot.Slot.TheVariants.{Live}
use Rattle.rp_dict.specs.Places.{flat}
use Rattle.rp_dict.specs.Slot.{sought}
use Rattle.rp_dict.proofs.Live.{lookup-live}
use Rattle.rp_dict.proofs.table.Table.get.Goals as goal

pub returns-in_err-value : goal.returns-in_err-value
returns-in_err-value g c =
    rw (← c.self.view_is, c.from_residual.ensures)
    (ap flat c.in_err-value.ensures.value ∙ lookup-live g.K.PartialEq.eq c.args.key.now (sought g.K.PartialEq.eq (Live c.args.key)) (λ b. refl) (λ m. refl) _ _ c.self.invariant.kept)

pub returns-in-Some : goal.returns-in-Some
returns-in-Some g c =
    rw (← c.self.view_is)
    (sym c.in-Some.is ∙ ap flat c.in_ok-value.ensures.value ∙ lookup-live g.K.PartialEq.eq c.args.key.now (sought g.K.PartialEq.eq (Live c.args.key)) (λ b. refl) (λ m. refl) _ _ c.self.invariant.kept)

pub returns-in-None : goal.returns-in-None
returns-in-None g c =
    rw (← c.self.view_is)
    (sym c.in-None.is ∙ ap flat c.in_ok-value.ensures.value ∙ lookup-live g.K.PartialEq.eq c.args.key.now (sought g.K.PartialEq.eq (Live c.args.key)) (λ b. refl) (λ m. refl) _ _ c.self.invariant.kept)
