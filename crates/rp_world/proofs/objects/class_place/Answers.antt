use Rattle.std.proofs.Common.{refl, ap, ◌∙◌, unwrap_or}
use Rattle.rp_world.proofs.Spots.{class-behind, class-within}
use Rattle.rp_world.proofs.objects.class_place.Goals as goal

pub returns-then-place-classes : goal.returns-then-place-classes
returns-then-place-classes c declared same tells there =
    class-behind declared c.args.places.now c.args.class tells there c.unwrap_or-place.result _ (c.unwrap_or-place.ensures ∙ ap (λ o. unwrap_or o 0) c.place.ensures) refl

pub returns-else-place-classes : goal.returns-else-place-classes
returns-else-place-classes c declared same tells there =
    absurd (class-within declared c.args.places.now c.args.class tells there c.unwrap_or-place.result (c.unwrap_or-place.ensures ∙ ap (λ o. unwrap_or o 0) c.place.ensures) (rw same c.if-place-classes.false))
