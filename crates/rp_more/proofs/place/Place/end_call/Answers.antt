use Rattle.rp_more.proofs.Fronts.{pushed-two}
use Rattle.rp_more.proofs.place.Place.end_call.Goals as goal

pub returns : goal.returns
returns c = λ names. pushed-two _ _ _ _ _ (c.in_ok-push.ensures.items names) (c.in_ok-push-2.ensures.items names)
