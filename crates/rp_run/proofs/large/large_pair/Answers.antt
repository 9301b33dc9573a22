use Rattle.std.proofs.Common.{◌∙◌, ◌∷◌, ◌++◌, []}
use Rattle.rp_run.proofs.LargeSteps.{pair-is}
use Rattle.rp_run.proofs.large.large_pair.Goals as goal

pub returns : goal.returns
returns c =
    pair-is c.in_ok-who.who c.push.new.self.items c.in_ok-path.path c.in_ok-who.ensures
    (c.in_ok-push.ensures.items ∙ (λ i. c.new-ids.ensures.items i ++ c.in_ok-id.ensures i ∷ [])) c.in_ok-path.ensures
