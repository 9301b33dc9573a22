use Rattle.std.proofs.Common.{◌≡◌, ◌∙◌, ap, sym, true, false}
use Rattle.rp_interact.specs.ReasonsSteps.{granting, lowered}
use Rattle.rp_interact.specs.declared.reason.Reason.TheVariants.{Own}
use Rattle.rp_interact.proofs.Mentions.{lowered-append}
use Rattle.rp_interact.proofs.reasons.Reasons.lower_own.Goals as goal

pub returns : goal.returns
returns c =
    let denied = granting (Own false) c.args.principal.now.deny.items in
    let allowed = granting (Own true) c.args.principal.now.allow.items in
    let first : c.lower_all.new.self ≡ lowered denied c.args.self.now = c.lower_all.ensures ∙ ap (λ ps. lowered (granting (Own false) ps) c.args.self.now) c.deref.ensures.value in
    let second : c.lower_all-2.new.self ≡ lowered allowed c.lower_all.new.self = c.lower_all-2.ensures ∙ ap (λ ps. lowered (granting (Own true) ps) c.lower_all.new.self) c.deref-2.ensures.value in
    second ∙ ap (lowered allowed) first ∙ sym (lowered-append denied allowed c.args.self.now)
