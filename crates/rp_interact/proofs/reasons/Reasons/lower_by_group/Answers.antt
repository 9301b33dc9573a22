use Rattle.std.proofs.Common.{◌≡◌, ◌∙◌, ap, sym, true, false, rules}
use Rattle.rp_interact.specs.ReasonsSteps.{granting, lowered}
use Rattle.rp_interact.specs.declared.reason.Reason.TheVariants.{Group}
use Rattle.rp_interact.proofs.Mentions.{lowered-append}
use Rattle.rp_interact.proofs.reasons.Reasons.lower_by_group.Goals as goal

pub returns : goal.returns
returns c =
    let denied = granting (Group c.args.place false) c.args.group.now.deny.items in
    let allowed = granting (Group c.args.place true) c.args.group.now.allow.items in
    let mark : c.args.is_marked ≡ true = search rules in
    let first : c.lower_all.new.self ≡ lowered denied c.args.self.now = c.lower_all.ensures ∙ ap (λ ps. lowered (granting (Group c.args.place false) ps) c.args.self.now) c.deref.ensures.value in
    let second : c.lower_all-2.new.self ≡ lowered allowed c.lower_all.new.self = c.lower_all-2.ensures ∙ ap (λ ps. lowered (granting (Group c.args.place true) ps) c.lower_all.new.self) c.deref-2.ensures.value in
    rw mark (second ∙ ap (lowered allowed) first ∙ sym (lowered-append denied allowed c.args.self.now))
