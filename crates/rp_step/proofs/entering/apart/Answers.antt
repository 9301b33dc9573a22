use Rattle.std.proofs.Common.{◌≡◌, ◌-◌, ◌∙◌, ap, arith, drop, length, take}
use Rattle.rp_step.proofs.entering.apart.Goals as goal

pub returns-clause-plain : goal.returns-clause-plain
returns-clause-plain c =
    let vs = c.args.values.now in
    let at : c.saturating_sub.result ≡ length vs - c.args.last = omega arith in
    c.split_at.ensures.front ∙ ap (λ n. take n vs) at

pub returns-clause-named : goal.returns-clause-named
returns-clause-named c =
    let vs = c.args.values.now in
    let at : c.saturating_sub.result ≡ length vs - c.args.last = omega arith in
    c.split_at.ensures.back ∙ ap (λ n. drop n vs) at
