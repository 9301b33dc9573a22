use Rattle.std.proofs.Common.{◌≡◌, ◌*◌, ◌∙◌, ap, arith, reverse, take}
use Rattle.rp_engine.specs.HandSteps.{size_of}
use Rattle.rp_step.proofs.Hands.{plain_is}
use Rattle.rp_step.proofs.runner.Runner.plain_args.Goals as goal

pub returns : goal.returns
returns c =
    let vs = c.args.self.now.machine.values in
    let h = c.args.hand in
    let last : c.last-values.result.now ≡ reverse (take (size_of h) vs) = c.last-values.ensures ∙ ap (λ n. reverse (take n vs)) c.size.ensures in
    plain_is h vs c.last-values.result.now c.apart.result.0.now (2 * h.named) last (omega arith) c.apart.ensures.plain
