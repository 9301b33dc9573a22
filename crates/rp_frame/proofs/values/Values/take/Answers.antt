use Rattle.std.proofs.Common.{◌≡◌, ◌-◌, ◌∙◌, ap, length, drop, reverse, take, arith}
use Rattle.rp_frame.proofs.Lasts.{left, taken}
use Rattle.rp_frame.proofs.values.Values.take.Goals as goal

pub returns-clause-taken : goal.returns-clause-taken
returns-clause-taken c =
    let items = c.self.inside.values.items in
    let e : c.saturating_sub-at.result ≡ length c.self.inside.values.items - c.args.n = omega (arith, c.self.inside.values.ok.0) in
    c.in_ok-split_off.ensures.tail ∙ taken c.args.n items c.saturating_sub-at.result e ∙ ap (λ vs. reverse (take c.args.n vs)) c.self.view_is

pub returns-clause-left : goal.returns-clause-left
returns-clause-left c =
    let items = c.self.inside.values.items in
    let e : c.saturating_sub-at.result ≡ length c.self.inside.values.items - c.args.n = omega (arith, c.self.inside.values.ok.0) in
    ap reverse c.in_ok-split_off.ensures.items ∙ left c.args.n items c.saturating_sub-at.result e ∙ ap (drop c.args.n) c.self.view_is
