use Rattle.std.proofs.Common.{◌≡◌, ◌-◌, ◌∙◌, ap, drop, get_or, length, arith, rules}
use Rattle.rp_frame.specs.Top.{top}
use Rattle.rp_frame.proofs.Lasts.{one_under}
use Rattle.rp_frame.proofs.values.Values.under.Goals as goal

pub returns-then-n-count : goal.returns-then-n-count
returns-then-n-count c =
    let items = c.self.inside.values.items in
    let at = c.len-count.result - c.args.n - 1 in
    let is : c.index.result.now ≡ get_or items at c.index.result.now = search rules in
    one_under c.args.n at items c.index.result.now (omega (arith, c.self.inside.values.ok.0)) is ∙ ap (λ vs. top (drop c.args.n vs)) c.self.view_is
