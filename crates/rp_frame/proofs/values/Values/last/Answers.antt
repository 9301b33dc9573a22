use Rattle.std.proofs.Common.{◌≡◌, ◌-◌, ◌∙◌, ap, length, drop, refl, reverse, take, arith}
use Rattle.rp_frame.proofs.Lasts.{last_taken}
use Rattle.rp_frame.proofs.values.Values.last.Goals as goal

pub returns : goal.returns
returns c =
    let items = c.self.inside.values.items in
    let at = c.saturating_sub-at.result in
    let e : at ≡ length items - c.args.n = omega (arith, c.self.inside.values.ok.0) in
    ap (λ vs. take (length vs - at) (drop at vs)) c.deref.ensures.value ∙ last_taken c.args.n at items (take (length items - at) (drop at items)) e refl
    ∙ ap (λ vs. reverse (take c.args.n vs)) c.self.view_is
