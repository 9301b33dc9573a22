use Rattle.std.proofs.Common.{rules, ◌≡◌, unsigned_abs, arith, ℕ, false, ◌∙◌, ap, subst, sym}
use Rattle.std.specs.Int.{div_ceil}
use Rattle.std.proofs.lemmas.Grind.{common_steps}
use Rattle.rp_items.specs.SliceView.{AreWithin}
use Rattle.rp_items.proofs.SlicePlaces.{forward_within}
use Rattle.rp_items.proofs.spans.forward.Goals as goal

pub returns-clause-within : goal.returns-clause-within
returns-clause-within c =
    let s = c.unsigned_abs-step.result in
    let step : s ≡ unsigned_abs c.args.span.step = first_of (search rules, grind (arith, common_steps)) in
    let first = c.forward_bound-first.result in
    let last = c.forward_bound-last.result in
    subst (λ (k : ℕ). AreWithin c.args.len (record { first = first; step = s; backward = false; count = k }))
    (sym (c.div_ceil.ensures ∙ ap (λ (d : ℕ). div_ceil d s) c.saturating_sub.ensures))
    (forward_within c.args.len c.args.span.step first last s c.requires step c.forward_bound-last.ensures.within)
