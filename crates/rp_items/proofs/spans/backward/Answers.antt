use Rattle.std.proofs.Common.{rules, ◌≡◌, unsigned_abs, arith, ℕ, ◌-◌, true, ◌∙◌, ap, subst, sym}
use Rattle.std.specs.Int.{div_ceil}
use Rattle.std.proofs.lemmas.Grind.{common_steps}
use Rattle.rp_items.specs.SliceView.{AreOf, AreWithin, span_seen}
use Rattle.rp_items.proofs.SlicePlaces.{backward_places, backward_within}
use Rattle.rp_items.proofs.spans.backward.Goals as goal

pub returns-clause-places : goal.returns-clause-places
returns-clause-places c =
    let s = c.unsigned_abs-step.result in
    let step : s ≡ unsigned_abs c.args.span.step = first_of (search rules, grind (arith, common_steps)) in
    let b = c.backward_bound-behind_first.result in
    let l = c.backward_bound-behind_last.result in
    subst (λ (f : ℕ). AreOf c.args.len (span_seen c.args.span) (record { first = f; step = s; backward = true; count = c.div_ceil.result })) (sym c.saturating_sub.ensures)
    (subst (λ (k : ℕ). AreOf c.args.len (span_seen c.args.span) (record { first = b - 1; step = s; backward = true; count = k }))
    (sym (c.div_ceil.ensures ∙ ap (λ (d : ℕ). div_ceil d s) c.saturating_sub-2.ensures))
    (backward_places c.args.len c.args.span.from c.args.span.to c.args.span.step b l s c.requires step
    c.backward_bound-behind_first.ensures.value c.backward_bound-behind_last.ensures.value))

pub returns-clause-within : goal.returns-clause-within
returns-clause-within c =
    let s = c.unsigned_abs-step.result in
    let step : s ≡ unsigned_abs c.args.span.step = first_of (search rules, grind (arith, common_steps)) in
    let b = c.backward_bound-behind_first.result in
    let l = c.backward_bound-behind_last.result in
    subst (λ (f : ℕ). AreWithin c.args.len (record { first = f; step = s; backward = true; count = c.div_ceil.result })) (sym c.saturating_sub.ensures)
    (subst (λ (k : ℕ). AreWithin c.args.len (record { first = b - 1; step = s; backward = true; count = k }))
    (sym (c.div_ceil.ensures ∙ ap (λ (d : ℕ). div_ceil d s) c.saturating_sub-2.ensures))
    (backward_within c.args.len c.args.span.step b l s c.requires step c.backward_bound-behind_first.ensures.within))
