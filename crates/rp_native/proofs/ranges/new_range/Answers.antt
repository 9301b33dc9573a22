use Rattle.std.proofs.Common.{◌≡◌, ◌+◌, ℕ, ap, refl, sym, ◌∙◌, arith}
use Rattle.std.proofs.lemmas.List.FromFn.{length-map-range_with_len}
use Rattle.rp_store.specs.Cost.{cost}
use Rattle.rp_store.specs.Object.{list}
use Rattle.rp_ops.proofs.CallerLemmas.{stopped-meets}
use Rattle.rp_native.specs.Ranges.{count, member, numbers}
use Rattle.rp_native.proofs.ranges.new_range.Goals as goal

pub returns-in_err-check_room-clause-plain : goal.returns-in_err-check_room-clause-plain
returns-in_err-check_room-clause-plain c = λ steps.
    let bounds = c.args.bounds in
    let size : 1 + c.count.result ≡ cost (list (numbers bounds)) =
    ap (λ (n : ℕ). 1 + n) (c.count.ensures ∙ sym (length-map-range_with_len (member bounds) 0 (count bounds))) in
    stopped-meets c.args.side (list (numbers bounds)) c.args.store.now c.args.store.now c.from_residual.result c.in_err-check_room.field-0.0
    (1 + c.count.result) steps size c.from_residual.ensures.1 c.in_err-check_room.ensures.stopped
    (omega (arith, c.saturating_add.ensures, c.in_err-check_room.ensures.over)) refl
