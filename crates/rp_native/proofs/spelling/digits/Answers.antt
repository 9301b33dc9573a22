use Rattle.std.proofs.Common.{◌+◌, ◌-◌, ◌^◌, ◌∙◌, ap, drop, get_or, min, arith, rules}
use Rattle.std.proofs.lemmas.List.{drop_all, drop_more}
use Rattle.rp_native.proofs.Digits.{digits-end, digits-next, within}
use Rattle.rp_native.proofs.spelling.digits.Goals as goal

pub loop-byte-preserved : goal.loop-byte-preserved
loop-byte-preserved c =
    let bytes = c.args.bytes.now in
    let i = c.loop-byte.byte-index in
    let d = c.in_ok-digit.digit in
    let sum = c.saturating_add-number.ensures ∙ ap (λ k. min (k + d) (2 ^ 64 - 1)) c.saturating_mul.ensures in (
      c.loop-byte.invariant.0
          ∙ digits-next (drop i bytes) (drop (i + 1) bytes) (get_or bytes i 0) d c.loop-byte.number c.saturating_add-number.result (drop_more bytes i 0 c.loop-byte-test.true)
          c.in_ok-digit.ensures sum,
      within c.saturating_add-number.result _ c.saturating_add-number.ensures,
    )

pub returns : goal.returns
returns c =
    let bytes = c.args.bytes.now in
    let i = c.loop-byte.byte-index in
    digits-end bytes (drop i bytes) c.loop-byte.number (search rules) (drop_all i bytes (omega (arith, c.loop-byte-test.false))) c.loop-byte.invariant.1 c.loop-byte.invariant.0
