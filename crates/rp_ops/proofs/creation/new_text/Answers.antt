use Rattle.std.proofs.Common.{ap, chars, length, sym}
use Rattle.std.proofs.lemmas.Str.{encodes-chars}
use Rattle.rp_ops.proofs.CallerLemmas.{text-stopped, text-within}
use Rattle.rp_ops.proofs.creation.new_text.Goals as goal

pub returns-in_err-charge-clause-plain : goal.returns-in_err-charge-clause-plain
returns-in_err-charge-clause-plain c =
    let t = c.args.text.now in
    (λ steps. text-stopped (chars t) c.args.store.now c.charge.new.store c.from_residual.result c.in_err-charge.field-0.0 _ steps (ap length (sym (encodes-chars t c.utf8.text)))
    c.from_residual.ensures.1 c.in_err-charge.ensures.stopped c.in_err-charge.ensures.over c.in_err-charge.ensures.same)

pub returns-clause-plain : goal.returns-clause-plain
returns-clause-plain c =
    let t = c.args.text.now in
    (λ steps. text-within (chars t) c.in_ok-text.text c.args.store.now c.charge.new.store _ steps c.in_ok-text.ensures (ap length (sym (encodes-chars t c.utf8.text)))
    c.in_ok-charge.ensures.within c.in_ok-charge.ensures.charged)
