use Rattle.std.proofs.Common.{List, ℕ, encode_utf8_all, ◌∙◌, ap, sym, subst}
use Rattle.std.proofs.lemmas.Str.{encodes-chars}
use Rattle.rp_ops.specs.Outcome.{Meets}
use Rattle.rp_native.specs.Numbers.{number_found, spelled}
use Rattle.rp_native.specs.declared.fault.Fault.TheVariants as fault
use Rattle.rp_native.proofs.spelling.text_number.Goals as goal

pub returns-clause-plain : goal.returns-clause-plain
returns-clause-plain c = λ s.
    subst (λ (bytes : List ℕ). Meets c.number_spelled.result s (number_found fault.Digits (spelled bytes) s))
    (c.as_bytes.ensures.value ∙ sym (encodes-chars c.as_str.result.now c.as_str.utf8) ∙ ap encode_utf8_all c.as_str.ensures) (c.number_spelled.ensures.plain s)
