use Rattle.std.proofs.Common.{◌∙◌, sym, ap, arith, zero, suc, ◌∷◌, [], chars}
use Rattle.std.specs.Str.{IsAscii}
use Rattle.rp_more.specs.Forms.{same}
use Rattle.rp_token.proofs.Rules.{held_among}
use Rattle.rp_base.proofs.CallerLemmas.{pointwise-chars}
use Rattle.rp_more.proofs.literals.is_f.Goals as goal

ascii-f : IsAscii (102 ∷ [])
ascii-f zero = omega arith
ascii-f (suc i) = omega arith

pub returns : goal.returns
returns c =
    λ more. c.eq.ensures ∙ pointwise-chars (102 ∷ []) c.text.result.now ascii-f c.text.utf8
    ∙ ap (same (102 ∷ [])) (sym (held_among c.args.names.now more c.args.name.0 (chars c.text.result.now) c.text.ensures.word))
