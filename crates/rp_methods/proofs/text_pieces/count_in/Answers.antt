use Rattle.std.proofs.Common.{◌<◌, ◌-◌, List, ℕ, chars, length, ap, subst, sym, ◌∙◌}
use Rattle.rp_methods.specs.Lists.{number}
use Rattle.rp_methods.specs.Texts.{pieces}
use Rattle.rp_methods.proofs.text_pieces.count_in.Goals as goal

pub count_of-requires : goal.count_of-requires
count_of-requires c = subst (λ (l : List ℕ). 0 < length l) (sym c.as_str-2.ensures) c.requires

pub returns : goal.returns
returns c =
    let counted = c.count_of.ensures.count ∙ ap (λ (l : List ℕ). length (pieces l (chars c.as_str.result.now)) - 1) c.as_str-2.ensures
    ∙ ap (λ (l : List ℕ). length (pieces c.args.part.now l) - 1) c.as_str.ensures in
    c.number.ensures ∙ ap number counted
