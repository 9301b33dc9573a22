use Rattle.std.proofs.Common.{◌∙◌, ap, nat_eq, ℕ, List}
use Rattle.std.specs.Cmp.Lexicographic.{pointwise}
use Rattle.rp_access.proofs.KindNames.{same_text-kind}
use Rattle.rp_access.proofs.global_names.is_kind_named.Goals as goal

pub returns : goal.returns
returns c =
    c.eq.ensures ∙ ap (λ (name : List ℕ). pointwise nat_eq name c.args.word.now) c.as_str.ensures ∙ same_text-kind c.args.kind c.args.word.now c.utf8.word
