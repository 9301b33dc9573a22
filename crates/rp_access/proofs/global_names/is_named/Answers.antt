use Rattle.std.proofs.Common.{◌∙◌, ap, nat_eq, ℕ, List}
use Rattle.std.specs.Cmp.Lexicographic.{pointwise}
use Rattle.rp_attributes.proofs.CallerLemmas.{same_text-native}
use Rattle.rp_access.proofs.global_names.is_named.Goals as goal

pub returns : goal.returns
returns c =
    c.eq.ensures ∙ ap (λ (name : List ℕ). pointwise nat_eq name c.args.word.now) c.as_str.ensures ∙ same_text-native c.args.function c.args.word.now c.utf8.word
