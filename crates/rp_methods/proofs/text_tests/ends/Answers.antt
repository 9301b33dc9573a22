use Rattle.std.proofs.Common.{List, ℕ, chars, ap, ◌∙◌}
use Rattle.rp_methods.specs.Texts.{ends}
use Rattle.rp_methods.proofs.Cuts.{ends-chars}
use Rattle.rp_methods.proofs.text_tests.ends.Goals as goal

pub returns : goal.returns
returns c =
    ends-chars c.ends_with.result c.as_str-2.result.now c.as_str.result.now c.as_str-2.utf8 c.as_str.utf8 c.ends_with.ensures.cases
    ∙ ap (λ (n : List ℕ). ends n (chars c.as_str.result.now)) c.as_str-2.ensures ∙ ap (λ (s : List ℕ). ends c.args.end.now s) c.as_str.ensures
