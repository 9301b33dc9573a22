use Rattle.std.proofs.Common.{List, ℕ, chars, ap, ◌∙◌}
use Rattle.rp_compare.specs.Membership.{begins}
use Rattle.rp_methods.proofs.Cuts.{starts-chars}
use Rattle.rp_methods.proofs.text_tests.begins.Goals as goal

pub returns : goal.returns
returns c =
    starts-chars c.starts_with.result c.as_str-2.result.now c.as_str.result.now c.as_str-2.utf8 c.as_str.utf8 c.starts_with.ensures.cases
    ∙ ap (λ (n : List ℕ). begins n (chars c.as_str.result.now)) c.as_str-2.ensures ∙ ap (λ (s : List ℕ). begins c.args.front.now s) c.as_str.ensures
