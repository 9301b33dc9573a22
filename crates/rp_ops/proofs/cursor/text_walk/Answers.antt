use Rattle.std.proofs.Common.{◌∙◌, List, ℕ, Ok, ap, chars, subst, sym}
use Rattle.std.proofs.lemmas.Str.{IsCharBoundary-start}
use Rattle.std.specs.Str.{IsCharBoundary}
use Rattle.rp_ops.specs.Walk.{characters_from}
use Rattle.rp_base.proofs.CallerLemmas.{bytes_from_view}
use Rattle.rp_ops.proofs.cursor.text_walk.Goals as goal

pub invariant_of-result : goal.invariant_of-result
invariant_of-result c =
    let bs = c.as_str-letters.result.now in
    subst (λ (cs : List ℕ). IsCharBoundary cs 0) (sym (bytes_from_view bs c.in_ok-text.text c.as_str-letters.utf8 (c.as_str-letters.ensures ∙ sym c.in_ok-text.ensures)))
    (IsCharBoundary-start bs c.as_str-letters.utf8)

pub returns-clause-plain : goal.returns-clause-plain
returns-clause-plain c =
    let bs = c.as_str-letters.result.now in
    ap (λ cs. Ok (characters_from cs))
    (sym (ap chars (bytes_from_view bs c.in_ok-text.text c.as_str-letters.utf8 (c.as_str-letters.ensures ∙ sym c.in_ok-text.ensures)) ∙ c.as_str-letters.ensures))
