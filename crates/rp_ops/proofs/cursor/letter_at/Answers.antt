use Rattle.std.proofs.Common.{◌≡◌, ◌∷◌, ◌+◌, ◌∙◌, List, ℕ, arith, encode_utf8_all, subst, sym}
use Rattle.std.specs.Str.{IsCharBoundary}
use Rattle.std.specs.Str.Iter.{chars_rest}
use Rattle.rp_ops.specs.Standing.{letters_left}
use Rattle.rp_ops.proofs.Cursors.{letters-after, letters-end, letters-first}
use Rattle.rp_base.proofs.CallerLemmas.{bytes_from_view}
use Rattle.rp_ops.proofs.cursor.letter_at.Goals as goal

pub returns-then-at-text-clause-end : goal.returns-then-at-text-clause-end
returns-then-at-text-clause-end c =
    letters-end c.as_str-text.result.now c.args.text.now c.args.at c.as_str-text.utf8 c.as_str-text.ensures (omega (c.if-at-text.true, arith))

pub range_from-requires : goal.range_from-requires
range_from-requires c =
    (λ _. subst (λ (bs : List ℕ). IsCharBoundary bs c.args.at) (bytes_from_view c.as_str-text.result.now c.args.text.now c.as_str-text.utf8 c.as_str-text.ensures) c.requires)

pub returns-clause-letter : goal.returns-clause-letter
returns-clause-letter c =
    subst (λ (k : ℕ). letters_left c.args.text.now c.args.at ≡ c.in_ok-letter.letter ∷ letters_left c.args.text.now (c.args.at + k)) (sym c.len_utf8.ensures.value)
    (letters-first c.as_str-text.result.now c.args.text.now (chars_rest c.next.new.self) c.args.at c.in_ok-letter.letter c.as_str-text.utf8 c.as_str-text.ensures
    c.requires (sym c.range_from.ensures.value ∙ sym c.chars.ensures.rest ∙ c.in_ok-letter.ensures.steps.0))

pub returns-clause-boundary : goal.returns-clause-boundary
returns-clause-boundary c =
    subst (λ (k : ℕ). IsCharBoundary (encode_utf8_all c.args.text.now) (c.args.at + k)) (sym c.len_utf8.ensures.value)
    (letters-after c.as_str-text.result.now c.args.text.now (chars_rest c.next.new.self) c.args.at c.in_ok-letter.letter c.as_str-text.utf8 c.as_str-text.ensures
    c.requires (sym c.range_from.ensures.value ∙ sym c.chars.ensures.rest ∙ c.in_ok-letter.ensures.steps.0))
