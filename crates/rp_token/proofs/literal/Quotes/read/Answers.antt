use Rattle.std.proofs.Common.{◌≡◌, ◌∙◌, ◌+◌, ◌++◌, [], ◌∷◌, sym, ap, arith, chars, string_bytes}
use Rattle.std.proofs.lemmas.List.{append-nil}
use Rattle.std.proofs.lemmas.Str.{chars-nil, IsUtf8-string_bytes}
use Rattle.rp_token.specs.Literal.{literal_behind, with_front}
use Rattle.rp_token.specs.Reading.{quotes_seen}
use Rattle.rp_token.proofs.Texts.{chars-push}
use Rattle.rp_token.proofs.Literals.{with_front-more, with_front-none}
use Rattle.rp_token.proofs.literal.Quotes.read.Goals as goal

pub pieces-init : goal.pieces-init
pieces-init c = record { is_text = c.utf8.text; reading = rw (c.new-value.ensures.bytes, chars-nil) (with_front-none _); counted = omega arith }

pub pieces-preserved-in-Letter : goal.pieces-preserved-in-Letter
pieces-preserved-in-Letter c =
    let less = c.in-Letter.ensures.rest.1 in
    let so_far = c.pieces.invariant.counted in
    let letter : chars (string_bytes c.push.new.self) ≡ chars (string_bytes c.pieces.value) ++ c.in-Letter.letter ∷ [] =
    chars-push (string_bytes c.pieces.value) (string_bytes c.push.new.self) c.in-Letter.letter (IsUtf8-string_bytes c.pieces.value) (IsUtf8-string_bytes c.push.new.self) c.in_ok-push-in-Letter.ensures.bytes in
    let same : c.pieces.lines + 0 ≡ c.pieces.lines = omega arith in
    record {
      is_text = c.in-Letter.ensures.rest.0;
      reading = rw letter (ap (λ n. with_front (chars (string_bytes c.pieces.value) ++ c.in-Letter.letter ∷ []) n (literal_behind (quotes_seen c.args.self) 0 (chars c.in-Letter.next.now))) (sym same)
          ∙ with_front-more _ _ _ _ _ _ _ c.pieces.invariant.reading c.in-Letter.ensures.meaning);
      counted = omega arith;
    }

pub overflow_add-lines : goal.overflow_add-lines
overflow_add-lines c =
    let less = c.in-LineEnd.ensures.rest.1 in
    let so_far = c.pieces.invariant.counted in
    let most = c.requires.counted in
    omega arith

pub pieces-preserved-in-LineEnd : goal.pieces-preserved-in-LineEnd
pieces-preserved-in-LineEnd c =
    let less = c.in-LineEnd.ensures.rest.1 in
    let so_far = c.pieces.invariant.counted in
    let letter : chars (string_bytes c.push-in-LineEnd.new.self) ≡ chars (string_bytes c.pieces.value) ++ 10 ∷ [] =
    chars-push (string_bytes c.pieces.value) (string_bytes c.push-in-LineEnd.new.self) 10 (IsUtf8-string_bytes c.pieces.value) (IsUtf8-string_bytes c.push-in-LineEnd.new.self) c.in_ok-push-in-LineEnd.ensures.bytes in
    record {
      is_text = c.in-LineEnd.ensures.rest.0;
      reading = rw letter (with_front-more _ _ _ _ _ _ _ c.pieces.invariant.reading c.in-LineEnd.ensures.meaning);
      counted = omega arith;
    }

pub overflow_add-lines-in-Joined : goal.overflow_add-lines-in-Joined
overflow_add-lines-in-Joined c =
    let less = c.in-Joined.ensures.rest.1 in
    let so_far = c.pieces.invariant.counted in
    let most = c.requires.counted in
    omega arith

pub pieces-preserved : goal.pieces-preserved
pieces-preserved c =
    let less = c.in-Joined.ensures.rest.1 in
    let so_far = c.pieces.invariant.counted in
    record {
      is_text = c.in-Joined.ensures.rest.0;
      reading = ap (λ cs. with_front cs (c.pieces.lines + 1) (literal_behind (quotes_seen c.args.self) 0 (chars c.in-Joined.next.now))) (sym (append-nil (chars (string_bytes c.pieces.value))))
          ∙ with_front-more _ _ _ _ _ _ _ c.pieces.invariant.reading c.in-Joined.ensures.meaning;
      counted = omega arith;
    }
