use Rattle.std.proofs.Common.{◌≡◌, ◌∙◌, ◌<◌, sym, ap, subst, rules, length, map, chars, string_bytes}
use Rattle.std.proofs.lemmas.Str.{chars-nil}
use Rattle.rp_token.proofs.Texts.{not_empty}
use Rattle.rp_more.specs.PieceSteps.{piece_seen}
use Rattle.rp_more.proofs.ReadPieces.{run-empty, run-filled}
use Rattle.rp_base.proofs.CallerLemmas.{no-chars, some_chars}
use Rattle.rp_more.proofs.pieces.Reader.end_run.Goals as goal

pub returns-then-is_empty-clause-run : goal.returns-then-is_empty-clause-run
returns-then-is_empty-clause-run c =
    let empty : length c.as_str.result.now ≡ 0 = search rules in
    ap chars (sym c.as_str.ensures.value) ∙ no-chars c.as_str.result.now empty

pub returns-then-is_empty-clause-pieces : goal.returns-then-is_empty-clause-pieces
returns-then-is_empty-clause-pieces c =
    run-empty (map piece_seen c.args.self.now.whole.items) (chars (string_bytes c.args.self.now.run)) (returns-then-is_empty-clause-run c)

pub returns-clause-pieces : goal.returns-clause-pieces
returns-clause-pieces c =
    let bytes = c.as_str.result.now in
    let some = some_chars bytes c.as_str.utf8 (not_empty c.is_empty.result (length bytes) c.is_empty.ensures c.if-is_empty.false) in
    run-filled c.args.self.now.whole.items c.push.new.self.items _ (chars (string_bytes c.args.self.now.run)) c.in_ok-push.ensures.items
    (c.in_ok-from_string.ensures ∙ (λ k. chars (string_bytes (c.replace-run.ensures.value k)))) (subst (λ bs. 0 < length (chars bs)) c.as_str.ensures.value some)

pub returns-clause-run : goal.returns-clause-run
returns-clause-run c = (λ k. chars (string_bytes (c.replace-run.ensures.after k))) ∙ ap chars c.new.ensures.bytes ∙ chars-nil
