use Rattle.std.proofs.Common.{◌≡◌, ◌∙◌, ◌<◌, ap, if◌then◌else◌, chars, length, arith, rules}
use Rattle.std.proofs.lemmas.List.{length-drop, nil_from_length}
use Rattle.rp_token.specs.Characters.{is_blank}
use Rattle.rp_token.proofs.Texts.{no_chars}
use Rattle.rp_more.proofs.Trims.{Read-none, Read-turn, Read-end, chars-chosen, cut-boundary, cut-front, cut-le}
use Rattle.rp_base.proofs.CallerLemmas.{some_chars}
use Rattle.rp_more.proofs.letters.without_last_blanks.Goals as goal

pub letters-init : goal.letters-init
letters-init c = record { is_text = c.utf8.text; blank_text = c.utf8.text; read = Read-none (chars c.args.text.now) }

pub letters-smaller : goal.letters-smaller
letters-smaller c =
    let some : 0 < length c.letters.rest.now = search rules in
    let letters = some_chars c.letters.rest.now c.letters.invariant.is_text some in
    let shorter = ap length c.behind-rest.ensures ∙ length-drop 1 (chars c.letters.rest.now) in
    omega arith

pub letters-preserved : goal.letters-preserved
letters-preserved c =
    let some : 0 < length c.letters.rest.now = search rules in
    let letters = some_chars c.letters.rest.now c.letters.invariant.is_text some in
    let chosen : chars c.behind_last-blanks.result.now ≡ (if is_blank c.first-letter.result then chars c.letters.blanks.now else chars c.behind-rest.result.now) =
    chars-chosen (is_blank c.first-letter.result) c.letters.blanks.now c.behind-rest.result.now c.behind_last-blanks.result.now c.behind_last-blanks.ensures in
    record {
      is_text = c.behind-rest.utf8;
      blank_text = c.behind_last-blanks.utf8;
      read = Read-turn _ _ _ _ _ c.first-letter.result c.letters.invariant.read letters c.first-letter.ensures c.behind-rest.ensures chosen;
    }

pub overflow_sub-text : goal.overflow_sub-text
overflow_sub-text c =
    let read = c.letters.invariant.read in
    cut-le c.args.text.now c.letters.blanks.now read.letters c.utf8.text c.letters.invariant.blank_text read.spelled

pub split_at-requires : goal.split_at-requires
split_at-requires c =
    let read = c.letters.invariant.read in
    cut-boundary c.args.text.now c.letters.blanks.now read.letters c.utf8.text c.letters.invariant.blank_text read.spelled

pub returns : goal.returns
returns c =
    let read = c.letters.invariant.read in
    cut-front c.args.text.now c.letters.blanks.now read.letters c.split_at.result.0.now c.utf8.text c.letters.invariant.blank_text read.spelled c.split_at.ensures.front
    ∙ Read-end (chars c.args.text.now) (chars c.letters.blanks.now) (chars c.letters.rest.now) read (nil_from_length _ (no_chars c.letters.rest.now (search rules)))
