use Rattle.std.proofs.Common.{◌≡◌, ◌∙◌, refl, sym, ap, rules, arith, chars, drop, nat_lt, true, false}
use Rattle.std.proofs.lemmas.List.{length-drop}
use Rattle.rp_token.specs.Characters.{first, is_blank, line_end_length}
use Rattle.rp_token.proofs.Texts.{joined_lines-more, some_from_first}
use Rattle.rp_token.proofs.text.joined_lines.Goals as goal

pub blanks-preserved : goal.blanks-preserved
blanks-preserved c =
    let cs = chars c.blanks.rest.now in
    let backslash : first cs ≡ 92 = sym c.first.ensures ∙ c.in-92.is in
    let plain : is_blank (first cs) ≡ false = rw backslash refl in
    let ends : nat_lt 0 (line_end_length (drop 1 cs)) ≡ true = rw (← c.behind-next.ensures) (search rules) in
    let rest = c.behind_line_end-rest.ensures ∙ ap (λ ds. drop (line_end_length ds) ds) c.behind-next.ensures in
    let more = joined_lines-more cs plain backslash ends in
    let so_far = c.blanks.invariant.lines in
    let some = some_from_first cs (omega arith) in
    let counted = c.blanks.invariant.counted in
    record {
      is_text = c.behind_line_end-rest.utf8;
      lines = rw rest (omega arith);
      counted = rw rest (omega (arith, length-drop (line_end_length (drop 1 cs)) (drop 1 cs), length-drop 1 cs));
    }
