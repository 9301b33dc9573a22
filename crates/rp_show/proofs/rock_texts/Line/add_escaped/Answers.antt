use Rattle.std.proofs.Common.{◌≡◌, ◌++◌, ◌<◌, ap, ◌∙◌, List, ℕ, append-nil, sym, length, take, drop, arith, rules}
use Rattle.std.specs.Str.{chars}
use Rattle.rp_show.specs.Shown.{escaped_all}
use Rattle.rp_show.proofs.Runs.{escaped-turn, shorter-turn}
use Rattle.rp_base.proofs.CallerLemmas.{no-chars, some_chars}
use Rattle.rp_show.proofs.rock_texts.Line.add_escaped.Goals as goal

pub runs-smaller : goal.runs-smaller
runs-smaller c =
    let some : 0 < length c.runs.rest.now = search rules in
    let run = chars c.split_plain.result.0.now in
    let behind = chars c.split_plain.result.1.now in
    let shorter = shorter-turn run behind (chars c.runs.rest.now) c.split_plain.ensures.text (some_chars c.runs.rest.now c.runs.invariant.0 some) in
    omega (arith, shorter, ap length c.behind_first-rest.ensures)

pub runs-preserved : goal.runs-preserved
runs-preserved c =
    let q = c.args.quote in
    let run = chars c.split_plain.result.0.now in
    let behind = chars c.split_plain.result.1.now in (
      c.behind_first-rest.utf8,
      ap (λ (t : List ℕ). c.escape_first.new.self ++ escaped_all q t) c.behind_first-rest.ensures
          ∙ ap (λ (line : List ℕ). line ++ escaped_all q (drop 1 behind)) (c.in_ok-escape_first.ensures ∙ ap (λ (line : List ℕ). line ++ escaped_all q (take 1 behind)) c.in_ok-add.ensures)
          ∙ escaped-turn q c.runs.self run behind (chars c.runs.rest.now) c.split_plain.ensures.text c.split_plain.ensures.plain
          ∙ c.runs.invariant.1,
    )

pub returns : goal.returns
returns c =
    let none : length c.runs.rest.now ≡ 0 = search rules in
    sym (append-nil c.runs.self) ∙ ap (λ (t : List ℕ). c.runs.self ++ escaped_all c.args.quote t) (sym (no-chars c.runs.rest.now none)) ∙ c.runs.invariant.1
