use Rattle.std.proofs.Common.{◌≡◌, ◌∙◌, sym, ap, subst, take, drop, nat_eq, get_or, [], chars, arith, ℕ, true, false}
use Rattle.std.specs.Cmp.Lexicographic.{pointwise, bytes_decides}
use Rattle.rp_base.specs.Keyword.{keywords}
use Rattle.rp_token.specs.Characters.{none_begins}
use Rattle.rp_token.specs.Form.{keyword}
use Rattle.rp_token.proofs.Places.{IsAscii-keyword, among-begin, among-end, among-here, among-next, is_among}
use Rattle.rp_base.proofs.CallerLemmas.{pointwise-chars}
use Rattle.rp_token.proofs.spelling.keyword.Goals as goal

pub loop-place-init : goal.loop-place-init
loop-place-init c =
    among-begin (chars c.args.word.now) c.keyword_places-begin.result.0 (subst (λ n. none_begins n (take c.keyword_places-begin.result.0 keywords) ≡ true) c.first.ensures c.keyword_places-begin.ensures.before)

pub loop-place-preserved : goal.loop-place-preserved
loop-place-preserved c =
    let word = c.args.word.now in
    let place = c.loop-place.place in
    let spelled : pointwise nat_eq (get_or keywords place []) word ≡ false = rw (← c.keyword_at-kind.ensures.spelled) (sym c.eq.ensures ∙ c.if-eq.false) in
    let other = sym (pointwise-chars (get_or keywords place []) word (IsAscii-keyword place) c.utf8.word) ∙ spelled in
    among-next (chars word) place (omega arith) other ∙ c.loop-place.invariant

pub returns-then-eq : goal.returns-then-eq
returns-then-eq c =
    let word = c.args.word.now in
    let place = c.loop-place.place in
    let spelled : pointwise nat_eq (get_or keywords place []) word ≡ true = rw (← c.keyword_at-kind.ensures.spelled) (sym c.eq.ensures ∙ c.if-eq.true) in
    let here = sym (pointwise-chars (get_or keywords place []) word (IsAscii-keyword place) c.utf8.word) ∙ spelled in (
      sym c.loop-place.invariant ∙ among-here (chars word) place (omega arith) here,
      λ names. c.keyword_at-kind.ensures.kind names ∙ ap keyword ((bytes_decides _ (chars word)).0 here),
    )

pub returns : goal.returns
returns c =
    let word = chars c.args.word.now in
    let end = c.keyword_places-begin.result.1 in
    let ended : c.loop-place.place ≡ end = omega arith in
    sym c.loop-place.invariant ∙ ap (is_among word) ended ∙ among-end word end (subst (λ (n : ℕ). none_begins n (drop end keywords) ≡ true) c.first.ensures c.keyword_places-begin.ensures.behind)
