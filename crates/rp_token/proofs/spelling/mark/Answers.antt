use Rattle.std.proofs.Common.{◌≡◌, ◌∙◌, ◌++◌, ℕ, List, Option, refl, sym, ap, subst, get_or, [], chars, length, drop, take, true, arith}
use Rattle.std.specs.Str.{IsUtf8}
use Rattle.std.proofs.lemmas.List.{drop_at}
use Rattle.std.proofs.lemmas.Str.{IsUtf8-drop}
use Rattle.rp_token.specs.Characters.{none_begins}
use Rattle.rp_token.specs.Form.{marks}
use Rattle.rp_token.specs.View.{IsMark}
use Rattle.rp_token.proofs.Places.{IsAscii-mark, chars-front, mark-begin, mark-end, mark-here, mark-next, mark_from, starts_with-front, starts_with-lacking}
use Rattle.rp_token.proofs.spelling.mark.Goals as goal

pub loop-place-init : goal.loop-place-init
loop-place-init c =
    mark-begin (chars c.args.text.now) c.mark_places-begin.result.0 (subst (λ n. none_begins n (take c.mark_places-begin.result.0 marks) ≡ true) c.first.ensures c.mark_places-begin.ensures.before)

pub loop-place-preserved : goal.loop-place-preserved
loop-place-preserved c =
    let bs = c.args.text.now in
    let place = c.loop-place.place in
    let lacks = λ (rest : List ℕ) (e : bs ≡ get_or marks place [] ++ rest). c.in_default.ensures.cases rest (e ∙ ap (λ m. m ++ rest) (sym c.mark_at-kind.ensures.spelled)) in
    mark-next (chars bs) place (omega arith) (starts_with-lacking (get_or marks place []) bs (IsAscii-mark place) c.utf8.text lacks) ∙ c.loop-place.invariant

pub returns-in-Some : goal.returns-in-Some
returns-in-Some c =
    let bs = c.args.text.now in
    let place = c.loop-place.place in
    let m = get_or marks place [] in
    let found = c.in-Some.ensures.cases in
    let rest : c.in-Some.rest.now ≡ drop found.0 bs = found.2 in
    let seam : bs ≡ m ++ c.in-Some.rest.now = found.1.1 ∙ (λ k. c.mark_at-kind.ensures.spelled k ++ sym rest k) in
    let front = chars-front m bs c.in-Some.rest.now (IsAscii-mark place) seam in
    let here = mark-here (chars bs) place (omega arith) (starts_with-front m (chars bs) (chars c.in-Some.rest.now) front) in
    let cut = IsUtf8-drop bs (length c.mark_at-kind.result.0.now) c.utf8.text found.1.2 in
    let text : IsUtf8 c.in-Some.rest.now = subst IsUtf8 (ap (λ n. drop n bs) (sym found.1.0) ∙ sym rest) cut in
    let P = λ (o : Option (List ℕ)). IsMark o (chars bs) c.mark_at-kind.result.1 c.in-Some.rest.now in
    subst P (sym here ∙ c.loop-place.invariant)
    (λ names. c.mark_at-kind.ensures.kind names, sym (ap (drop (length m)) front ∙ drop_at m (chars c.in-Some.rest.now) (length m) refl), text)

pub returns : goal.returns
returns c =
    let cs = chars c.args.text.now in
    let end = c.mark_places-begin.result.1 in
    let ended : c.loop-place.place ≡ end = omega arith in
    sym c.loop-place.invariant ∙ ap (mark_from cs) ended ∙ mark-end cs end (subst (λ n. none_begins n (drop end marks) ≡ true) c.first.ensures c.mark_places-begin.ensures.behind)
