use Rattle.std.proofs.Common.{List, ℕ, chars, ap, ◌∙◌}
use Rattle.rp_methods.specs.Texts.{place_in, place_number}
use Rattle.rp_methods.proofs.text_tests.found_in.Goals as goal

pub returns-in-Some : goal.returns-in-Some
returns-in-Some c =
    c.number.ensures
    ∙ ap place_number
    (c.in-Some.ensures.place ∙ ap (λ (l : List ℕ). place_in l (chars c.as_str.result.now)) c.as_str-2.ensures
    ∙ ap (λ (l : List ℕ). place_in c.args.part.now l) c.as_str.ensures)

pub returns-in-None : goal.returns-in-None
returns-in-None c =
    ap place_number
    (c.in-None.ensures.place ∙ ap (λ (l : List ℕ). place_in l (chars c.as_str.result.now)) c.as_str-2.ensures
    ∙ ap (λ (l : List ℕ). place_in c.args.part.now l) c.as_str.ensures)
