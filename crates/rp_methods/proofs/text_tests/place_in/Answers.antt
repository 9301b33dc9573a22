use Rattle.std.proofs.Common.{ℕ, Some, ap, sym, ◌∙◌}
use Rattle.std.proofs.lemmas.Str.{IsUtf8-take}
use Rattle.rp_methods.proofs.Cuts.{place-found, place-missing}
use Rattle.rp_methods.proofs.text_tests.place_in.Goals as goal

pub returns-in-Some-clause-place : goal.returns-in-Some-clause-place
returns-in-Some-clause-place c =
    ap (λ (n : ℕ). Some n) c.letters_before.ensures.count
    ∙ sym (place-found c.args.part.now c.args.text.now c.in-Some.at c.utf8.part c.utf8.text (IsUtf8-take c.args.text.now c.in-Some.at c.utf8.text c.in-Some.ensures.cases.3) c.in-Some.ensures.cases)

pub returns-in-None-clause-place : goal.returns-in-None-clause-place
returns-in-None-clause-place c = sym (place-missing c.args.part.now c.args.text.now c.utf8.part c.utf8.text c.in-None.ensures.cases)
