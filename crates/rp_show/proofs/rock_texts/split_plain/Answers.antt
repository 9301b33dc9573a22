use Rattle.std.proofs.Common.{◌≡◌, ◌++◌, subst, sym, ap, ◌∙◌, List, ℕ, take, drop}
use Rattle.std.specs.Str.{IsCharBoundary, chars}
use Rattle.rp_show.specs.Shown.{escaped_all}
use Rattle.rp_show.proofs.Runs.{boundary, run-plain, run-and-rest}
use Rattle.rp_show.proofs.rock_texts.split_plain.Goals as goal

pub split_at-requires : goal.split_at-requires
split_at-requires c = subst (IsCharBoundary c.args.text.now) (sym c.plain_length.ensures) (boundary c.args.quote c.requires c.args.text.now c.utf8.text)

pub returns-clause-text : goal.returns-clause-text
returns-clause-text c =
    run-and-rest c.args.quote c.requires c.args.text.now c.utf8.text
    ∙ ap (λ k. chars (take k c.args.text.now) ++ chars (drop k c.args.text.now)) (sym c.plain_length.ensures)
    ∙ ap (λ (bs : List ℕ). chars bs ++ chars (drop c.plain_length.result c.args.text.now)) (sym c.split_at.ensures.front)
    ∙ ap (λ (bs : List ℕ). chars c.split_at.result.0.now ++ chars bs) (sym c.split_at.ensures.back)

pub returns-clause-plain : goal.returns-clause-plain
returns-clause-plain c =
    subst (λ (bs : List ℕ). escaped_all c.args.quote (chars bs) ≡ chars bs) (ap (λ k. take k c.args.text.now) (sym c.plain_length.ensures) ∙ sym c.split_at.ensures.front)
    (run-plain c.args.quote c.requires c.args.text.now c.utf8.text)
