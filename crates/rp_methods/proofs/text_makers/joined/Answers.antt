use Rattle.std.proofs.Common.{◌≡◌, ◌<◌, ◌++◌, List, ℕ, encode_utf8_all, length, map, string_bytes, ap, subst, ◌∙◌}
use Rattle.rp_methods.specs.Texts.{joined, letters_of}
use Rattle.rp_methods.proofs.Turns.{bytes_preceded, joined-bytes}
use Rattle.rp_methods.proofs.text_makers.joined.Goals as goal

pub returns-then-branch-clause-joined : goal.returns-then-branch-clause-joined
returns-then-branch-clause-joined c =
    let between = c.args.between.now in
    let others = c.in-Some.others.now in
    rw c.if-branch.true at c.in_ok-push_others.ensures
    ∙ ap (λ (l : List ℕ). l ++ bytes_preceded between others) (c.in_ok-all.ensures.ok ∙ c.bytes_of.ensures)
    ∙ joined-bytes between c.args.values.now c.in-Some.first.now others c.in-Some.ensures.cases.0

pub returns-clause-over : goal.returns-clause-over
returns-clause-over c =
    let between = c.args.between.now in
    let others = c.in-Some.others.now in
    let whole : string_bytes c.in_ok-all.all ++ bytes_preceded between others ≡ encode_utf8_all (joined between (map letters_of c.args.values.now)) =
    ap (λ (l : List ℕ). l ++ bytes_preceded between others) (c.in_ok-all.ensures.ok ∙ c.bytes_of.ensures)
    ∙ joined-bytes between c.args.values.now c.in-Some.first.now others c.in-Some.ensures.cases.0 in
    subst (λ (l : List ℕ). c.args.room < length l) whole (rw c.if-branch.false at c.in_ok-push_others.ensures)
