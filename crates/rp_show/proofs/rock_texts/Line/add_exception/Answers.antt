use Rattle.std.proofs.Common.{◌≡◌, ◌++◌, OnOk, append_assoc, sym, ap, ◌∙◌, subst, List, ℕ}
use Rattle.std.specs.Prelude.{codes}
use Rattle.std.specs.Str.{chars}
use Rattle.rp_base.specs.Kind.{kind_name}
use Rattle.rp_show.specs.Shown.{quoted}
use Rattle.rp_show.proofs.Escapes.{chars-kind, exception-empty, exception-some, call-joined}
use Rattle.rp_show.proofs.rock_texts.Line.add_exception.Goals as goal

pub returns-then-is_empty : goal.returns-then-is_empty
unfolding chars
returns-then-is_empty c =
    let self = c.args.self.now in
    let kind = kind_name c.args.kind in
    subst (λ (t : List ℕ). OnOk c.add-then-is_empty.result (c.add-then-is_empty.new.self ≡ t))
    (ap (λ (t : List ℕ). t ++ codes "()") (c.in_ok-add.ensures ∙ ap (λ (t : List ℕ). self ++ t) (ap chars c.as_str.ensures ∙ chars-kind c.args.kind))
    ∙ append_assoc self kind (codes "()")
    ∙ ap (λ (t : List ℕ). self ++ t) (sym (exception-empty kind c.args.text.now (sym c.is_empty.ensures ∙ c.if-is_empty.true))))
    c.add-then-is_empty.ensures

pub returns : goal.returns
unfolding chars
returns c =
    let self = c.args.self.now in
    let kind = kind_name c.args.kind in
    let text = chars c.args.text.now in
    subst (λ (t : List ℕ). OnOk c.add-3.result (c.add-3.new.self ≡ t))
    (ap (λ (t : List ℕ). t ++ codes ")")
    (c.in_ok-add_quoted.ensures
    ∙ ap (λ (t : List ℕ). t ++ quoted text)
    (c.in_ok-add-2.ensures
    ∙ ap (λ (t : List ℕ). t ++ codes "(") (c.in_ok-add.ensures ∙ ap (λ (t : List ℕ). self ++ t) (ap chars c.as_str.ensures ∙ chars-kind c.args.kind))))
    ∙ call-joined self kind (codes "(") (quoted text) (codes ")")
    ∙ ap (λ (t : List ℕ). self ++ t) (sym (exception-some kind c.args.text.now c.utf8.text (sym c.is_empty.ensures ∙ c.if-is_empty.false))))
    c.add-3.ensures
