use Rattle.std.proofs.Common.{◌≡◌, ◌<◌, ◌∙◌, Some, length, slice_get, sym, true, false, arith, subst, refl, ap}
use Rattle.std.proofs.lemmas.Option.{slice_get_read}
use Rattle.rp_decl.specs.View.{declarations_view, perm_text}
use Rattle.rp_interact.specs.Answers.{reason_view}
use Rattle.rp_interact.specs.Why.{has_all}
use Rattle.rp_run.proofs.Reasons.{line_at, lines_more, whole_text, whole_status}
use Rattle.rp_run.specs.Output.{principal_line, reason_line}
use Rattle.rp_run.proofs.telling.reasons.Goals as goal

pub ids-init : goal.ids-init
ids-init c = λ names ordered. c.new-text.ensures

pub ids-preserved : goal.ids-preserved
ids-preserved c = λ names ordered.
    let decl = c.args.decl.now in
    let below : c.ids.place < length c.ids-ids.result.now = omega arith in
    let here : slice_get c.ids-ids.result.now c.ids.place ≡ Some c.index-ids-place.result =
    slice_get_read c.ids-ids.result.now _ c.ids.place c.index-ids-place.result refl below c.index-ids-place.is in
    lines_more (principal_line (declarations_view names decl) (perm_text decl.permissions c.args.permission))
    c.ids-ids.result.now c.ids.place c.index-ids-place.result c.ids.text
    (reason_line c.index-ids-place.result (reason_view decl c.why-reason.result)) _ here (c.ids.invariant names ordered)
    (line_at names decl c.args.interaction.now c.ids.place c.args.permission c.why-reason.result
    c.index-ids-place.result (c.requires.answers names ordered) c.requires.declared
    c.why-reason.ensures (rw c.ids-ids.ensures at here)) c.in_ok-add_reason.ensures

pub returns-in_ok-add_ascii-clause-text : goal.returns-in_ok-add_ascii-clause-text
returns-in_ok-add_ascii-clause-text c = λ names ordered.
    let decl = c.args.decl.now in
    let has = sym ((c.requires.answers names ordered).has c.args.permission c.requires.declared)
    ∙ (sym c.has.ensures ∙ c.if-has.true) in
    whole_text (declarations_view names decl) c.args.interaction.now.ids
    (perm_text decl.permissions c.args.permission) c.ids.place true c.ids.text _
    (rw c.ids-ids.ensures at c.ids-test.false)
    (rw c.ids-ids.ensures at (c.ids.invariant names ordered)) has c.in_ok-add_ascii.ensures

pub returns-in_ok-add_ascii-clause-status : goal.returns-in_ok-add_ascii-clause-status
returns-in_ok-add_ascii-clause-status c = λ names ordered.
    let decl = c.args.decl.now in
    let has = sym ((c.requires.answers names ordered).has c.args.permission c.requires.declared)
    ∙ (sym c.has.ensures ∙ c.if-has.true) in
    whole_status (declarations_view names decl) c.args.interaction.now.ids
    (perm_text decl.permissions c.args.permission) true _ has refl

pub returns-in_ok-add_ascii-2-clause-text : goal.returns-in_ok-add_ascii-2-clause-text
returns-in_ok-add_ascii-2-clause-text c = λ names ordered.
    let decl = c.args.decl.now in
    let has = sym ((c.requires.answers names ordered).has c.args.permission c.requires.declared)
    ∙ (sym c.has.ensures ∙ c.if-has.false) in
    whole_text (declarations_view names decl) c.args.interaction.now.ids
    (perm_text decl.permissions c.args.permission) c.ids.place false c.ids.text _
    (rw c.ids-ids.ensures at c.ids-test.false)
    (rw c.ids-ids.ensures at (c.ids.invariant names ordered)) has c.in_ok-add_ascii-2.ensures

pub returns-in_ok-add_ascii-2-clause-status : goal.returns-in_ok-add_ascii-2-clause-status
returns-in_ok-add_ascii-2-clause-status c = λ names ordered.
    let decl = c.args.decl.now in
    let has = sym ((c.requires.answers names ordered).has c.args.permission c.requires.declared)
    ∙ (sym c.has.ensures ∙ c.if-has.false) in
    whole_status (declarations_view names decl) c.args.interaction.now.ids
    (perm_text decl.permissions c.args.permission) false _ has refl
