use Rattle.std.proofs.lemmas.Result.{err_from_is_err_and}
use Rattle.std.proofs.Common.{◌≡◌, ◌∙◌, Some, position, sym}
use Rattle.rp_base.specs.Same.{same_text}
use Rattle.rp_decl.specs.View.{declarations_view}
use Rattle.rp_run.proofs.Reasons.{among-Some}
use Rattle.rp_run.proofs.Sayings.{refused_always, told_may, undeclared_may, undeclared_status, unfailed_so, unknown_may}
use Rattle.rp_run.proofs.Sayings.{unread_may}
use Rattle.rp_words.specs.View.{may_view}
use Rattle.rp_run.proofs.telling.answer_may.Goals as goal

pub returns-in_err-decl-clause-told : goal.returns-in_err-decl-clause-told
returns-in_err-decl-clause-told g c =
    let p = err_from_is_err_and c.from_residual-in_err-decl.result c.from_residual-in_err-decl.ensures.1 in
    rw (p.1, p.2) (unread_may (may_view c.args.command.now) _ _ c.in_err-decl.ensures.refused)

pub returns-in_err-interaction-clause-told : goal.returns-in_err-interaction-clause-told
returns-in_err-interaction-clause-told g c =
    let p = err_from_is_err_and c.from_residual-in_err-interaction.result c.from_residual-in_err-interaction.ensures.1
    in
    rw (p.1, p.2)
    (unknown_may (may_view c.args.command.now) c.read_declarations.new.names c.in_ok-decl.decl c.as_slice.result.now
    c.as_slice.ensures.value _ _
    c.in_ok-decl.ensures.told c.in_err-interaction.ensures.refused)

pub returns-in_err-permission-clause-told : goal.returns-in_err-permission-clause-told
returns-in_err-permission-clause-told g c =
    let p = err_from_is_err_and c.from_residual-in_err-permission.result c.from_residual-in_err-permission.ensures.1 in
    rw (p.1, p.2)
    (undeclared_may
    (may_view c.args.command.now) c.read_declarations.new.names c.in_ok-decl.decl c.as_slice.result.now
    c.as_slice.ensures.value _ _ _
    c.permissions.ensures c.in_ok-decl.ensures.told c.in_ok-interaction.ensures.known
    c.in_err-permission.ensures.refused)

pub returns-in_err-permission-clause-status : goal.returns-in_err-permission-clause-status
returns-in_err-permission-clause-status g c =
    let p = err_from_is_err_and c.from_residual-in_err-permission.result c.from_residual-in_err-permission.ensures.1 in
    rw (p.1, p.2) (undeclared_status _ _ _ c.in_err-permission.ensures.refused)

pub reasons-requires : goal.reasons-requires
reasons-requires g c =
    let d = c.in_ok-decl.decl in
    let here : position (same_text c.args.command.now.permission) d.permissions ≡ Some c.in_ok-permission.permission.0 =
    rw c.permissions.ensures at c.in_ok-permission.ensures.place in
    record {
      declared = (among-Some d.permissions c.args.command.now.permission c.in_ok-permission.permission.0 here).within;
      answers = c.in_ok-interaction.ensures.answers;
    }

pub returns-clause-told : goal.returns-clause-told
returns-clause-told g c =
    let d = c.in_ok-decl.decl in
    let names = c.read_declarations.new.names in
    let here : position (same_text c.args.command.now.permission) d.permissions ≡ Some c.in_ok-permission.permission.0 =
    rw c.permissions.ensures at c.in_ok-permission.ensures.place in
    let ordered = c.in_ok-decl.ensures.well.ordered in
    told_may (may_view c.args.command.now) names d c.as_slice.result.now c.as_slice.ensures.value _ _
    c.in_ok-interaction.interaction.ids c.in_ok-permission.permission.0
    c.in_ok-decl.ensures.told c.in_ok-interaction.ensures.known c.in_ok-interaction.ensures.ids
    (among-Some d.permissions c.args.command.now.permission c.in_ok-permission.permission.0 here)
    (c.in_ok-reasons.ensures.text names ordered) (c.in_ok-reasons.ensures.status names ordered)

pub returns-in_err-decl-clause-status : goal.returns-in_err-decl-clause-status
returns-in_err-decl-clause-status g c =
    let p = err_from_is_err_and c.from_residual-in_err-decl.result c.from_residual-in_err-decl.ensures.1 in
    rw (p.1, p.2) c.in_err-decl.ensures.status

pub returns-in_err-decl-clause-sound : goal.returns-in_err-decl-clause-sound
returns-in_err-decl-clause-sound g c =
    let p = err_from_is_err_and c.from_residual-in_err-decl.result c.from_residual-in_err-decl.ensures.1 in
    rw (p.1, p.2) c.in_err-decl.ensures.kept

pub returns-in_err-interaction-clause-status : goal.returns-in_err-interaction-clause-status
returns-in_err-interaction-clause-status g c =
    let p = err_from_is_err_and c.from_residual-in_err-interaction.result c.from_residual-in_err-interaction.ensures.1
    in
    rw (p.1, p.2) c.in_err-interaction.ensures.status

pub returns-in_err-interaction-clause-sound : goal.returns-in_err-interaction-clause-sound
returns-in_err-interaction-clause-sound g c =
    let p = err_from_is_err_and c.from_residual-in_err-interaction.result c.from_residual-in_err-interaction.ensures.1
    in
    rw (p.1, p.2) (refused_always _ _ c.in_ok-decl.ensures.sound)

pub returns-in_err-interaction-clause-failed : goal.returns-in_err-interaction-clause-failed
returns-in_err-interaction-clause-failed g c =
    let p = err_from_is_err_and c.from_residual-in_err-interaction.result c.from_residual-in_err-interaction.ensures.1
    in
    λ failed. unfailed_so _ _ c.in_err-interaction.ensures.unfailed (rw (p.1, p.2) at failed)

pub returns-in_err-interaction-clause-cause : goal.returns-in_err-interaction-clause-cause
returns-in_err-interaction-clause-cause g c =
    let p = err_from_is_err_and c.from_residual-in_err-interaction.result c.from_residual-in_err-interaction.ensures.1
    in
    λ failed. unfailed_so _ _ c.in_err-interaction.ensures.unfailed (rw (p.1, p.2) at failed)

pub returns-in_err-permission-clause-sound : goal.returns-in_err-permission-clause-sound
returns-in_err-permission-clause-sound g c =
    let p = err_from_is_err_and c.from_residual-in_err-permission.result c.from_residual-in_err-permission.ensures.1 in
    rw (p.1, p.2) (refused_always _ _ c.in_ok-decl.ensures.sound)

pub returns-in_err-permission-clause-failed : goal.returns-in_err-permission-clause-failed
returns-in_err-permission-clause-failed g c =
    let p = err_from_is_err_and c.from_residual-in_err-permission.result c.from_residual-in_err-permission.ensures.1 in
    λ failed. unfailed_so _ _ c.in_err-permission.ensures.unfailed (rw (p.1, p.2) at failed)

pub returns-in_err-permission-clause-cause : goal.returns-in_err-permission-clause-cause
returns-in_err-permission-clause-cause g c =
    let p = err_from_is_err_and c.from_residual-in_err-permission.result c.from_residual-in_err-permission.ensures.1 in
    λ failed. unfailed_so _ _ c.in_err-permission.ensures.unfailed (rw (p.1, p.2) at failed)
