use Rattle.std.proofs.Common.{subst}
use Rattle.std.proofs.lemmas.Result.{IfOk-weaker, err_from_is_err_and}
use Rattle.toml.specs.View.{members_view, table_view}
use Rattle.rp_decl.specs.Apart.{AreNamesApart}
use Rattle.rp_decl.specs.View.{declarations_view}
use Rattle.rp_decl.proofs.Checked.{names_apart}
use Rattle.rp_decl.proofs.Laws.{refused-IsConsistent, refused-parts}
use Rattle.rp_decl.proofs.read.declarations.Goals as goal

pub returns-in-Some-clause-consistent : goal.returns-in-Some-clause-consistent
returns-in-Some-clause-consistent c =
    IfOk-weaker c.declared.result _ _
    (λ d declared. refused-IsConsistent c.in-Some.version (table_view c.in_ok-document.document) (declarations_view c.declared.new.names d) declared)
    c.declared.ensures.ok

pub returns-in-Some-clause-apart : goal.returns-in-Some-clause-apart
returns-in-Some-clause-apart c =
    let version = c.in-Some.version in
    let es = c.in_ok-document.document.entries in
    IfOk-weaker c.declared.result _ _
    (λ d declared.
    let (none, same) = refused-parts version (members_view es) (declarations_view c.declared.new.names d) declared in
    subst AreNamesApart same (names_apart version es none))
    c.declared.ensures.ok

pub returns-in_err-document-clause-fault : goal.returns-in_err-document-clause-fault
returns-in_err-document-clause-fault c =
    let p = err_from_is_err_and c.from_residual.result c.from_residual.ensures.1 in rw (p.1, p.2) (c.in_err-document.ensures.fault c.args.names.now)

pub returns-in_err-document-clause-fault_held : goal.returns-in_err-document-clause-fault_held
returns-in_err-document-clause-fault_held c =
    let p = err_from_is_err_and c.from_residual.result c.from_residual.ensures.1 in rw (p.1, p.2) (c.in_err-document.ensures.fault_held c.args.names.now)
