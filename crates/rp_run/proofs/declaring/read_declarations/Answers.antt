use Rattle.std.proofs.lemmas.Result.{err_from_is_err_and}
use Rattle.std.proofs.Common.{◌≡◌, List, ℕ, subst}
use Rattle.rp_decl.specs.Declares.{Declares}
use Rattle.rp_decl.specs.Faults.{HasFault}
use Rattle.rp_decl.specs.Places.{GrowsTo}
use Rattle.rp_decl.specs.View.{declarations_view}
use Rattle.rp_run.proofs.Sayings.{long_status, only_next, tells_read, tells_fault, unread_long}
use Rattle.rp_run.proofs.declaring.read_declarations.Goals as goal

pub returns-in_err-bytes-clause-refused : goal.returns-in_err-bytes-clause-refused
returns-in_err-bytes-clause-refused g c =
    let p = err_from_is_err_and c.from_residual.result c.from_residual.ensures.1 in
    rw (p.1, p.2) (unread_long _ _ _ c.in_err-bytes.ensures.refused)

pub returns-in_err-bytes-clause-status : goal.returns-in_err-bytes-clause-status
returns-in_err-bytes-clause-status g c =
    let p = err_from_is_err_and c.from_residual.result c.from_residual.ensures.1 in
    rw (p.1, p.2) (long_status _ _ _ c.in_err-bytes.ensures.refused)

pub returns-in_err-bytes-clause-tried : goal.returns-in_err-bytes-clause-tried
returns-in_err-bytes-clause-tried g c = only_next _ _ _ _ _ c.requires.unread c.in_err-bytes.ensures.tried

pub returns-in-Ok-clause-told : goal.returns-in-Ok-clause-told
returns-in-Ok-clause-told g c =
    tells_read c.args.path.now c.in_ok-bytes.bytes.items _
    (declarations_view c.declarations.new.names c.in-Ok.decl) c.in_ok-bytes.ensures.told
    (subst (λ (b : List ℕ). Declares b (declarations_view c.declarations.new.names c.in-Ok.decl))
    c.as_slice.ensures.value c.in-Ok.ensures.ok)

pub returns-in-Ok-clause-well : goal.returns-in-Ok-clause-well
returns-in-Ok-clause-well g c = record {
  first = subst (λ (old : List (List ℕ)). GrowsTo old c.declarations.new.names) c.requires.first c.in-Ok.ensures.names;
  held = c.in-Ok.ensures.held;
  consistent = c.in-Ok.ensures.consistent;
  ordered = c.in-Ok.ensures.ordered;
}

pub returns-clause-refused : goal.returns-clause-refused
returns-clause-refused g c =
    let said = c.in_ok-answer_fault-in-Err.ensures in
    tells_fault c.args.path.now c.in_ok-bytes.bytes.items _ c.declarations.new.names c.in-Err.fault _ _
    c.in_ok-bytes.ensures.told
    (subst (λ (b : List ℕ). HasFault b c.declarations.new.names c.in-Err.fault) c.as_slice.ensures.value
    c.in-Err.ensures.fault) said.other said.said.0 said.said.1

pub returns-in_err-bytes-clause-kept : goal.returns-in_err-bytes-clause-kept
returns-in_err-bytes-clause-kept g c =
    let p = err_from_is_err_and c.from_residual.result c.from_residual.ensures.1 in
    rw (p.1, p.2) c.in_err-bytes.ensures.kept
