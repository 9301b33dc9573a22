use Rattle.std.proofs.lemmas.Result.{err_from_is_err_and}
use Rattle.toml.specs.View.{members_view}
use Rattle.rp_decl.proofs.Checked.{all_known}
use Rattle.rp_decl.proofs.read.declared.Goals as goal

pub read-requires-clause-all_known : goal.read-requires-clause-all_known
read-requires-clause-all_known c =
    all_known c.args.version (members_view c.args.document.now.entries) c.in_ok-check_shape.ensures.ok
    (record {
      permissions_declared = c.in_ok-check_permissions.ensures.ok;
      classes_declared = c.in_ok-check_classes.ensures.ok;
      groups_declared = c.in_ok-check_groups.ensures.ok;
      roles_declared = c.in_ok-check_roles.ensures.ok;
    })
    c.in_ok-known.known c.in_ok-known.ensures

pub returns-in_err-check_shape-clause-fault_held : goal.returns-in_err-check_shape-clause-fault_held
returns-in_err-check_shape-clause-fault_held c =
    let p = err_from_is_err_and c.from_residual.result c.from_residual.ensures.1 in rw (p.1, p.2) (c.in_err-check_shape.ensures.fault_held c.args.names.now)

pub returns-in_err-check_permissions-clause-fault_held : goal.returns-in_err-check_permissions-clause-fault_held
returns-in_err-check_permissions-clause-fault_held c =
    let p = err_from_is_err_and c.from_residual-in_err-check_permissions.result c.from_residual-in_err-check_permissions.ensures.1 in rw (p.1, p.2) (c.in_err-check_permissions.ensures.fault_held c.args.names.now)

pub returns-in_err-check_groups-clause-fault_held : goal.returns-in_err-check_groups-clause-fault_held
returns-in_err-check_groups-clause-fault_held c =
    let p = err_from_is_err_and c.from_residual-in_err-check_groups.result c.from_residual-in_err-check_groups.ensures.1 in rw (p.1, p.2) (c.in_err-check_groups.ensures.fault_held c.check_classes.new.names)

pub returns-in_err-check_roles-clause-fault_held : goal.returns-in_err-check_roles-clause-fault_held
returns-in_err-check_roles-clause-fault_held c =
    let p = err_from_is_err_and c.from_residual-in_err-check_roles.result c.from_residual-in_err-check_roles.ensures.1 in rw (p.1, p.2) (c.in_err-check_roles.ensures.fault_held c.check_classes.new.names)
