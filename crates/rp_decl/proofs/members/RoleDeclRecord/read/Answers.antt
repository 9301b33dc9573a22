use Rattle.rp_decl.proofs.Shown.{perms-shown}
use Rattle.rp_decl.proofs.members.RoleDeclRecord.read.Goals as goal

pub returns-clause-record_read : goal.returns-clause-record_read
returns-clause-record_read c later grown =
    let permissions = perms-shown c.args.known.now.permissions _ _ c.in_ok-permissions.ensures in
    record {
      shown = λ i. record { id = c.in_ok-id.ensures i; permissions = permissions.0 i };
      within = permissions.1;
    }
