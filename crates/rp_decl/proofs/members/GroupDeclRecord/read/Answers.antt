use Rattle.rp_decl.proofs.Shown.{perms-shown, places-shown}
use Rattle.rp_decl.proofs.members.GroupDeclRecord.read.Goals as goal

pub returns-clause-record_read : goal.returns-clause-record_read
returns-clause-record_read c later grown =
    let roles = places-shown c.args.known.now.roles _ _ c.in_ok-roles.ensures in
    let allow = perms-shown c.args.known.now.permissions _ _ c.in_ok-allow.ensures in
    let deny = perms-shown c.args.known.now.permissions _ _ c.in_ok-deny.ensures in
    record {
      shown = λ i. record { id = c.in_ok-id.ensures i; roles = roles.0 i; allow = allow.0 i; deny = deny.0 i };
      within = record { roles_within = roles.1; allow = allow.1; deny = deny.1 };
    }
