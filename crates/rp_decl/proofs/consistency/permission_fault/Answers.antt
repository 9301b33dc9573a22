use Rattle.std.proofs.Common.{sym}
use Rattle.toml.specs.View.{members_view}
use Rattle.rp_decl.proofs.Named.{permissions_named-at}
use Rattle.rp_decl.proofs.Unknown.{least-unknown-4}
use Rattle.rp_decl.proofs.consistency.permission_fault.Goals as goal

pub returns : goal.returns
returns c =
    rw (
      c.lesser_of-3.ensures,
      c.lesser_of-2.ensures,
      c.lesser_of.ensures,
      c.in_ok-rows.ensures,
      c.in_ok-roles.ensures,
      c.in_ok-groups.ensures,
      c.in_ok-principals.ensures,
      permissions_named-at (members_view c.args.document.now.entries),
      ← c.requires,
    )
    (sym (least-unknown-4 c.args.permissions.now _ _ _ _))
