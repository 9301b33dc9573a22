use Rattle.std.proofs.Common.{sym}
use Rattle.toml.specs.View.{members_view}
use Rattle.rp_decl.proofs.Named.{roles-at}
use Rattle.rp_decl.proofs.Unknown.{least-unknown}
use Rattle.rp_decl.proofs.consistency.role_fault.Goals as goal

pub returns : goal.returns
returns c =
    rw (c.lesser_of.ensures, c.in_ok-groups.ensures, c.in_ok-principals.ensures, roles-at (members_view c.args.document.now.entries), ← c.requires)
    (sym (least-unknown c.args.roles.now _ _))
