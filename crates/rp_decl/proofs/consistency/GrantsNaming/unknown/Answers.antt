use Rattle.std.proofs.Common.{sym}
use Rattle.rp_decl.proofs.Unknown.{least-unknown}
use Rattle.rp_decl.proofs.consistency.GrantsNaming.unknown.Goals as goal

pub returns : goal.returns
returns c = rw (c.lesser_of.ensures, c.in_ok-allow.ensures, c.in_ok-deny.ensures) (sym (least-unknown c.args.known.now _ _))
