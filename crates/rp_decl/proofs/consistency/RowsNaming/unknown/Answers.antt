use Rattle.std.proofs.Common.{sym}
use Rattle.rp_decl.proofs.Unknown.{least-unknown}
use Rattle.rp_decl.proofs.consistency.RowsNaming.unknown.Goals as goal

pub returns : goal.returns
returns c = rw (c.lesser_of.ensures, c.in_ok-get.ensures, c.in_ok-set.ensures) (sym (least-unknown c.args.known.now _ _))
