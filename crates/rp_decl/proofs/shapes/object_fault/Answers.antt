use Rattle.std.proofs.Common.{sym}
use Rattle.rp_decl.proofs.Orders.{least-append}
use Rattle.rp_decl.proofs.Paths.{path_of-Within}
use Rattle.rp_decl.proofs.shapes.object_fault.Goals as goal

pub returns : goal.returns
returns c =
    rw (c.lesser_of.ensures, c.in_ok-fault.ensures, c.in_ok-missing.ensures, path_of-Within, c.has_member.ensures) (sym (least-append _ _))
