use Rattle.rp_tree.proofs.ExpressionEquations.{target_group}
use Rattle.rp_print.proofs.expressions.open_iterable.Goals as goal

pub returns-in-Group : goal.returns-in-Group
returns-in-Group c = rw (c.in-Group.is, target_group) c.open_call-in-Group.ensures
