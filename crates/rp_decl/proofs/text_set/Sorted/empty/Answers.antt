use Rattle.rp_decl.proofs.Documents.{AreAscending-nil}
use Rattle.rp_decl.proofs.text_set.Sorted.empty.Goals as goal

pub invariant_of-result : goal.invariant_of-result
invariant_of-result c = rw c.new.ensures.items AreAscending-nil
