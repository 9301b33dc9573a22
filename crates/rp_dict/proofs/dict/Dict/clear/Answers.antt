use Rattle.rp_dict.proofs.Pairs.{distinct-empty}
use Rattle.rp_dict.proofs.dict.Dict.clear.Goals as goal

pub invariant_of-self : goal.invariant_of-self
invariant_of-self g c = distinct-empty g.K.PartialEq.eq _ c.clear.ensures
