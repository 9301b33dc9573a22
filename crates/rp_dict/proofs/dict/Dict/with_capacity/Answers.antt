use Rattle.rp_dict.proofs.Pairs.{distinct-empty}
use Rattle.rp_dict.proofs.dict.Dict.with_capacity.Goals as goal

pub invariant_of-result : goal.invariant_of-result
invariant_of-result g c = distinct-empty g.K.PartialEq.eq _ c.in_ok-with_capacity.ensures
