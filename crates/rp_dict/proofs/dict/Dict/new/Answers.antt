use Rattle.rp_dict.proofs.Pairs.{distinct-empty}
use Rattle.rp_dict.proofs.dict.Dict.new.Goals as goal

pub invariant_of-result : goal.invariant_of-result
invariant_of-result g c = distinct-empty g.K.PartialEq.eq c.new.result.items c.new.ensures.items
