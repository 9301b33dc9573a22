use Rattle.rp_dict.specs.Form.{pairs_of}
use Rattle.rp_dict.proofs.Pairs.{distinct-set}
use Rattle.rp_dict.proofs.dict.Dict.set.Goals as goal

pub invariant_of-self : goal.invariant_of-self
invariant_of-self g c =
    distinct-set g.K.PartialEq.eq g.met.K.Eq.laws (pairs_of c.self.inside.form) (pairs_of c.set.new.self) c.args.key c.args.value c.set.result c.set.ensures.set c.set.ensures.same c.self.invariant
