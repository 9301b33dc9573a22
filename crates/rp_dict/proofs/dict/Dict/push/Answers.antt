use Rattle.rp_dict.specs.Form.{pairs_of}
use Rattle.rp_dict.proofs.Pairs.{distinct-set}
use Rattle.rp_dict.proofs.dict.Dict.push.Goals as goal

pub invariant_of-self : goal.invariant_of-self
invariant_of-self g c =
    distinct-set g.K.PartialEq.eq g.met.K.Eq.laws (pairs_of c.self.inside.form) (pairs_of c.push.new.self) c.args.key c.args.value c.push.result c.push.ensures.pushed c.push.ensures.same c.self.invariant
