use Rattle.std.proofs.Common.{sym, subst}
use Rattle.std.specs.List.{IsDistinct}
use Rattle.rp_dict.specs.Form.{pairs_of}
use Rattle.rp_dict.proofs.Pairs.{keys-with_second}
use Rattle.rp_dict.proofs.dict.Dict+K+tuple2+A+B.set_second.Goals as goal

pub invariant_of-self : goal.invariant_of-self
invariant_of-self g c =
    rw c.set_second.ensures.set
    (subst (IsDistinct g.K.PartialEq.eq) (sym (keys-with_second (g.K.PartialEq.eq c.args.key.now) c.args.value (pairs_of c.self.inside.form))) c.self.invariant)
