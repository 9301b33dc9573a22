use Rattle.rp_dict.specs.Form.{pairs_of}
use Rattle.rp_dict.proofs.Pairs.{distinct-remove_entry}
use Rattle.rp_dict.proofs.dict.Dict.remove.Goals as goal

pub invariant_of-self : goal.invariant_of-self
invariant_of-self g c =
    rw c.remove.ensures.removed (distinct-remove_entry (g.K.PartialEq.eq c.args.key.now) g.K.PartialEq.eq (pairs_of c.self.inside.form) c.self.invariant)
