use Rattle.std.proofs.Common.{◌∙◌}
use Rattle.rp_parse.proofs.Halving.{halved}
use Rattle.rp_parse.proofs.parameters.Parameters.have.Goals as goal

pub returns : goal.returns
returns c =
    let found = rw c.deref.ensures.value at c.binary_search.ensures.position in
    rw (← c.self.view_is) (c.is_ok.ensures.value ∙ halved c.args.name c.self.inside.names.items c.self.inside.sorted.items c.binary_search.result c.self.invariant.0 c.self.invariant.1 found)
