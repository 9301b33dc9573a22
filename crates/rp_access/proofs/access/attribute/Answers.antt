use Rattle.rp_base.specs.Names.{word_of}
use Rattle.rp_access.proofs.Namings.{attribute_faithful}
use Rattle.rp_access.proofs.access.attribute.Goals as goal

pub returns-clause-faithful : goal.returns-clause-faithful
returns-clause-faithful c =
    attribute_faithful c.args.world.now c.attribute.new.store c.attribute.result c.args.side c.args.o.now c.args.name (word_of c.args.world.now.names c.args.name)
    (c.attribute.ensures.plain 0) c.attribute.ensures.same c.requires.faithful
