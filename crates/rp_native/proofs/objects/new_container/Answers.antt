use Rattle.rp_store.specs.Object.{content_of}
use Rattle.rp_native.proofs.Growths.{Gains-made, not-scope}
use Rattle.rp_native.proofs.objects.new_container.Goals as goal

pub new_object-requires-clause-value : goal.new_object-requires-clause-value
new_object-requires-clause-value c = not-scope (content_of c.args.object) c.requires.container

pub returns-clause-grown : goal.returns-clause-grown
returns-clause-grown c =
    Gains-made c.args.side (content_of c.args.object) c.args.store.now c.new_object.new.store c.new_object.result c.requires.container c.new_object.ensures.made
    c.new_object.ensures.same
