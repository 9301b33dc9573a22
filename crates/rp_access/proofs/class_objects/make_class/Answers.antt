use Rattle.rp_store.specs.Object.{content_of}
use Rattle.rp_access.proofs.ClassesMade.{class_fit}
use Rattle.rp_access.proofs.class_objects.make_class.Goals as goal

pub returns-clause-fit : goal.returns-clause-fit
returns-clause-fit c =
    class_fit c.args.side (content_of c.args.object) c.args.store.now c.make.new.self c.in_ok-make.field-0 c.requires.class c.in_ok-make.ensures.place c.in_ok-make.ensures.made
