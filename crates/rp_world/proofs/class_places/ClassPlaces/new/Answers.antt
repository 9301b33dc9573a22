use Rattle.std.proofs.Common.{◌∙◌, position}
use Rattle.std.specs.Map.{lookup}
use Rattle.std.specs.Option.{option_or}
use Rattle.rp_decl.specs.declared.records.ClassDecl.{ClassDecl}
use Rattle.rp_store.specs.Key.{same_name}
use Rattle.rp_world.proofs.class_places.ClassPlaces.new.Goals as goal

pub returns : goal.returns
returns c name =
    c.in_ok-add_classes.ensures name
    ∙ (λ i. option_or (lookup (same_name name) (c.new.ensures i)) (position (λ (k : ClassDecl). same_name name k.name) c.args.classes.now))
