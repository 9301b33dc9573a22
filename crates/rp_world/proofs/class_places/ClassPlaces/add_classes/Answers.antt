use Rattle.std.proofs.Common.{◌≡◌, ◌∙◌, None, Some, ap, arith, if◌then◌else◌, position, subst, take_all}
use Rattle.std.specs.Map.{lookup}
use Rattle.std.specs.Option.{option_or}
use Rattle.rp_decl.specs.declared.records.ClassDecl.{ClassDecl}
use Rattle.rp_store.specs.Key.{same_name}
use Rattle.rp_world.proofs.Places.{classes-more, option_or-None}
use Rattle.rp_world.proofs.class_places.ClassPlaces.add_classes.Goals as goal

pub loop-place-init : goal.loop-place-init
loop-place-init c name = option_or-None (lookup (same_name name) c.args.self.now)

pub loop-place-preserved : goal.loop-place-preserved
loop-place-preserved c name =
    let item = c.index-classes-place.result in
    let added = subst (λ (k : ClassDecl). lookup (same_name name) c.add.new.self ≡ option_or (lookup (same_name name) c.loop-place.self) (if same_name name k.name then Some c.loop-place.place else None))
    c.index-classes-place.is (c.in_ok-add.ensures name) in
    classes-more (λ k. same_name name k.name) c.args.classes.now c.loop-place.place item
    (lookup (same_name name) c.args.self.now) (lookup (same_name name) c.loop-place.self) (lookup (same_name name) c.add.new.self)
    (omega arith) (c.loop-place.invariant name) added

pub returns : goal.returns
returns c name =
    c.loop-place.invariant name
    ∙ ap (λ ks. option_or (lookup (same_name name) c.args.self.now) (position (λ k. same_name name k.name) ks)) (take_all c.loop-place.place c.args.classes.now (omega arith))
