use Rattle.std.proofs.Common.{◌∙◌, List, ap, nat_eq}
use Rattle.std.specs.Prelude.{position}
use Rattle.rp_base.specs.declared.value.Name.{Name}
use Rattle.rp_decl.specs.declared.records.ClassDecl.{ClassDecl}
use Rattle.rp_decl.proofs.Positions.{position-map}
use Rattle.rp_decl.proofs.classes.Classes.place.Goals as goal

pub returns : goal.returns
returns c =
    let number = c.args.name.0 in
    rw (← c.self.view_is) (c.place.ensures
    ∙ ap (position (λ (name : Name). nat_eq number name.0)) c.self.invariant
    ∙ position-map (λ (name : Name). nat_eq number name.0) (λ (class : ClassDecl). class.name)
    c.self.inside.list.items)
