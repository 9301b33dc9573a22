use Rattle.std.proofs.Common.{◌≡◌, ◌∙◌, ◌<◌, List, ap, map, subst, sym}
use Rattle.std.specs.List.{All}
use Rattle.std.proofs.lemmas.List.Elements.{All-map}
use Rattle.rp_base.specs.declared.value.Name.{Name}
use Rattle.rp_decl.specs.declared.records.ClassDecl.{ClassDecl}
use Rattle.rp_decl.proofs.classes.Classes.new.Goals as goal

pub new-requires : goal.new-requires
new-requires c =
    let named : c.in_ok-names.names.items ≡ map (λ (class : ClassDecl). class.name) c.args.list.items =
    c.in_ok-names.ensures ∙ ap (map (λ (class : ClassDecl). class.name)) c.as_slice.ensures.value in
    subst (λ (names : List Name). All (λ (name : Name). name.0 < c.args.below) names) (sym named)
    (All-map (λ (name : Name). name.0 < c.args.below) (λ (class : ClassDecl). class.name) c.args.list.items c.requires)

pub invariant_of-result : goal.invariant_of-result
invariant_of-result c =
    c.in_ok-names-2.ensures ∙ c.in_ok-names.ensures
    ∙ ap (map (λ (class : ClassDecl). class.name)) c.as_slice.ensures.value
