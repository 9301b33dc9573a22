use Rattle.std.proofs.Common.{◌∙◌, ap, get_or, length, nat_eq}
use Rattle.rp_base.specs.declared.value.Name.{Name}
use Rattle.rp_decl.proofs.FirstNoted.{place-found}
use Rattle.rp_decl.proofs.name_table.NameTable.place.Goals as goal

pub returns : goal.returns
returns c =
    let names = c.as_slice-names in
    let places = c.as_slice-places in
    let number = c.args.name.0 in
    let found =
    c.place_at-place.ensures
    ∙ (λ i. get_or (places.ensures.value i) number (length (names.ensures.value i)))
    ∙ c.self.invariant.each c.args.name in
    rw (← c.self.view_is) (c.if_below.ensures
    ∙ place-found (λ (other : Name). nat_eq number other.0) c.self.inside.names.items (length names.result.now)
    c.place_at-place.result (ap length names.ensures.value) found)
