use Rattle.std.proofs.Common.{◌≡◌, ◌<◌, ℕ, List, get_or, length, subst}
use Rattle.rp_base.specs.declared.value.Name.{Name}
use Rattle.rp_decl.specs.FirstPlaces.{first_place}
use Rattle.rp_decl.proofs.FirstNoted.{are_first}
use Rattle.rp_decl.proofs.name_table.NameTable.new.Goals as goal

pub invariant_of-result : goal.invariant_of-result
invariant_of-result c =
    let places = c.in_ok-places.places.items in
    let below = c.args.below in
    are_first c.args.names.items places below c.requires c.in_ok-places.ensures.as_many
    (subst (λ (names : List Name). (number : ℕ) → number < below
    → get_or places number (length names) ≡ first_place number names) c.as_slice.ensures.value
    c.in_ok-places.ensures.first)
