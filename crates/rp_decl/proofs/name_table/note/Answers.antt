use Rattle.std.proofs.Common.{◌∙◌, get_or, length, nat_eq, nat_lt, sym}
use Rattle.std.proofs.lemmas.Bool.{and_parts, ltb-true}
use Rattle.rp_decl.proofs.FirstNoted.{noted-not, noted-there}
use Rattle.rp_decl.proofs.name_table.note.Goals as goal

pub returns-then-not-is_free-clause-noted : goal.returns-then-not-is_free-clause-noted
returns-then-not-is_free-clause-noted c = λ other inside.
    noted-not c.args.places.now c.args.number c.args.place c.args.none other inside
    (sym c.is_free.ensures ∙ c.if-not-is_free.true)

pub bounds-places-number : goal.bounds-places-number
bounds-places-number c =
    let places = c.args.places.now in
    let number = c.args.number in
    ltb-true number (length places) (and_parts (nat_lt number (length places))
    (nat_eq (get_or places number c.args.none) c.args.none) (sym c.is_free.ensures ∙ c.if-not-is_free.false)).0

pub returns-clause-noted : goal.returns-clause-noted
returns-clause-noted c = λ other inside.
    noted-there c.args.places.now c.args.number c.args.place c.args.none other inside
    (sym c.is_free.ensures ∙ c.if-not-is_free.false)
