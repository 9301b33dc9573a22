use Rattle.std.proofs.Common.{◌∙◌, ◌<◌, get_or, length, refl, sym, arith}
use Rattle.rp_decl.proofs.FirstNoted.{noted-end, noted-start, noted-step}
use Rattle.rp_decl.proofs.name_table.note_all.Goals as goal

pub loop-place-init : goal.loop-place-init
loop-place-init c = record {
  within = omega arith;
  as_many = refl;
  noted = λ number inside.
      noted-start number c.args.names.now (get_or c.args.places.now number (length c.args.names.now))
      (c.requires number inside);
}

pub loop-place-preserved : goal.loop-place-preserved
loop-place-preserved c =
    let names = c.args.names.now in
    let at = c.loop-place in
    let inside = c.loop-place-test.true in
    let as_many = at.invariant.as_many in
    record {
      within = omega arith;
      as_many = c.note.ensures.as_many ∙ as_many;
      noted = λ number here.
          let old = get_or at.places number (length names) in
          let there : number < length at.places = omega (arith, here, as_many) in
          noted-step number names at.place _ inside old (get_or c.note.new.places number (length names))
          (c.note.ensures.noted number there)
          ∙ at.invariant.noted number here;
    }

pub returns-clause-first : goal.returns-clause-first
returns-clause-first c = λ number inside.
    let names = c.args.names.now in
    let at = c.loop-place in
    sym (noted-end number names at.place (get_or at.places number (length names)) c.loop-place-test.false
    at.invariant.within)
    ∙ at.invariant.noted number inside
