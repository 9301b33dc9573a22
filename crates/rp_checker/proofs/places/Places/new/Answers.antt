use Rattle.std.proofs.Common.{◌∙◌, ap, arith}
use Rattle.std.proofs.lemmas.List.{take_all}
use Rattle.std.specs.Map.{lookup}
use Rattle.rp_checker.specs.Lookup.{is_name}
use Rattle.rp_checker.proofs.Indexed.{class_place-none, place-more}
use Rattle.rp_checker.proofs.places.Places.new.Goals as goal

pub loop-name-init : goal.loop-name-init
loop-name-init c other = rw c.new.ensures.items (class_place-none other)

pub loop-name-preserved : goal.loop-name-preserved
loop-name-preserved c other = place-more c.loop-name.places c.add.new.self c.as_slice-name-items.result.now c.loop-name.name-index _ other (omega arith) (c.loop-name.invariant other) (c.in_ok-add.ensures other)

pub returns : goal.returns
returns c name = c.loop-name.invariant name ∙ ap (lookup (is_name name)) (take_all c.loop-name.name-index c.as_slice-name-items.result.now (omega arith) ∙ c.as_slice-name-items.ensures)
