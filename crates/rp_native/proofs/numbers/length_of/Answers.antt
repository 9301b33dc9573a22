use Rattle.std.proofs.Common.{◌∙◌, ap, sym}
use Rattle.rp_native.specs.Numbers.{length_of}
use Rattle.rp_native.proofs.numbers.length_of.Goals as goal

pub returns-in-Rock : goal.returns-in-Rock
returns-in-Rock c = c.text_length.ensures c.args.store.now.heap ∙ ap (length_of c.args.store.now.heap) (sym c.in-Rock.is)
