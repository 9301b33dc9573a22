use Rattle.std.proofs.Common.{arith, string_bytes}
use Rattle.rp_gen.specs.Large.{object_lines}
use Rattle.rp_gen.proofs.Lines.{one_more}
use Rattle.rp_gen.proofs.input.add_objects.Goals as goal

pub objects-preserved : goal.objects-preserved
objects-preserved c =
    one_more object_lines 0 c.objects.i c.objects.i (string_bytes c.args.text.now) (string_bytes c.objects.text)
    (string_bytes c.add_object.new.text) (omega arith) c.objects.invariant
    c.in_ok-add_object.ensures
