use Rattle.std.proofs.Common.{chars}
use Rattle.rp_program.specs.Fault.{fault_text}
use Rattle.rp_script.proofs.Lines.{line_added}
use Rattle.rp_script.proofs.refusal.add_fault_line.Goals as goal

pub returns : goal.returns
returns c =
    line_added c.add-2.result c.add-2.new.self c.add_fault.new.text c.add.new.self c.args.text.now (chars c.args.prefix.now) (fault_text c.args.fault)
    c.in_ok-add.ensures.added c.in_ok-add_fault.ensures c.add-2.ensures.added
