use Rattle.std.proofs.Common.{codes, length}
use Rattle.std.specs.Fmt.{decimal}
use Rattle.rp_run.proofs.LargeSteps.{lines-made}
use Rattle.rp_run.specs.Output.{number_line}
use Rattle.rp_run.proofs.large.input_lines.Goals as goal

pub returns : goal.returns
returns c =
    lines-made c.new-text.result c.add_line.new.text c.add_ascii.new.text c.add_number.new.text c.add_line-2.new.text
    (number_line (codes "large ") c.args.size) (codes "bytes ") (decimal (length c.args.declarations.now))
    (number_line (codes " ") (length c.args.script.now)) c.new-text.ensures c.in_ok-add_line.ensures
    c.in_ok-add_ascii.ensures c.in_ok-add_number.ensures c.in_ok-add_line-2.ensures
