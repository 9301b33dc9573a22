use Rattle.std.proofs.Common.{◌≡◌, Err, rules}
use Rattle.rp_access.specs.Moment.{state_of}
use Rattle.rp_access.proofs.FunctionLaws.{printing_ends, printing_gives}
use Rattle.rp_access.proofs.functions.print.Goals as goal

pub returns-in_err-line-clause-law : goal.returns-in_err-line-clause-law
returns-in_err-line-clause-law c =
    let e : c.from_residual.result ≡ Err c.in_err-line.field-0.0 = search rules in
    rw e (printing_ends c.args.args.now (state_of c.args.world.now) (state_of c.print_line.new.world) (state_of c.print_line.new.world) c.in_err-line.field-0.0 c.in_err-line.ensures.law)

pub returns-clause-law : goal.returns-clause-law
returns-clause-law c =
    printing_gives c.args.args.now (state_of c.args.world.now) (state_of c.print_line.new.world) (state_of c.put_line.new.world) c.in_ok-line.line c.in_ok-line.ensures.law c.in_ok-put_line.ensures.put
