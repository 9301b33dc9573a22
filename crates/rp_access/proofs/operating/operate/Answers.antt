use Rattle.std.proofs.Common.{◌≡◌, Err, rules}
use Rattle.rp_access.specs.Moment.{state_of}
use Rattle.rp_access.proofs.Operands.{operated_ends}
use Rattle.rp_access.proofs.operating.operate.Goals as goal

pub returns-in_err-value-clause-law : goal.returns-in_err-value-clause-law
returns-in_err-value-clause-law c =
    let e : c.from_residual-in_err-value.result ≡ Err c.in_err-value.field-0.0 = search rules in
    rw e (operated_ends c.args.side c.args.op c.args.a.now c.args.b.now (state_of c.args.world.now) (state_of c.ask.new.world) (state_of c.ask-2.new.world) (state_of c.binary.new.world) _ _ c.in_err-value.field-0.0
    c.left_name.ensures c.right_name.ensures c.in_ok-ask.ensures.law c.in_ok-ask-2.ensures.law c.in_err-value.ensures.law)
