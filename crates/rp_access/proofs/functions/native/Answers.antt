use Rattle.std.proofs.Common.{◌≡◌, Err, false, true, rules}
use Rattle.rp_access.specs.CallSteps.{is_form}
use Rattle.rp_access.proofs.NamedReads.{form_ends, form_gives}
use Rattle.rp_access.proofs.ObjectCalls.{native_comes}
use Rattle.rp_access.proofs.functions.native.Goals as goal

pub returns-in_err-form-clause-law : goal.returns-in_err-form-clause-law
returns-in_err-form-clause-law c =
    let form : is_form c.args.id ≡ true = search rules in
    let e : c.from_residual.result ≡ Err c.in_err-form.field-0.0 = search rules in
    rw e (form_ends c.args.side c.args.id c.args.args.now c.args.world.now c.form.new.world form c.in_err-form.field-0.0 c.in_err-form.ensures.law)

pub returns-then-is_form-clause-law : goal.returns-then-is_form-clause-law
returns-then-is_form-clause-law c =
    let form : is_form c.args.id ≡ true = search rules in
    form_gives c.args.side c.args.id c.args.args.now c.args.world.now c.form.new.world form _ c.in_ok-form.ensures.law

pub returns-clause-law : goal.returns-clause-law
returns-clause-law c =
    let other : is_form c.args.id ≡ false = search rules in
    native_comes c.args.side c.args.id c.args.args.now c.function.result c.args.world.now c.function.new.world other c.function.ensures.law
