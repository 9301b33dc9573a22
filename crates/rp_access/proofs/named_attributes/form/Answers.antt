use Rattle.std.proofs.Common.{◌≡◌, Err, rules}
use Rattle.rp_base.specs.declared.native.NativeId.TheVariants.{GetAttr, SetAttr}
use Rattle.rp_access.proofs.NamedReads.{set_attr_is, taken_ends, taken_gives}
use Rattle.rp_access.proofs.named_attributes.form.Goals as goal

pub returns-in_err-value-in-GetAttr-clause-law : goal.returns-in_err-value-in-GetAttr-clause-law
returns-in_err-value-in-GetAttr-clause-law c =
    let end = c.in_err-value-in-GetAttr.field-0.0 in
    let e : c.from_residual.result ≡ Err end = search rules in
    rw e (taken_ends c.args.side c.args.id GetAttr c.in-GetAttr.is c.args.args.now c.args.world.now c.read.new.world end c.in_err-value-in-GetAttr.ensures.law)

pub returns-in_ok-value-in-GetAttr-clause-law : goal.returns-in_ok-value-in-GetAttr-clause-law
returns-in_ok-value-in-GetAttr-clause-law c =
    taken_gives c.args.side c.args.id GetAttr c.in-GetAttr.is c.args.args.now c.args.world.now c.read.new.world c.in_ok-value-in-GetAttr.value c.taken.result
    c.in_ok-value-in-GetAttr.ensures.law c.taken.ensures.value

pub returns-in_err-value-in_default-clause-law : goal.returns-in_err-value-in_default-clause-law
returns-in_err-value-in_default-clause-law c =
    let end = c.in_err-value-in_default.field-0.0 in
    let e : c.from_residual-in_err-value-in_default.result ≡ Err end = search rules in
    let other = set_attr_is c.args.id c.requires.form c.in_default.not-GetAttr in
    rw e (taken_ends c.args.side c.args.id SetAttr other c.args.args.now c.args.world.now c.store.new.world end (c.in_err-value-in_default.ensures.law c.args.side))

pub returns-in_ok-value-in_default-clause-law : goal.returns-in_ok-value-in_default-clause-law
returns-in_ok-value-in_default-clause-law c =
    let other = set_attr_is c.args.id c.requires.form c.in_default.not-GetAttr in
    taken_gives c.args.side c.args.id SetAttr other c.args.args.now c.args.world.now c.store.new.world c.in_ok-value-in_default.value c.taken-in_default.result
    (c.in_ok-value-in_default.ensures.law c.args.side) c.taken-in_default.ensures.value
