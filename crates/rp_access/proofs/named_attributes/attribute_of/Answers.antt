use Rattle.std.proofs.Common.{◌≡◌, None, Err, codes, rules}
use Rattle.std.specs.Str.{chars}
use Rattle.rp_base.specs.declared.kind.Kind.TheVariants.{AttributeError}
use Rattle.rp_ops.specs.Outcome.{Raises}
use Rattle.rp_access.specs.Moment.{state_of}
use Rattle.rp_access.proofs.NamedReads.{fit_sound, no_identifier_end, read_comes, read_ends, read_none}
use Rattle.rp_access.proofs.named_attributes.attribute_of.Goals as goal

pub returns-in_err-name-clause-law : goal.returns-in_err-name-clause-law
returns-in_err-name-clause-law c =
    let e : c.from_residual.result ≡ Err c.in_err-name.field-0.0 = search rules in
    rw e (read_ends c.args.side c.args.o.now c.args.word.now c.args.world.now c.value_named.new.world c.value_named.new.world None c.in_err-name.field-0.0 c.in_err-name.ensures.law)

pub returns-in-Some-clause-law : goal.returns-in-Some-clause-law
returns-in-Some-clause-law c =
    let named = rw c.in-Some.is at c.in_ok-name.ensures.law in
    read_comes c.args.side c.args.o.now c.args.word.now c.args.world.now c.value_named.new.world c.get_attribute.new.world c.in-Some.name named c.get_attribute.result c.get_attribute.ensures.law

pub returns-in-None-clause-law : goal.returns-in-None-clause-law
unfolding chars
returns-in-None-clause-law c =
    let t = c.value_named.new.world in
    let none = rw c.in-None.is at c.in_ok-name.ensures.law in
    let h : Raises c.raised.result (record { kind = AttributeError; text = codes "name" }) = c.raised.ensures in
    read_none c.args.side c.args.o.now c.args.word.now c.args.world.now t t c.raised.result none (no_identifier_end c.raised.result (state_of t) h)

pub returns-in-Some-clause-sound : goal.returns-in-Some-clause-sound
returns-in-Some-clause-sound c = fit_sound c.get_attribute.new.world.store.heap c.args.side c.get_attribute.result c.get_attribute.ensures.fit

pub get_attribute-requires-clause-sound : goal.get_attribute-requires-clause-sound
get_attribute-requires-clause-sound c = rw c.value_named.ensures.store c.requires.sound
