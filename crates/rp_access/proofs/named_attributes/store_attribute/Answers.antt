use Rattle.std.proofs.Common.{◌≡◌, Err, codes, rules}
use Rattle.std.specs.Str.{chars}
use Rattle.rp_base.specs.declared.kind.Kind.TheVariants.{AttributeError}
use Rattle.rp_ops.specs.Outcome.{Raises}
use Rattle.rp_access.specs.Moment.{state_of}
use Rattle.rp_access.proofs.NamedReads.{no_identifier_end, set_ends, set_gives, store_ends, store_none}
use Rattle.rp_access.proofs.named_attributes.store_attribute.Goals as goal

pub returns-in_err-name-clause-law : goal.returns-in_err-name-clause-law
returns-in_err-name-clause-law c =
    let e : c.from_residual.result ≡ Err c.in_err-name.field-0.0 = search rules in
    rw e (store_ends c.args.o.now c.args.word.now c.args.value.now c.args.world.now c.value_named.new.world c.value_named.new.world c.in_err-name.field-0.0 c.in_err-name.ensures.law)

pub returns-in_err-set_attribute-in-Some-clause-law : goal.returns-in_err-set_attribute-in-Some-clause-law
returns-in_err-set_attribute-in-Some-clause-law c =
    let e : c.from_residual-in_err-set_attribute-in-Some.result ≡ Err c.in_err-set_attribute-in-Some.field-0.0 = search rules in
    let named = rw c.in-Some.is at c.in_ok-name.ensures.law in
    rw e (set_ends c.args.o.now c.args.word.now c.args.value.now c.args.world.now c.value_named.new.world c.set_attribute.new.world c.in-Some.name named
    _ c.in_ok-copy-in-Some.ensures c.in_err-set_attribute-in-Some.field-0.0 c.in_err-set_attribute-in-Some.ensures.law)

pub returns-in_ok-set_attribute-in-Some-clause-law : goal.returns-in_ok-set_attribute-in-Some-clause-law
returns-in_ok-set_attribute-in-Some-clause-law c =
    let named = rw c.in-Some.is at c.in_ok-name.ensures.law in
    set_gives c.args.o.now c.args.word.now c.args.value.now c.args.world.now c.value_named.new.world c.set_attribute.new.world c.in-Some.name named
    _ c.in_ok-copy-in-Some.ensures c.in_ok-set_attribute-in-Some.ensures.law

pub returns-in-None-clause-law : goal.returns-in-None-clause-law
unfolding chars
returns-in-None-clause-law c =
    let t = c.value_named.new.world in
    let none = rw c.in-None.is at c.in_ok-name.ensures.law in
    let h : Raises c.raised.result (record { kind = AttributeError; text = codes "name" }) = c.raised.ensures in
    store_none c.args.o.now c.args.word.now c.args.value.now c.args.world.now t t c.raised.result none (no_identifier_end c.raised.result (state_of t) h)

pub set_attribute-requires-clause-o : goal.set_attribute-requires-clause-o
set_attribute-requires-clause-o c = rw c.value_named.ensures.store c.requires.o

pub set_attribute-requires-clause-value : goal.set_attribute-requires-clause-value
set_attribute-requires-clause-value c = rw (c.in_ok-copy-in-Some.ensures, c.value_named.ensures.store) c.requires.value
