use Rattle.std.proofs.Common.{◌≡◌, Some, Err, rules}
use Rattle.rp_store.specs.Kept.{IsSound}
use Rattle.rp_access.specs.Moment.{state_of}
use Rattle.rp_access.specs.Reading.{attribute_asked}
use Rattle.rp_access.proofs.NamedReads.{default_comes, default_none, fit_sound, read_ends}
use Rattle.rp_access.proofs.named_attributes.attribute_or.Goals as goal

pub returns-in_err-name-clause-law : goal.returns-in_err-name-clause-law
returns-in_err-name-clause-law c =
    let e : c.from_residual.result ≡ Err c.in_err-name.field-0.0 = search rules in
    rw e (read_ends c.args.side c.args.o.now c.args.word.now c.args.world.now c.value_named.new.world c.value_named.new.world (Some c.args.default.now) c.in_err-name.field-0.0 c.in_err-name.ensures.law)

pub returns-in-Some-clause-law : goal.returns-in-Some-clause-law
returns-in-Some-clause-law c =
    let t = c.value_named.new.world in
    let u = c.get_attribute.new.world in
    let named = rw c.in-Some.is at c.in_ok-name.ensures.law in
    default_comes c.args.side c.args.o.now c.args.word.now c.args.world.now t u c.in-Some.name named c.args.default.now c.or_default.result
    (c.or_default.ensures.law (state_of u) (attribute_asked c.args.side c.args.o.now c.in-Some.name (state_of t)) c.get_attribute.ensures.law)

pub returns-in_ok-copy-in-None-clause-law : goal.returns-in_ok-copy-in-None-clause-law
returns-in_ok-copy-in-None-clause-law c =
    let t = c.value_named.new.world in
    let none = rw c.in-None.is at c.in_ok-name.ensures.law in
    default_none c.args.side c.args.o.now c.args.word.now c.args.world.now t t c.args.default.now _ none c.in_ok-copy-in-None.ensures

pub returns-in-Some-clause-sound : goal.returns-in-Some-clause-sound
returns-in-Some-clause-sound c =
    let d = c.args.default.now in
    let u = c.get_attribute.new.world in
    let sound : IsSound c.value_named.new.world.store.heap d = rw c.value_named.ensures.store c.requires.default in
    c.or_default.ensures.sound u.store.heap (fit_sound u.store.heap c.args.side c.get_attribute.result c.get_attribute.ensures.fit) (c.get_attribute.ensures.shape.sound d sound)

pub returns-in_ok-copy-in-None-clause-sound : goal.returns-in_ok-copy-in-None-clause-sound
returns-in_ok-copy-in-None-clause-sound c = rw (c.in_ok-copy-in-None.ensures, c.value_named.ensures.store) c.requires.default

pub get_attribute-requires-clause-sound : goal.get_attribute-requires-clause-sound
get_attribute-requires-clause-sound c = rw c.value_named.ensures.store c.requires.o
