use Rattle.std.proofs.Common.{◌≡◌, Err, ap, ◌∙◌, rules}
use Rattle.rp_proxy.specs.Taken.{taken}
use Rattle.rp_access.proofs.Decided.{attribute_ends, attribute_gives}
use Rattle.rp_access.proofs.Going.{IsEnd-then}
use Rattle.rp_access.specs.Moment.{state_of}
use Rattle.rp_access.specs.Parts.{asking}
use Rattle.rp_access.proofs.access.get_attribute.Goals as goal

pub returns-in_err-ask-clause-law : goal.returns-in_err-ask-clause-law
returns-in_err-ask-clause-law c =
    let e : c.from_residual.result ≡ Err c.in_err-ask.field-0.0 = search rules in
    rw e (IsEnd-then c.in_err-ask.field-0.0 (state_of c.ask.new.world) (asking c.args.name c.args.o.now (state_of c.args.world.now)) _ c.in_err-ask.ensures.law)

pub returns-in_err-value-clause-law : goal.returns-in_err-value-clause-law
returns-in_err-value-clause-law c =
    let e : c.from_residual-in_err-value.result ≡ Err c.in_err-value.field-0.0 = search rules in
    rw e (attribute_ends c.args.side c.args.o.now c.args.name (state_of c.args.world.now) (state_of c.ask.new.world)
    c.in_ok-ask.ensures.law c.in_err-value.field-0.0 (state_of c.attribute.new.world) c.in_err-value.ensures.law)

pub returns-clause-law : goal.returns-clause-law
returns-clause-law c =
    attribute_gives c.args.side c.args.o.now c.args.name (state_of c.args.world.now) (state_of c.ask.new.world)
    c.in_ok-ask.ensures.law c.in_ok-value.value c.taken.result (state_of c.attribute.new.world) c.in_ok-value.ensures.law
    (c.taken.ensures.value ∙ ap (taken c.attribute.new.world.store.heap c.args.side) c.through.ensures)
