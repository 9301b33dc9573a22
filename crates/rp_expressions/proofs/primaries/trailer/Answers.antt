use Rattle.std.proofs.Common.{sym}
use Rattle.rp_meaning.specs.Expressions as forms
use Rattle.rp_expressions.proofs.CallEquations.{trailer_call}
use Rattle.rp_engine.proofs.FormEquations.{trailer_attr, trailer_item, trailer_slice}
use Rattle.rp_engine.proofs.Moves.{as_ok}
use Rattle.rp_expressions.proofs.Trailing.{item_stepped}
use Rattle.rp_engine.specs.Does as does
use Rattle.rp_engine.specs.ExpressionSteps.{step_to}
use Rattle.rp_engine.specs.TrailerSteps.{next_trailer, with_item}
use Rattle.rp_engine.specs.Law.{frame_in}
use Rattle.rp_access.specs.Moment.{state_of}
use Rattle.rp_expressions.proofs.primaries.trailer.Goals as goal

pub returns-in-Attr-clause-law : goal.returns-in-Attr-clause-law
returns-in-Attr-clause-law c = rw (c.in-Attr.is, trailer_attr) (c.attribute.ensures.law)

pub returns-in-Item-clause-law : goal.returns-in-Item-clause-law
returns-in-Item-clause-law c =
    let m = c.args.machine.now in
    let w = c.args.world.now in
    let ts = does.trailers c.args.rest.now in
    let v = c.args.value in
    let x = does.expr c.in-Item.key in
    rw (c.in-Item.is, trailer_item)
    (as_ok m c.item.new.machine w c.item.new.world c.item.result (next_trailer (forms.item x) ts v) (step_to x (with_item v ts)) w
    (λ base. item_stepped ts v (frame_in base m) (state_of w) x) c.item.ensures.law)

pub returns-in-Call-clause-law : goal.returns-in-Call-clause-law
returns-in-Call-clause-law c = rw (c.in-Call.is, trailer_call, sym c.deref.ensures.value) c.begin_call.ensures.law

pub returns-in-Slice-clause-law : goal.returns-in-Slice-clause-law
returns-in-Slice-clause-law c = rw (c.in-Slice.is, trailer_slice, sym c.deref-in-Slice.ensures) c.sliced.ensures.law
