use Rattle.std.proofs.Common.{◌≡◌, Err, sym, ◌∙◌, rules}
use Rattle.rp_base.specs.declared.word.TheConstants.{DEL_ITEM}
use Rattle.rp_items.specs.Items as items
use Rattle.rp_meaning.specs.State.{plainly}
use Rattle.rp_access.proofs.Changed.{changed_plainly}
use Rattle.rp_access.proofs.Going.{IsEnd-same, IsEnd-then}
use Rattle.rp_access.specs.Moment.{state_of}
use Rattle.rp_access.specs.Parts.{asking}
use Rattle.rp_access.specs.declared.changing.Change.TheVariants as change
use Rattle.rp_access.proofs.changing.del_item.Goals as goal

pub returns-then-has_method-clause-special : goal.returns-then-has_method-clause-special
returns-then-has_method-clause-special c = λ _. (c.in_ok-ask.ensures.law, sym c.has_method.ensures.known ∙ c.if-has_method.true)

pub returns-in_err-ask-clause-law : goal.returns-in_err-ask-clause-law
returns-in_err-ask-clause-law c =
    let e : c.from_residual.result ≡ Err c.in_err-ask.field-0.0 = search rules in
    λ call. rw e (IsEnd-then c.in_err-ask.field-0.0 (state_of c.ask.new.world) (asking DEL_ITEM c.args.o.now (state_of c.args.world.now)) _ c.in_err-ask.ensures.law)

pub returns-in_err-drop_item-clause-law : goal.returns-in_err-drop_item-clause-law
returns-in_err-drop_item-clause-law c =
    let e : c.from_residual-in_err-drop_item.result ≡ Err c.in_err-drop_item.field-0.0 = search rules in
    λ call. rw e (IsEnd-same c.in_err-drop_item.field-0.0 (state_of c.drop_item.new.world) _ _
    (changed_plainly call c.args.o.now DEL_ITEM (plainly (items.del_item c.args.o.now c.args.key.now)) (state_of c.args.world.now) (state_of c.ask.new.world) c.in_ok-ask.ensures.law
    (c.has_method.ensures.none c.if-has_method.false)) c.in_err-drop_item.ensures.law)

pub returns-clause-law : goal.returns-clause-law
returns-clause-law c = λ call.
    changed_plainly call c.args.o.now DEL_ITEM (plainly (items.del_item c.args.o.now c.args.key.now)) (state_of c.args.world.now) (state_of c.ask.new.world) c.in_ok-ask.ensures.law
    (c.has_method.ensures.none c.if-has_method.false) ∙ c.in_ok-drop_item.ensures.law

pub returns-clause-special : goal.returns-clause-special
returns-clause-special c = λ h. let k : change.Done ≡ change.Special = h in absurd (cc)
