use Rattle.std.proofs.Common.{◌≢◌, ◌∙◌, ap, sym}
use Rattle.rp_base.specs.Names.{word_of}
use Rattle.rp_base.specs.declared.value.Side.{Side}
use Rattle.rp_decl.specs.View.{declarations_view}
use Rattle.rp_access.proofs.DeclaredClasses.{declared_here, declared_in, declared_of_side, if_any, placed_by}
use Rattle.rp_access.proofs.declared_classes.declared_place.Goals as goal

pub returns-then-side-ne0-clause-place : goal.returns-then-side-ne0-clause-place
returns-then-side-ne0-clause-place c = λ frame side block.
    let w = c.args.world.now in
    let other : frame.side.0 ≢ 0 = λ h. c.if-side-ne0.true (ap (λ (s : Side). s.0) (sym side) ∙ h) in
    declared_of_side frame (word_of w.names c.args.name) (declarations_view w.names w.decl).classes other

pub returns-then-block-ne0-clause-place : goal.returns-then-block-ne0-clause-place
returns-then-block-ne0-clause-place c = λ frame side block.
    let w = c.args.world.now in
    let other : frame.block ≢ 0 = λ h. c.if-block-ne0.true (sym block ∙ h) in
    declared_in frame (word_of w.names c.args.name) (declarations_view w.names w.decl).classes other

pub returns-clause-place : goal.returns-clause-place
returns-clause-place c = λ frame side block.
    let w = c.args.world.now in
    let word = word_of w.names c.args.name in
    c.class_among.ensures
    ∙ placed_by w.names w.decl.permissions word w.decl.classes
    ∙ declared_here frame word (declarations_view w.names w.decl).classes (ap (λ (s : Side). s.0) side ∙ c.if-side-ne0.false) (block ∙ c.if-block-ne0.false)

pub returns-clause-trusted : goal.returns-clause-trusted
returns-clause-trusted c = if_any c.class_among.result _ c.if-side-ne0.false
