use Rattle.std.proofs.Common.{[], ◌∷◌, arith}
use Rattle.rp_access.specs.Moment.{state_of}
use Rattle.rp_base.specs.declared.word.TheConstants.{DEL_ITEM}
use Rattle.rp_meaning.specs.Access as access
use Rattle.rp_meaning.specs.State.{done, next}
use Rattle.rp_meaning.specs.Statements as forms
use Rattle.rp_targets.proofs.Changed.{item_deleted_ends, item_deleted_gives}
use Rattle.rp_ops.specs.Outcome.{on_value}
use Rattle.rp_engine.proofs.Doings.{does_end, does_goes, does_moves}
use Rattle.rp_engine.proofs.Specials.{delete_left}
use Rattle.rp_engine.proofs.Worlds.{IsReady-goes}
use Rattle.rp_engine.specs.SpecialSteps.{special_called}
use Rattle.rp_engine.proofs.Weights as weights
use Rattle.rp_targets.proofs.deleting.del_item.Goals as goal

pub returns-in-Ok-Done-clause-law : goal.returns-in-Ok-Done-clause-law
returns-in-Ok-Done-clause-law c =
    let m = c.args.machine.now in
    let w = c.args.world.now in
    let u = c.del_item.new.world in
    let found = rw c.in-Ok-Done.field-0-is at c.in-Ok-Done.ensures.law in
    does_moves m c.go.new.self w u c.go.result (access.del_item c.args.o c.args.i) (forms.leave next) (item_deleted_gives m w u c.args.o c.args.i found) c.go.ensures.law

pub returns-in-Err-clause-law : goal.returns-in-Err-clause-law
returns-in-Err-clause-law c =
    let m = c.args.machine.now in
    let w = c.args.world.now in
    let u = c.del_item.new.world in
    does_end m c.cut_off.new.self w u c.cut_off.result (access.del_item c.args.o c.args.i) c.in-Err.end (item_deleted_ends m w u c.args.o c.args.i c.in-Err.end c.in-Err.ensures.law) c.cut_off.ensures.law

pub returns-in-Ok-Done-clause-ready : goal.returns-in-Ok-Done-clause-ready
returns-in-Ok-Done-clause-ready c =
    c.go.ensures.ready c.del_item.new.world (IsReady-goes _ _ _ c.args.world.now c.del_item.new.world c.requires.ready c.del_item.ensures.shape c.del_item.ensures.faithful)

pub returns-in-Err-clause-ready : goal.returns-in-Err-clause-ready
returns-in-Err-clause-ready c =
    c.cut_off.ensures.ready c.del_item.new.world (IsReady-goes _ _ _ c.args.world.now c.del_item.new.world c.requires.ready c.del_item.ensures.shape c.del_item.ensures.faithful)

pub returns-in-Ok-Special-clause-law : goal.returns-in-Ok-Special-clause-law
returns-in-Ok-Special-clause-law c =
    let m = c.args.machine.now in
    let w = c.args.world.now in
    let u = c.del_item.new.world in
    let left = c.in-Ok-Special.ensures.special c.in-Ok-Special.field-0-is in
    does_goes m c.delete_by_method.new.machine w u c.delete_by_method.result (access.del_item c.args.o c.args.i)
    (λ frame s. on_value (special_called DEL_ITEM c.args.o (c.args.i ∷ []) frame s) (λ v s. done s))
    (λ base. delete_left base m.units.now m.frame c.args.o c.args.i (state_of w) (state_of u) left) c.delete_by_method.ensures.law

pub returns-in-Ok-Special-clause-ready : goal.returns-in-Ok-Special-clause-ready
returns-in-Ok-Special-clause-ready c =
    let u = c.del_item.new.world in
    let side = c.args.machine.now.frame.side in
    let shape = c.del_item.ensures.shape in
    c.delete_by_method.ensures.ready u (IsReady-goes _ _ _ c.args.world.now u c.requires.ready shape c.del_item.ensures.faithful) (shape.fit side c.args.o c.requires.o) (shape.fit side c.args.i c.requires.i)

pub returns-in-Ok-Done-clause-less : goal.returns-in-Ok-Done-clause-less
returns-in-Ok-Done-clause-less c = grind (arith, weights.called_least)
