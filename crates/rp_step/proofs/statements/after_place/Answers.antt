use Rattle.std.proofs.Common.{ap}
use Rattle.rp_ops.specs.Outcome.{gives}
use Rattle.rp_engine.proofs.Doings.{held_as}
use Rattle.rp_engine.specs.Law.{frame_in}
use Rattle.rp_access.specs.Moment.{state_of}
use Rattle.rp_engine.specs.Rest.{after_stmt}
use Rattle.rp_frame.specs.declared.task.StmtTask.TheVariants as stmt
use Rattle.rp_step.proofs.statements.after_place.Goals as goal

pub returns-in-StoreAttr-clause-law : goal.returns-in-StoreAttr-clause-law
returns-in-StoreAttr-clause-law c =
    let m = c.args.machine.now in
    let w = c.args.world.now in
    held_as m c.after_object.new.machine c.after_object.new.world c.after_object.result (λ base. after_stmt c.args.task (frame_in base m) m.values (gives c.args.value (state_of w)))
    (λ base. after_stmt (stmt.StoreAttr c.in-StoreAttr.name) (frame_in base m) m.values (gives c.args.value (state_of w)))
    (λ base. ap (λ t. after_stmt t (frame_in base m) m.values (gives c.args.value (state_of w))) c.in-StoreAttr.is) c.after_object.ensures.law

pub returns-in-StoreItem-clause-law : goal.returns-in-StoreItem-clause-law
returns-in-StoreItem-clause-law c =
    let m = c.args.machine.now in
    let w = c.args.world.now in
    held_as m c.after_container.new.machine c.after_container.new.world c.after_container.result (λ base. after_stmt c.args.task (frame_in base m) m.values (gives c.args.value (state_of w)))
    (λ base. after_stmt (stmt.StoreItem c.in-StoreItem.key) (frame_in base m) m.values (gives c.args.value (state_of w)))
    (λ base. ap (λ t. after_stmt t (frame_in base m) m.values (gives c.args.value (state_of w))) c.in-StoreItem.is) c.after_container.ensures.law

pub returns-in-StoreKey-clause-law : goal.returns-in-StoreKey-clause-law
returns-in-StoreKey-clause-law c =
    let m = c.args.machine.now in
    let w = c.args.world.now in
    held_as m c.after_store_key.new.machine c.after_store_key.new.world c.after_store_key.result (λ base. after_stmt c.args.task (frame_in base m) m.values (gives c.args.value (state_of w)))
    (λ base. after_stmt stmt.StoreKey (frame_in base m) m.values (gives c.args.value (state_of w)))
    (λ base. ap (λ t. after_stmt t (frame_in base m) m.values (gives c.args.value (state_of w))) c.in-StoreKey.is) c.after_store_key.ensures.law

pub returns-in-DeleteAttr-clause-law : goal.returns-in-DeleteAttr-clause-law
returns-in-DeleteAttr-clause-law c =
    let m = c.args.machine.now in
    let w = c.args.world.now in
    held_as m c.del_attribute.new.machine c.del_attribute.new.world c.del_attribute.result (λ base. after_stmt c.args.task (frame_in base m) m.values (gives c.args.value (state_of w)))
    (λ base. after_stmt (stmt.DeleteAttr c.in-DeleteAttr.name) (frame_in base m) m.values (gives c.args.value (state_of w)))
    (λ base. ap (λ t. after_stmt t (frame_in base m) m.values (gives c.args.value (state_of w))) c.in-DeleteAttr.is) c.del_attribute.ensures.law

pub returns-in-DeleteItem-clause-law : goal.returns-in-DeleteItem-clause-law
returns-in-DeleteItem-clause-law c =
    let m = c.args.machine.now in
    let w = c.args.world.now in
    held_as m c.delete_key.new.machine c.delete_key.new.world c.delete_key.result (λ base. after_stmt c.args.task (frame_in base m) m.values (gives c.args.value (state_of w)))
    (λ base. after_stmt (stmt.DeleteItem c.in-DeleteItem.key) (frame_in base m) m.values (gives c.args.value (state_of w)))
    (λ base. ap (λ t. after_stmt t (frame_in base m) m.values (gives c.args.value (state_of w))) c.in-DeleteItem.is) c.delete_key.ensures.law

pub returns-in-DeleteKey-clause-law : goal.returns-in-DeleteKey-clause-law
returns-in-DeleteKey-clause-law c =
    let m = c.args.machine.now in
    let w = c.args.world.now in
    held_as m c.after_deleted_key.new.machine c.after_deleted_key.new.world c.after_deleted_key.result (λ base. after_stmt c.args.task (frame_in base m) m.values (gives c.args.value (state_of w)))
    (λ base. after_stmt stmt.DeleteKey (frame_in base m) m.values (gives c.args.value (state_of w)))
    (λ base. ap (λ t. after_stmt t (frame_in base m) m.values (gives c.args.value (state_of w))) c.in-DeleteKey.is) c.after_deleted_key.ensures.law

pub returns-in-AugmentName-clause-law : goal.returns-in-AugmentName-clause-law
returns-in-AugmentName-clause-law c =
    let m = c.args.machine.now in
    let w = c.args.world.now in
    held_as m c.after_augment.new.machine c.after_augment.new.world c.after_augment.result (λ base. after_stmt c.args.task (frame_in base m) m.values (gives c.args.value (state_of w)))
    (λ base. after_stmt (stmt.AugmentName c.in-AugmentName.name c.in-AugmentName.op) (frame_in base m) m.values (gives c.args.value (state_of w)))
    (λ base. ap (λ t. after_stmt t (frame_in base m) m.values (gives c.args.value (state_of w))) c.in-AugmentName.is) c.after_augment.ensures.law

pub returns-in-AugmentAttr-clause-law : goal.returns-in-AugmentAttr-clause-law
returns-in-AugmentAttr-clause-law c =
    let m = c.args.machine.now in
    let w = c.args.world.now in
    held_as m c.augment_read.new.machine c.augment_read.new.world c.augment_read.result (λ base. after_stmt c.args.task (frame_in base m) m.values (gives c.args.value (state_of w)))
    (λ base. after_stmt (stmt.AugmentAttr c.in-AugmentAttr.name c.in-AugmentAttr.op c.in-AugmentAttr.x) (frame_in base m) m.values (gives c.args.value (state_of w)))
    (λ base. ap (λ t. after_stmt t (frame_in base m) m.values (gives c.args.value (state_of w))) c.in-AugmentAttr.is) c.augment_read.ensures.law

pub returns-in-AugmentedAttr-clause-law : goal.returns-in-AugmentedAttr-clause-law
returns-in-AugmentedAttr-clause-law c =
    let m = c.args.machine.now in
    let w = c.args.world.now in
    held_as m c.after_attribute.new.machine c.after_attribute.new.world c.after_attribute.result (λ base. after_stmt c.args.task (frame_in base m) m.values (gives c.args.value (state_of w)))
    (λ base. after_stmt (stmt.AugmentedAttr c.in-AugmentedAttr.name c.in-AugmentedAttr.op) (frame_in base m) m.values (gives c.args.value (state_of w)))
    (λ base. ap (λ t. after_stmt t (frame_in base m) m.values (gives c.args.value (state_of w))) c.in-AugmentedAttr.is) c.after_attribute.ensures.law

pub returns-in-AugmentItem-clause-law : goal.returns-in-AugmentItem-clause-law
returns-in-AugmentItem-clause-law c =
    let m = c.args.machine.now in
    let w = c.args.world.now in
    held_as m c.augment_key.new.machine c.augment_key.new.world c.augment_key.result (λ base. after_stmt c.args.task (frame_in base m) m.values (gives c.args.value (state_of w)))
    (λ base. after_stmt (stmt.AugmentItem c.in-AugmentItem.key c.in-AugmentItem.op c.in-AugmentItem.x) (frame_in base m) m.values (gives c.args.value (state_of w)))
    (λ base. ap (λ t. after_stmt t (frame_in base m) m.values (gives c.args.value (state_of w))) c.in-AugmentItem.is) c.augment_key.ensures.law

pub returns-in-AugmentKey-clause-law : goal.returns-in-AugmentKey-clause-law
returns-in-AugmentKey-clause-law c =
    let m = c.args.machine.now in
    let w = c.args.world.now in
    held_as m c.after_augmented_key.new.machine c.after_augmented_key.new.world c.after_augmented_key.result (λ base. after_stmt c.args.task (frame_in base m) m.values (gives c.args.value (state_of w)))
    (λ base. after_stmt (stmt.AugmentKey c.in-AugmentKey.op c.in-AugmentKey.x) (frame_in base m) m.values (gives c.args.value (state_of w)))
    (λ base. ap (λ t. after_stmt t (frame_in base m) m.values (gives c.args.value (state_of w))) c.in-AugmentKey.is) c.after_augmented_key.ensures.law

pub returns-in-AugmentGot-clause-law : goal.returns-in-AugmentGot-clause-law
returns-in-AugmentGot-clause-law c =
    let m = c.args.machine.now in
    let w = c.args.world.now in
    held_as m c.after_got.new.machine c.after_got.new.world c.after_got.result (λ base. after_stmt c.args.task (frame_in base m) m.values (gives c.args.value (state_of w)))
    (λ base. after_stmt (stmt.AugmentGot c.in-AugmentGot.op c.in-AugmentGot.x) (frame_in base m) m.values (gives c.args.value (state_of w)))
    (λ base. ap (λ t. after_stmt t (frame_in base m) m.values (gives c.args.value (state_of w))) c.in-AugmentGot.is) c.after_got.ensures.law

pub returns-in-AugmentedItem-clause-law : goal.returns-in-AugmentedItem-clause-law
returns-in-AugmentedItem-clause-law c =
    let m = c.args.machine.now in
    let w = c.args.world.now in
    held_as m c.after_augmented_item.new.machine c.after_augmented_item.new.world c.after_augmented_item.result (λ base. after_stmt c.args.task (frame_in base m) m.values (gives c.args.value (state_of w)))
    (λ base. after_stmt (stmt.AugmentedItem c.in-AugmentedItem.op) (frame_in base m) m.values (gives c.args.value (state_of w)))
    (λ base. ap (λ t. after_stmt t (frame_in base m) m.values (gives c.args.value (state_of w))) c.in-AugmentedItem.is) c.after_augmented_item.ensures.law
