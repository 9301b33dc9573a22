use Rattle.std.proofs.Common.{sym, ◌∙◌}
use Rattle.rp_base.specs.declared.value.Name.{Name}
use Rattle.rp_scope.specs.Scopes.{locals_of}
use Rattle.rp_world.specs.PlacingSteps.{global_value}
use Rattle.rp_world.proofs.Missing.{bound-step, unbound-step}
use Rattle.rp_world.proofs.exposure.least_unbound.Goals.{then-not-is_bound, else-not-is_bound}
use Rattle.rp_world.proofs.exposure.least_unbound.Goals as goal

pub loop-name-preserved : goal.loop-name-preserved
loop-name-preserved c =
    let names = c.args.names.now in
    let value = global_value (locals_of c.args.layouts.now 0) c.args.globals c.args.store.now.heap in
    let xs = c.expose-name-items.result.now in
    let i = c.loop-name.name-index in
    let first : Name = record { 0 = 0 } in
    let bound = c.is_bound.ensures in
    elim c.if-not-is_bound.branch [
      | then-not-is_bound w ↦
          rw w.least-is (record {
            found = unbound-step names value c.loop-name.least w.lesser.result xs i first c.loop-name-test.true (sym bound ∙ w.if-not-is_bound.true) w.lesser.ensures.lesser ∙ c.loop-name.invariant.found;
            held = w.lesser.ensures.held;
          })
      | else-not-is_bound w ↦
          rw w.least-is (record {
            found = bound-step names value c.loop-name.least xs i first c.loop-name-test.true (sym bound ∙ w.if-not-is_bound.false) ∙ c.loop-name.invariant.found;
            held = c.loop-name.invariant.held;
          })
    ]
