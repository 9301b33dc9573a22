use Rattle.std.proofs.Common.{◌≡◌, ◌<◌, ◌≤◌, length, get_or, Option, sym, ap, ◌∙◌, arith}
use Rattle.rp_base.specs.declared.value.Name.{Name}
use Rattle.rp_base.specs.declared.value.Value.{Value}
use Rattle.rp_meaning.specs.Load.{trusted}
use Rattle.rp_scope.specs.Scopes.{locals_of}
use Rattle.rp_world.specs.PlacingSteps.{first, global_value}
use Rattle.rp_world.proofs.Slots.{expose-begun, expose-done, expose-room, expose-turn, fit-owner, owner-stays, owner-there, value-stays}
use Rattle.rp_world.proofs.exposure.bind_exposed.Goals as goal

pub loop-index-init : goal.loop-index-init
loop-index-init c = expose-begun (global_value (locals_of c.args.layouts.now 0) c.args.globals c.args.store.now.heap) c.args.store.now c.args.decl.now.expose c.requires.exposing

pub global_value-requires-clause-held : goal.global_value-requires-clause-held
global_value-requires-clause-held c =
    owner-there c.loop-index.store.heap c.args.globals trusted (owner-stays _ _ _ c.args.store.now c.loop-index.store c.args.globals c.loop-index.invariant ∙ c.requires.owner)

pub global_value-requires-clause-owner : goal.global_value-requires-clause-owner
global_value-requires-clause-owner c = owner-stays _ _ _ c.args.store.now c.loop-index.store c.args.globals c.loop-index.invariant ∙ c.requires.owner

pub set_slot-requires-clause-held : goal.set_slot-requires-clause-held
set_slot-requires-clause-held c =
    owner-there c.loop-index.store.heap first trusted (owner-stays _ _ _ c.args.store.now c.loop-index.store first c.loop-index.invariant ∙ c.requires.exposing.owner)

pub set_slot-requires-clause-place : goal.set_slot-requires-clause-place
set_slot-requires-clause-place c =
    let same : c.expose-name-items.result.now ≡ c.args.decl.now.expose = c.expose-name-items.ensures in
    let within : c.loop-index.index < length c.args.decl.now.expose = rw same at c.loop-index-test.true in
    expose-room (global_value (locals_of c.args.layouts.now 0) c.args.globals c.args.store.now.heap) c.args.store.now c.loop-index.store c.args.decl.now.expose c.loop-index.index within c.loop-index.invariant

pub set_slot-requires-clause-value : goal.set_slot-requires-clause-value
set_slot-requires-clause-value c owner owned =
    fit-owner c.loop-index.store.heap first owner c.in_ok-value.value (owner-stays _ _ _ c.args.store.now c.loop-index.store first c.loop-index.invariant ∙ c.requires.exposing.owner) owned c.in_ok-value.ensures.fit

pub loop-index-preserved : goal.loop-index-preserved
loop-index-preserved c =
    let d = c.args.decl.now in
    let locals = locals_of c.args.layouts.now 0 in
    let globals = c.args.globals in
    let value : Name → Option Value = global_value locals globals c.args.store.now.heap in
    let same : c.expose-name-items.result.now ≡ d.expose = c.expose-name-items.ensures in
    let within : c.loop-index.index < length d.expose = rw same at c.loop-index-test.true in
    let name : Name = record { 0 = 0 } in
    let at : Name = get_or c.expose-name-items.result.now c.loop-index.index name in
    let found = c.in_ok-value.ensures.value ∙ value-stays locals globals value d.expose c.loop-index.index c.args.store.now c.loop-index.store at c.requires.behind c.loop-index.invariant ∙ ap (λ es. value (get_or es c.loop-index.index name)) same in
    expose-turn value c.args.store.now c.loop-index.store _ d.expose c.loop-index.index name c.in_ok-value.value within found c.loop-index.invariant c.set_slot.ensures.done

pub returns : goal.returns
returns c =
    let same : length c.expose-name-items.result.now ≡ length c.args.decl.now.expose = ap length c.expose-name-items.ensures in
    let past : length c.args.decl.now.expose ≤ c.loop-index.index = omega arith in
    expose-done (global_value (locals_of c.args.layouts.now 0) c.args.globals c.args.store.now.heap) c.args.store.now c.loop-index.store c.args.decl.now.expose c.loop-index.index past c.loop-index.invariant
