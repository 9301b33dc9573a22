use Rattle.std.proofs.Common.{◌≡◌, List, [], refl, sym, subst, ◌∙◌}
use Rattle.std.proofs.lemmas.Result.{IfErr-weaker, on_ok_weaker}
use Rattle.rp_access.specs.Moment.{state_of}
use Rattle.rp_engine.specs.Does as does
use Rattle.rp_engine.specs.Moment as engine
use Rattle.rp_meaning.specs.Load.{trusted}
use Rattle.rp_meaning.specs.Running.{program_frame}
use Rattle.rp_session.specs.Loads.{Breaks, EndsWell}
use Rattle.rp_session.proofs.Staying.{came, no-element, settles, when-ok}
use Rattle.rp_decl.proofs.Growth.{GrowsTo-refl}
use Rattle.rp_session.proofs.Settled.{some_run}
use Rattle.rp_store.proofs.CallerLemmas.{KeepsShape-same}
use Rattle.rp_tree.specs.declared.stmt.Stmt.{Stmt}
use Rattle.rp_world.specs.Worlds.{Refuses}
use Rattle.rp_session.proofs.loading.run_body.Goals as goal

pub returns-then-is_empty-clause-well : goal.returns-then-is_empty-clause-well
returns-then-is_empty-clause-well c base =
    let none : c.args.units.now.module.tree.now.body.items ≡ [] = sym c.as_slice-statements.ensures.value
    ∙ no-element c.as_slice-statements.result.now (sym c.is_empty.ensures ∙ c.if-is_empty.true) in
    let w = state_of c.args.world.now in
    subst (λ (xs : List Stmt).
    EndsWell w (does.block xs (program_frame (engine.run_of base c.args.units.now) trusted c.args.globals) w)) (sym none)
    (refl, refl)

pub returns-then-is_empty-clause-stays : goal.returns-then-is_empty-clause-stays
returns-then-is_empty-clause-stays c = record {
  session = refl;
  who = refl;
  declarations = refl;
  names = GrowsTo-refl c.args.world.now.names;
}

pub returns-then-is_empty-clause-shape : goal.returns-then-is_empty-clause-shape
returns-then-is_empty-clause-shape c =
    KeepsShape-same c.args.world.now.store.heap c.args.world.now.store.heap refl

pub returns-clause-well : goal.returns-clause-well
returns-clause-well c =
    let xs = c.as_slice-statements.result.now in
    let old = c.args.world.now in
    let new = c.run_statements-end.new.world in
    on_ok_weaker c.ended.result (λ well base.
    let frame = program_frame (engine.run_of base c.args.units.now) trusted c.args.globals in
    subst (λ (ys : List Stmt). EndsWell (state_of new) (does.block ys frame (state_of old)))
    c.as_slice-statements.ensures.value
    (well (state_of new) (does.block xs frame (state_of old))
    (came c.args.units.now xs c.args.globals old new c.run_statements-end.result c.run_statements-end.ensures.law base)))
    c.ended.ensures.well

pub returns-clause-refused : goal.returns-clause-refused
returns-clause-refused c =
    let xs = c.as_slice-statements.result.now in
    let old = c.args.world.now in
    let new = c.run_statements-end.new.world in
    IfErr-weaker c.ended.result _ _ (λ cause refuses base.
    let frame = program_frame (engine.run_of base c.args.units.now) trusted c.args.globals in
    subst (λ (ys : List Stmt). Refuses cause (Breaks (does.block ys frame (state_of old))))
    c.as_slice-statements.ensures.value
    (refuses (state_of new) (does.block xs frame (state_of old))
    (came c.args.units.now xs c.args.globals old new c.run_statements-end.result c.run_statements-end.ensures.law base)))
    c.ended.ensures.refused

pub returns-clause-stays : goal.returns-clause-stays
returns-clause-stays c =
    let xs = c.as_slice-statements.result.now in
    let old = c.args.world.now in
    let new = c.run_statements-end.new.world in
    let run = engine.run_of some_run c.args.units.now in
    let frame = program_frame run trusted c.args.globals in
    on_ok_weaker c.ended.result (λ well.
    settles run xs c.args.globals (state_of old) (state_of new)
    (well (state_of new) (does.block xs frame (state_of old))
    (came c.args.units.now xs c.args.globals old new c.run_statements-end.result c.run_statements-end.ensures.law some_run)))
    c.ended.ensures.well

pub returns-clause-faithful : goal.returns-clause-faithful
returns-clause-faithful c =
    on_ok_weaker c.ended.result (when-ok c.run_statements-end.result c.run_statements-end.ensures.faithful) c.ended.ensures.ran

pub run_statements-end-requires-clause-indexed : goal.run_statements-end-requires-clause-indexed
run_statements-end-requires-clause-indexed c = λ side. (c.requires.laid side).indexed
