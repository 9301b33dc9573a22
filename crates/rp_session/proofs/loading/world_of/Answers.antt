use Rattle.std.proofs.Common.{ℕ, List, [], length, refl, sym, ap, subst, ◌∙◌}
use Rattle.std.proofs.lemmas.Result.{IfOk-weaker}
use Rattle.rp_base.specs.Names.{HoldsEachOnce}
use Rattle.rp_decl.specs.Places.{GrowsTo}
use Rattle.rp_decl.specs.View.{Placed, declarations_view}
use Rattle.rp_meaning.specs.Load.{trusted}
use Rattle.rp_session.specs.Loads.{Breaks, Loads}
use Rattle.rp_session.specs.Runs.{run_of}
use Rattle.rp_session.proofs.GlobalNames.{placed-same}
use Rattle.rp_session.proofs.LoadedWorlds.{load-breaks, loads-comes, loads-refused, ran}
use Rattle.rp_session.proofs.Staying.{both-then, err-on, expose-many, exposing-stays}
use Rattle.rp_tree.specs.StatementViews.{view_tree}
use Rattle.rp_world.proofs.Refusals.{refuses-on}
use Rattle.rp_world.specs.Globals.{placed_names}
use Rattle.rp_session.proofs.loading.world_of.Goals as goal

pub returns-in_err-ran-clause-refused : goal.returns-in_err-ran-clause-refused
returns-in_err-ran-clause-refused c =
    let names = c.args.names in
    let d = c.args.decl in
    let units = c.args.units.now in
    let tree = units.module.tree.now in
    let b = c.in_ok-begun.begun in
    let begins = c.in_ok-begun.ensures.begins in
    let once = subst HoldsEachOnce begins.names_same c.in_ok-begun.ensures.faithful.read.distinct in
    let locals = c.local_count-locals.result in
    let counted = c.local_count-locals.ensures in
    let run = run_of names (declarations_view names d) (view_tree tree) [] in
    err-on _ c.from_residual-in_err-ran.result c.in_err-ran.field-0.0 c.from_residual-in_err-ran.ensures.1
    (refuses-on c.in_err-ran.field-0.0
    (Breaks (ran names d once c.requires.held tree units.module c.requires.is refl units refl c.requires.alone b locals c.args.cells counted begins))
    (Loads names (declarations_view names d) (view_tree tree) c.args.cells)
    (λ answer broke. load-breaks names d once c.requires.held tree units.module c.requires.is refl units refl c.requires.alone b locals c.args.cells counted begins answer broke)
    (c.in_err-ran.ensures.refused run))

pub expose-requires-clause-exposing : goal.expose-requires-clause-exposing
expose-requires-clause-exposing c =
    let b = c.in_ok-begun.begun in
    let begins = c.in_ok-begun.ensures.begins in
    let many = expose-many b.world c.in_ok-ran.ran c.in_ok-ran.ensures.stays.declarations ∙ ap (λ (d : Placed). length d.expose) begins.decl_same in
    exposing-stays _ _ b.world.store.heap c.in_ok-ran.ran.store.heap c.in_ok-begun.ensures.exposed c.in_ok-ran.ensures.shape many

pub expose-requires-clause-scope : goal.expose-requires-clause-scope
expose-requires-clause-scope c = c.in_ok-ran.ensures.shape.scope trusted c.in_ok-begun.begun.globals c.in_ok-begun.ensures.scope

pub expose-requires-clause-block : goal.expose-requires-clause-block
expose-requires-clause-block c = (c.requires.laid trusted).block

pub returns-clause-comes : goal.returns-clause-comes
returns-clause-comes c =
    let names = c.args.names in
    let d = c.args.decl in
    let units = c.args.units.now in
    let tree = units.module.tree.now in
    let begins = c.in_ok-begun.ensures.begins in
    let once = subst HoldsEachOnce begins.names_same c.in_ok-begun.ensures.faithful.read.distinct in
    let run = run_of names (declarations_view names d) (view_tree tree) [] in
    loads-comes names d once c.requires.held tree units.module c.requires.is refl units refl c.requires.alone c.in_ok-begun.begun c.local_count-locals.result
    c.args.cells c.local_count-locals.ensures begins c.in_ok-ran.ran c.expose.result (c.in_ok-ran.ensures.well run) c.expose.ensures.comes

pub returns-clause-refused : goal.returns-clause-refused
returns-clause-refused c =
    let names = c.args.names in
    let d = c.args.decl in
    let units = c.args.units.now in
    let tree = units.module.tree.now in
    let begins = c.in_ok-begun.ensures.begins in
    let once = subst HoldsEachOnce begins.names_same c.in_ok-begun.ensures.faithful.read.distinct in
    let run = run_of names (declarations_view names d) (view_tree tree) [] in
    loads-refused names d once c.requires.held tree units.module c.requires.is refl units refl c.requires.alone c.in_ok-begun.begun c.local_count-locals.result
    c.args.cells c.local_count-locals.ensures begins c.in_ok-ran.ran c.expose.result (c.in_ok-ran.ensures.well run) c.expose.ensures.refused

pub returns-clause-placed : goal.returns-clause-placed
returns-clause-placed c =
    let names = c.args.names in
    let d = c.args.decl in
    let ran = c.in_ok-ran.ran in
    let begins = c.in_ok-begun.ensures.begins in
    let grown = subst (λ (ns : List (List ℕ)). GrowsTo ns ran.names) begins.names_same c.in_ok-ran.ensures.stays.names in
    let same = c.in_ok-ran.ensures.stays.declarations ∙ (λ k. declarations_view (begins.names_same k) (begins.decl_same k)) in
    let read = c.in_ok-ran.ensures.faithful.read in
    let before = placed-same names ran.names d ran.decl read.distinct grown c.requires.held read.held same in
    IfOk-weaker c.expose.result _ _ (λ w kept. ap placed_names kept ∙ before) c.expose.ensures.decl

pub returns-clause-declarations : goal.returns-clause-declarations
returns-clause-declarations c =
    let begins = c.in_ok-begun.ensures.begins in
    let before = c.in_ok-ran.ensures.stays.declarations ∙ (λ k. declarations_view (begins.names_same k) (begins.decl_same k)) in
    both-then c.expose.result (λ w names decl. (λ k. declarations_view (names k) (decl k)) ∙ before) c.expose.ensures.names c.expose.ensures.decl

pub returns-clause-names : goal.returns-clause-names
returns-clause-names c =
    let begins = c.in_ok-begun.ensures.begins in
    let grown = subst (λ (ns : List (List ℕ)). GrowsTo ns c.in_ok-ran.ran.names) begins.names_same c.in_ok-ran.ensures.stays.names in
    IfOk-weaker c.expose.result _ _ (λ w names. subst (λ (ns : List (List ℕ)). GrowsTo c.args.names ns) (sym names) grown) c.expose.ensures.names
