use Rattle.std.proofs.Common.{◌≤◌, ◌∙◌, List, [], Ok, ap, length, suc, sym, subst}
use Rattle.std.specs.List.{AllZip}
use Rattle.rp_decl.specs.View.{declarations_view}
use Rattle.rp_engine.specs.Moment.{layouts_view}
use Rattle.rp_engine.specs.declared.units.Program.{Program as CodeProgram}
use Rattle.rp_engine.specs.declared.units.Units.{Units}
use Rattle.rp_meaning.specs.Frame.{program_of}
use Rattle.rp_grammar.specs.Program.{highest}
use Rattle.rp_session.specs.Loads.{Loads}
use Rattle.rp_session.specs.Runs.{IsProgramOf}
use Rattle.rp_session.proofs.Heights.{module_low}
use Rattle.rp_session.proofs.ProgramsOn.{laid-out}
use Rattle.rp_tree.specs.Heights.{stmts_height}
use Rattle.rp_session.proofs.Staying.{err-on}
use Rattle.rp_scope.specs.Numbers.{HasNumbers, block_count}
use Rattle.rp_scope.specs.Scopes.{Scope, scopes}
use Rattle.rp_tree.specs.Marks.{HasNoGuards}
use Rattle.rp_tree.specs.Statements.{Stmts}
use Rattle.rp_tree.specs.StatementViews.{view_tree}
use Rattle.rp_tree.specs.declared.stmt.Tree.{Tree}
use Rattle.rp_world.specs.Globals.{placed_names}
use Rattle.rp_world.specs.Worlds.{Refuses, world_view}
use Rattle.rp_session.proofs.loading.load.Goals as goal

pub of_tree-requires-clause-numbers : goal.of_tree-requires-clause-numbers
of_tree-requires-clause-numbers c =
    let made = c.into_parts-parts.ensures in
    subst (λ (t : Tree). HasNumbers (view_tree t)) (sym made.tree) made.kept.numbers

pub of_tree-requires-clause-blocks : goal.of_tree-requires-clause-blocks
of_tree-requires-clause-blocks c =
    let made = c.into_parts-parts.ensures in
    ap length made.layouts ∙ made.kept.scopes.blocks ∙ ap (λ (t : Tree). suc (block_count (view_tree t))) (sym made.tree)

pub of_tree-requires-clause-low : goal.of_tree-requires-clause-low
of_tree-requires-clause-low c =
    let made = c.into_parts-parts.ensures in
    subst (λ (t : Tree). stmts_height (view_tree t) ≤ highest) (sym made.tree) (module_low c.args.compiled made.kept)

pub world_of-requires-clause-is : goal.world_of-requires-clause-is
world_of-requires-clause-is c =
    let made = c.into_parts-parts.ensures in
    let p = c.in_ok-program.program in
    let table = c.in_ok-program.ensures.layouts ∙ made.layouts ∙ c.requires.table
    ∙ ap (λ (t : Tree). scopes (placed_names c.args.decl) (view_tree t)) (sym made.tree ∙ sym c.in_ok-program.ensures.tree) in
    ap (λ (table : List Scope). program_of (view_tree p.tree.now) (layouts_view table)) table

pub world_of-requires-clause-alone : goal.world_of-requires-clause-alone
world_of-requires-clause-alone c = c.new-scripts.ensures.items

pub world_of-requires-clause-laid : goal.world_of-requires-clause-laid
world_of-requires-clause-laid c =
    let units : Units = record { «module» = c.in_ok-program.program; scripts = c.new-scripts.result } in
    laid-out [] units (record { block = c.in_ok-program.ensures.block; indexed = c.in_ok-program.ensures.indexed })
    (subst (λ (us : List CodeProgram). AllZip IsProgramOf [] us) (sym c.new-scripts.ensures.items) tt)

pub returns-in_err-world-clause-refused : goal.returns-in_err-world-clause-refused
returns-in_err-world-clause-refused c =
    let its_body = ap view_tree (c.in_ok-program.ensures.tree ∙ c.into_parts-parts.ensures.tree) in
    err-on _ c.from_residual-in_err-world.result c.in_err-world.field-0.0 c.from_residual-in_err-world.ensures.1
    (subst (λ (body : Stmts). Refuses c.in_err-world.field-0.0 (Loads c.args.names (declarations_view c.args.names c.args.decl) body c.args.cells)) its_body
    c.in_err-world.ensures.refused)

pub returns-clause-tree : goal.returns-clause-tree
returns-clause-tree c = c.into_parts-parts.ensures.tree

pub returns-clause-whole : goal.returns-clause-whole
returns-clause-whole c =
    let made = c.into_parts-parts.ensures in
    record {
      plain = subst (λ (t : Tree). HasNoGuards (view_tree t)) (sym made.tree) made.kept.plain;
      numbers = subst (λ (t : Tree). HasNumbers (view_tree t)) (sym made.tree) made.kept.numbers;
      low = subst (λ (t : Tree). stmts_height (view_tree t) ≤ highest) (sym made.tree) (module_low c.args.compiled made.kept);
      table = c.layouts_of-layouts.ensures ∙ c.in_ok-program.ensures.layouts ∙ made.layouts ∙ c.requires.table
          ∙ (λ k. scopes (sym c.in_ok-world.ensures.placed k) (view_tree (sym made.tree k)));
    }

pub returns-clause-comes : goal.returns-clause-comes
returns-clause-comes c =
    let its_body = ap view_tree (c.in_ok-program.ensures.tree ∙ c.into_parts-parts.ensures.tree) in
    subst (λ (body : Stmts). Loads c.args.names (declarations_view c.args.names c.args.decl) body c.args.cells (Ok (world_view c.in_ok-world.world))) its_body
    c.in_ok-world.ensures.comes
