use Rattle.std.proofs.Common.{◌+◌, ◌∙◌, List, [], drop, length, map, ap, sym, subst, arith}
use Rattle.std.specs.List.{AllZip}
use Rattle.std.specs.Vec.Iter.{into_iter_items}
use Rattle.std.proofs.lemmas.List.{take_all}
use Rattle.rp_engine.specs.declared.units.Program.{Program as CodeProgram}
use Rattle.rp_scope.specs.Scopes.{Scope}
use Rattle.rp_session.specs.Programs.{IsResolved, source_of}
use Rattle.rp_session.specs.Runs.{IsProgramOf}
use Rattle.rp_tree.specs.declared.stmt.Tree.{Tree}
use Rattle.rp_session.proofs.Lists.{drop-turn, shown-turn, zip-turn}
use Rattle.rp_session.proofs.Resolved.{blocks_of, taken_of, program_made, some_left}
use Rattle.rp_session.proofs.programs.script_programs.Goals as goal

-- the tree that a program runs
abbrev tree_of : CodeProgram → Tree
tree_of program = program.tree.now

pub loop-tree-init : goal.loop-tree-init
loop-tree-init c =
    let tables = c.into_iter-tables.ensures in
    record {
      left = tables.len ∙ c.args.tables.ok.0 ∙ ap length (sym tables.rest);
      rest = subst (λ (ls : List (List Scope)). AllZip IsResolved c.args.trees.now ls) (sym tables.rest) c.requires.resolved;
      runs = ap (map tree_of) c.new-programs.ensures.items;
      made = subst (λ (us : List CodeProgram). AllZip IsProgramOf [] us) (sym c.new-programs.ensures.items) tt;
    }

pub next_table-table-requires : goal.next_table-table-requires
next_table-table-requires c =
    let at = c.loop-tree in
    let tree = c.tree-item.result in
    let rest = drop-turn c.args.trees.now at.tree-index tree (omega arith) c.tree-item.is in
    let are = subst (λ (ts : List Tree). AllZip IsResolved ts (into_iter_items at.tables)) rest at.invariant.rest in
    record { some = some_left tree (drop (at.tree-index + 1) c.args.trees.now) (into_iter_items at.tables) are; whole = at.invariant.left }

pub of_tree-requires : goal.of_tree-requires
of_tree-requires c =
    let at = c.loop-tree in
    let tree = c.tree-item.result in
    let rest = drop-turn c.args.trees.now at.tree-index tree (omega arith) c.tree-item.is in
    let are = subst (λ (ts : List Tree). AllZip IsResolved ts (into_iter_items at.tables)) rest at.invariant.rest in
    let one = taken_of tree (drop (at.tree-index + 1) c.args.trees.now) c.next_table-table.result (into_iter_items c.next_table-table.new.tables) (into_iter_items at.tables)
    c.next_table-table.ensures.taken are in
    record { numbers = one.0.numbers; blocks = blocks_of tree c.next_table-table.result one.0; low = one.0.low }

pub loop-tree-preserved : goal.loop-tree-preserved
loop-tree-preserved c =
    let at = c.loop-tree in
    let tree = c.tree-item.result in
    let table = c.next_table-table.result in
    let rest = drop-turn c.args.trees.now at.tree-index tree (omega arith) c.tree-item.is in
    let are = subst (λ (ts : List Tree). AllZip IsResolved ts (into_iter_items at.tables)) rest at.invariant.rest in
    let one = taken_of tree (drop (at.tree-index + 1) c.args.trees.now) table (into_iter_items c.next_table-table.new.tables) (into_iter_items at.tables)
    c.next_table-table.ensures.taken are in
    let made = c.in_ok-program.ensures in
    record {
      left = c.next_table-table.ensures.left;
      rest = one.1;
      runs = shown-turn tree_of c.args.trees.now at.tree-index tree at.programs.items c.push.new.self.items c.in_ok-program.program
          (omega arith) c.tree-item.is c.in_ok-push.ensures.items at.invariant.runs made.tree;
      made = zip-turn IsProgramOf source_of c.args.trees.now at.tree-index tree at.programs.items c.push.new.self.items c.in_ok-program.program
          (omega arith) c.tree-item.is c.in_ok-push.ensures.items at.invariant.made (program_made tree table c.in_ok-program.program one.0 made.tree made.layouts
          (record { block = made.block; indexed = made.indexed }));
    }

pub returns-clause-runs : goal.returns-clause-runs
returns-clause-runs c = c.loop-tree.invariant.runs ∙ take_all c.loop-tree.tree-index c.args.trees.now (omega arith)

pub returns-clause-scripts : goal.returns-clause-scripts
returns-clause-scripts c =
    subst (λ (trees : List Tree). AllZip IsProgramOf (map source_of trees) c.loop-tree.programs.items)
    (take_all c.loop-tree.tree-index c.args.trees.now (omega arith)) c.loop-tree.invariant.made
