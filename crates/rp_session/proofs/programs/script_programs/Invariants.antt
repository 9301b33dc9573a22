use Rattle.std.proofs.Common.{◌≡◌, drop, length, map, take}
use Rattle.std.specs.List.{AllZip}
use Rattle.std.specs.Vec.Iter.{into_iter_items, into_iter_len}
use Rattle.rp_engine.specs.declared.units.Program.{Program as CodeProgram}
use Rattle.rp_session.specs.Programs.{IsResolved, source_of}
use Rattle.rp_session.specs.Runs.{IsProgramOf}
use Rattle.rp_session.proofs.programs.script_programs.Given as goal

-- the programs are those of the trees so far, and the tables that are left are those of the other trees
abbrev pub invariant-loop-tree : goal.invariant-loop-tree
invariant-loop-tree l = record {
  left : into_iter_len l.tables ≡ length (into_iter_items l.tables);
  rest : AllZip IsResolved (drop l.tree-index l.trees) (into_iter_items l.tables);
  runs : map (λ (program : CodeProgram). program.tree.now) l.programs.items ≡ take l.tree-index l.trees;
  made : AllZip IsProgramOf (map source_of (take l.tree-index l.trees)) l.programs.items;
}
