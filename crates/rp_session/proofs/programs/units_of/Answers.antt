use Rattle.std.proofs.Common.{◌∙◌, List, map, sym, subst}
use Rattle.std.specs.List.{AllZip}
use Rattle.rp_session.specs.Programs.{IsResolved, source_of}
use Rattle.rp_session.specs.Runs.{IsProgramOf}
use Rattle.rp_session.proofs.ProgramsOn.{laid-out}
use Rattle.rp_tree.specs.declared.stmt.Tree.{Tree}
use Rattle.rp_session.proofs.programs.units_of.Goals as goal

pub of_tree-requires : goal.of_tree-requires
of_tree-requires c = record { numbers = c.requires.resolved.numbers; blocks = c.requires.resolved.blocks; low = c.requires.resolved.low }

pub script_programs-requires : goal.script_programs-requires
script_programs-requires c = record {
  resolved = subst (λ (trees : List Tree). AllZip IsResolved trees c.args.tables.scripts.items) (sym c.as_slice.ensures.value) c.requires.resolved.scripts;
}

pub returns-clause-runs : goal.returns-clause-runs
returns-clause-runs c = c.in_ok-programs.ensures.runs ∙ c.as_slice.ensures.value

pub returns-clause-scripts : goal.returns-clause-scripts
returns-clause-scripts c =
    subst (λ (trees : List Tree). AllZip IsProgramOf (map source_of trees) c.in_ok-programs.programs.items) c.as_slice.ensures.value c.in_ok-programs.ensures.scripts

pub returns-clause-laid : goal.returns-clause-laid
returns-clause-laid c =
    let scripts =
    subst (λ (trees : List Tree). AllZip IsProgramOf (map source_of trees) c.in_ok-programs.programs.items) c.as_slice.ensures.value c.in_ok-programs.ensures.scripts in
    laid-out (map source_of c.args.trees.now.scripts.items) (record { «module» = c.in_ok-first.first; scripts = c.in_ok-programs.programs })
    (record { block = c.in_ok-first.ensures.block; indexed = c.in_ok-first.ensures.indexed }) scripts
