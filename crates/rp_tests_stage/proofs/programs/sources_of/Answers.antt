use Rattle.std.proofs.Common.{◌∙◌, List, ap}
use Rattle.rp_base.specs.declared.value.Name.{Name}
use Rattle.rp_decl.proofs.Growth.{GrowsTo-refl, GrowsTo-trans}
use Rattle.rp_scope.specs.Scopes.{scopes}
use Rattle.rp_tree.specs.StatementViews.{view_tree}
use Rattle.rp_tests_stage.proofs.programs.sources_of.Goals as goal

pub returns-in_err-first-clause-grown : goal.returns-in_err-first-clause-grown
returns-in_err-first-clause-grown c = GrowsTo-refl c.args.names.now

pub returns-in_err-script-clause-grown : goal.returns-in_err-script-clause-grown
returns-in_err-script-clause-grown c =
    GrowsTo-trans c.args.names.now c.compile_trusted.new.names c.script_of.new.names c.compile_trusted.ensures.names c.script_of.ensures.grown

pub returns-clause-grown : goal.returns-clause-grown
returns-clause-grown c =
    GrowsTo-trans c.args.names.now c.compile_trusted.new.names c.script_of.new.names c.compile_trusted.ensures.names c.script_of.ensures.grown

pub returns-clause-table : goal.returns-clause-table
returns-clause-table c =
    c.in_ok-module.ensures.table
    ∙ ap (λ (first : List Name). scopes first (view_tree c.in_ok-module.module.tree)) (c.as_slice.ensures.value ∙ c.in_ok-first.ensures)
