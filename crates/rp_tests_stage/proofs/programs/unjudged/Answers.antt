use Rattle.std.proofs.Common.{◌≤◌, ◌∙◌, [], ap, subst, sym}
use Rattle.rp_grammar.specs.Program.{highest}
use Rattle.rp_session.specs.Programs.{source_of}
use Rattle.rp_session.proofs.Heights.{module_low}
use Rattle.rp_scope.specs.Numbers.{HasNumbers}
use Rattle.rp_scope.specs.Scopes.{scopes}
use Rattle.rp_tree.specs.Statements.{Stmts}
use Rattle.rp_tree.specs.Heights.{stmts_height}
use Rattle.rp_tree.specs.StatementViews.{view_tree}
use Rattle.rp_tree.specs.declared.stmt.Tree.{Tree}
use Rattle.rp_tests_stage.proofs.programs.unjudged.Goals as goal

pub returns-clause-resolved : goal.returns-clause-resolved
returns-clause-resolved c =
    let made = c.into_parts-parts.ensures in
    record {
      numbers = subst (λ (t : Tree). HasNumbers (view_tree t)) (sym made.tree) made.kept.numbers;
      low = subst (λ (t : Tree). stmts_height (view_tree t) ≤ highest) (sym made.tree) (module_low c.in_ok-compiled.compiled made.kept);
      is = made.layouts ∙ c.in_ok-compiled.ensures.table ∙ ap (λ (x : Stmts). scopes [] x) (sym made.kept.plain)
          ∙ ap (λ (t : Tree). scopes [] (source_of t)) (sym made.tree);
    }
