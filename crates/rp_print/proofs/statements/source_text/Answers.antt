use Rattle.std.proofs.Common.{◌∙◌, ap, List, []}
use Rattle.rp_base.specs.Names.{word_of}
use Rattle.rp_tree.specs.declared.stmt.Stmt.{Stmt}
use Rattle.rp_tree.specs.StatementViews.{view_stmts, view_tree}
use Rattle.rp_print.specs.LineSteps.{put_stmts}
use Rattle.rp_print.proofs.Renamed.{printed_named}
use Rattle.rp_print.proofs.WrittenLines.{tree_written}
use Rattle.rp_print.proofs.statements.source_text.Goals as goal

pub returns-clause-printed : goal.returns-clause-printed
returns-clause-printed c =
    c.into_string.ensures
    ∙ (c.in_ok-write_stmts.ensures
    ∙ (ap (put_stmts (word_of c.args.names.now) 0 (view_stmts c.deref.result.now)) c.new-page.ensures
    ∙ (ap (λ (xs : List Stmt). put_stmts (word_of c.args.names.now) 0 (view_stmts xs) []) c.deref.ensures.value
    ∙ tree_written (word_of c.args.names.now) (view_tree c.args.tree.now))))

pub returns-clause-named : goal.returns-clause-named
returns-clause-named c = returns-clause-printed c ∙ printed_named (word_of c.args.names.now) (view_tree c.args.tree.now)
