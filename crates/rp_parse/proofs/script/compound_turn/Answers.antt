use Rattle.std.proofs.Common.{false}
use Rattle.rp_tree.specs.StatementViews as stmt_views
use Rattle.rp_grammar.specs.Statements.{top}
use Rattle.rp_grammar.specs.StatementReading as stmt_reading
use Rattle.rp_grammar.specs.StatementReading.{block_at}
use Rattle.rp_parse.specs.Gives.{deep}
use Rattle.rp_parse.proofs.Scripted.{statement_turned, statement_fails}
use Rattle.rp_parse.proofs.script.compound_turn.Goals as goal

pub returns-in-Ok : goal.returns-in-Ok
returns-in-Ok c = statement_turned (stmt_views.view_stmts c.args.found.now.items) (stmt_views.view_stmts c.top_statement.new.found.items) (stmt_reading.statement_at deep 199 top false (block_at deep 199) c.args.tokens.now) c.in-Ok.rest.now c.in-Ok.ensures

pub returns-in-Err : goal.returns-in-Err
returns-in-Err c = statement_fails c.in-Err.stop (stmt_views.view_stmts c.args.found.now.items) (stmt_reading.statement_at deep 199 top false (block_at deep 199) c.args.tokens.now) c.in-Err.ensures
