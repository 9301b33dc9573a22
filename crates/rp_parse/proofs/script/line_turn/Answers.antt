use Rattle.std.proofs.Common.{false, ap, ◌∙◌}
use Rattle.rp_tree.specs.StatementViews as stmt_views
use Rattle.rp_grammar.specs.Statements.{top}
use Rattle.rp_grammar.specs.StatementReading as stmt_reading
use Rattle.rp_parse.specs.Gives.{deep}
use Rattle.rp_parse.proofs.Scripted.{item_turned, item_fails}
use Rattle.rp_parse.proofs.Turns.{pushed}
use Rattle.rp_parse.proofs.script.line_turn.Goals as goal

pub returns : goal.returns
returns c =
    let made = ap stmt_views.view_stmts c.in_ok-push.ensures.items ∙ pushed c.args.found.now.items c.in-Ok.read.0.0 in
    item_turned (stmt_views.view_stmts c.args.found.now.items) (stmt_views.view_stmts c.push.new.self.items) (stmt_reading.item_at deep 199 top false c.args.tokens.now) (stmt_views.view_stmt c.in-Ok.read.0.0, c.in-Ok.read.0.1) c.in-Ok.read.1.now c.in-Ok.ensures made

pub returns-in-Err : goal.returns-in-Err
returns-in-Err c = item_fails c.in-Err.stop (stmt_views.view_stmts c.args.found.now.items) (stmt_reading.item_at deep 199 top false c.args.tokens.now) c.in-Err.ensures
