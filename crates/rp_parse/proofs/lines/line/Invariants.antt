use Rattle.std.proofs.Common.{◌≡◌}
use Rattle.rp_tree.specs.StatementViews as stmt_views
use Rattle.rp_grammar.specs.Statements.{joined}
use Rattle.rp_parse.specs.Gives.{ahead, context_of, deep}
use Rattle.rp_grammar.specs.StatementReading as stmt_reading
use Rattle.rp_parse.proofs.lines.line.Given as goal

abbrev pub invariant-items : goal.invariant-items
invariant-items l =
    ahead (joined (stmt_views.view_stmts l.fn.found.items)) (stmt_reading.line deep l.setting.height (context_of l.setting.context) l.setting.members l.fn.tokens)
    ≡ ahead (joined (stmt_views.view_stmts l.found.items)) (stmt_reading.line_by l.turns deep l.setting.height (context_of l.setting.context) l.setting.members l.rest)

abbrev pub decreases-items : goal.decreases-items
decreases-items l = l.turns
