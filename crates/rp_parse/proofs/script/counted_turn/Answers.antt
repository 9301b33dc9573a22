use Rattle.std.proofs.Common.{◌≡◌, ◌-◌, length, arith}
use Rattle.rp_tree.specs.StatementViews as stmt_views
use Rattle.rp_parse.proofs.Scripted.{fault_is, passes_dropped, turn_fails, turn_passes, turn_shorter}
use Rattle.rp_parse.proofs.script.counted_turn.Goals as goal

pub returns-in-Ok-clause-passes : goal.returns-in-Ok-clause-passes
returns-in-Ok-clause-passes c =
    let ts = c.args.tokens.now in
    let turn = turn_passes c.args.on_line (stmt_views.view_stmts c.args.found.now.items) ts ((stmt_views.view_stmts c.turn.new.found.items, c.in-Ok.more), c.in-Ok.rest.now) c.requires c.in-Ok.ensures in
    let count : c.saturating_sub.result ≡ length ts - length c.in-Ok.rest.now = omega arith in
    passes_dropped turn c.saturating_sub.result count

pub returns-in-Ok-clause-some : goal.returns-in-Ok-clause-some
returns-in-Ok-clause-some c =
    let shorter = turn_shorter c.args.on_line (stmt_views.view_stmts c.args.found.now.items) c.args.tokens.now ((stmt_views.view_stmts c.turn.new.found.items, c.in-Ok.more), c.in-Ok.rest.now) c.in-Ok.ensures in
    omega (arith, shorter)

pub returns-in-Err-clause-refused : goal.returns-in-Err-clause-refused
returns-in-Err-clause-refused c =
    let bad = turn_fails c.in-Err.stop c.at.result c.args.on_line (stmt_views.view_stmts c.args.found.now.items) c.args.tokens.now c.requires c.at.ensures c.in-Err.ensures in
    fault_is c.at.result c.fault_of.result _ c.fault_of.ensures bad
