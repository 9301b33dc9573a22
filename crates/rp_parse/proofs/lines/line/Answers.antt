use Rattle.std.proofs.Common.{Bool, ap, ◌∙◌, arith}
use Rattle.rp_tree.specs.StatementViews as stmt_views
use Rattle.rp_parse.specs.Gives.{context_of}
use Rattle.rp_parse.proofs.Turns.{pushed}
use Rattle.rp_parse.proofs.Rounds.{answered, line_ends, line_keeps, line_fails, line_over}
use Rattle.rp_parse.proofs.lines.line.Goals as goal

pub returns-in-Err : goal.returns-in-Err
returns-in-Err c =
    line_fails c.in-Err.stop c.at.result _ c.items.turns c.args.setting.height (context_of c.args.setting.context) c.args.setting.members (stmt_views.view_stmts c.items.found.items) c.items.rest.now c.items.invariant (λ none. omega (arith, c.items-test.true)) c.at.ensures c.in-Err.ensures

pub returns-then-not-goes_on : goal.returns-then-not-goes_on
returns-then-not-goes_on c =
    let x = stmt_views.view_stmt c.in-Ok.found.0.0 in
    let us = c.in-Ok.found.1.now in
    let is = c.in-Ok.ensures ∙ ap (λ (b : Bool). answered (x, b) us) c.if-not-goes_on.true in
    let made = ap stmt_views.view_stmts c.in_ok-push.ensures.items ∙ pushed c.items.found.items c.in-Ok.found.0.0 in
    line_ends _ c.items.turns c.args.setting.height (context_of c.args.setting.context) c.args.setting.members (stmt_views.view_stmts c.items.found.items) (stmt_views.view_stmts c.push.new.self.items) x c.items.rest.now us c.items.invariant (λ none. omega (arith, c.items-test.true)) is made

pub items-preserved : goal.items-preserved
items-preserved c =
    let x = stmt_views.view_stmt c.in-Ok.found.0.0 in
    let us = c.in-Ok.found.1.now in
    let is = c.in-Ok.ensures ∙ ap (λ (b : Bool). answered (x, b) us) c.if-not-goes_on.false in
    let made = ap stmt_views.view_stmts c.in_ok-push.ensures.items ∙ pushed c.items.found.items c.in-Ok.found.0.0 in
    line_keeps _ c.items.turns c.args.setting.height (context_of c.args.setting.context) c.args.setting.members (stmt_views.view_stmts c.items.found.items) (stmt_views.view_stmts c.push.new.self.items) x c.items.rest.now us c.items.invariant (λ none. omega (arith, c.items-test.true)) is made

pub returns : goal.returns
returns c = line_over _ c.items.turns c.args.setting.height (context_of c.args.setting.context) c.args.setting.members (stmt_views.view_stmts c.items.found.items) c.items.rest.now c.items.invariant (omega (arith, c.items-test.false))
