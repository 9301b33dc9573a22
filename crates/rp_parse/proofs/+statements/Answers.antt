use Rattle.std.proofs.Common.{◌≡◌, true, false, not, ◌&&◌, map, sym, ap, subst, ◌∙◌, arith}
use Rattle.rp_tree.specs.StatementViews as stmt_views
use Rattle.rp_grammar.specs.Kinds.{Tokens, first}
use Rattle.rp_parse.specs.Gives.{Fails, block_of, context_of, deep}
use Rattle.rp_grammar.specs.StatementReading as stmt_reading
use Rattle.rp_grammar.specs.StatementReading.{block_at}
use Rattle.rp_parse.proofs.Turns.{def_at}
use Rattle.rp_parse.proofs.Rounds.{block_none, block_read, block_unread, block_ends, block_keeps, block_fails, block_over, elifs_end, elifs_keep, elifs_fail, elifs_over, handlers_end, handlers_keep, handlers_fail, handlers_over, all_handled, none_comes, one_comes}
use Rattle.rp_parse.proofs.+statements.Goals as goal
use Rattle.rp_parse.proofs.+statements.Goals.{compound::handlers-then-is_last-via-then-is_last, compound::handlers-then-is_last-via-else-is_last+then-not-is_except}

pub blocks::block-returns-then-setting-eq0 : goal.blocks::block-returns-then-setting-eq0
blocks::block-returns-then-setting-eq0 t c = block_none c.args.setting.height (context_of c.args.setting.context) c.args.setting.members c.args.tokens.now c.if-setting-eq0.true

pub blocks::block-returns-in-Ok : goal.blocks::block-returns-in-Ok
blocks::block-returns-in-Ok t c =
    block_read c.args.setting.height c.below.result.height (context_of c.args.setting.context) (context_of c.below.result.context) c.args.setting.members c.below.result.members c.args.tokens.now
    (stmt_views.view_stmts c.in-Ok.found.0.items, c.in-Ok.found.1.now) c.if-setting-eq0.false c.below.ensures.height c.below.ensures.context c.below.ensures.members c.in-Ok.ensures

pub blocks::block-returns-in-Err : goal.blocks::block-returns-in-Err
blocks::block-returns-in-Err t c =
    block_unread c.in-Err.stop c.at.result c.args.setting.height c.below.result.height (context_of c.args.setting.context) (context_of c.below.result.context) c.args.setting.members c.below.result.members c.args.tokens.now
    c.if-setting-eq0.false c.below.ensures.height c.below.ensures.context c.below.ensures.members c.at.ensures c.in-Err.ensures

pub blocks::statements-returns-then-ends : goal.blocks::statements-returns-then-ends
blocks::statements-returns-then-ends t c =
    let x = c.args.setting in
    let over : stmt_reading.ends (first c.statements.rest.now) ≡ true = sym c.ends.ensures ∙ c.if-ends.true in
    block_ends _ c.statements.turns x.height (context_of x.context) x.members (block_at deep x.height) (stmt_views.view_stmts c.statements.found.items) c.statements.rest.now c.statements.invariant (λ none. omega (arith, c.statements-test.true)) over

pub blocks::statements-returns-in-Err : goal.blocks::statements-returns-in-Err
blocks::statements-returns-in-Err t c =
    let x = c.args.setting in
    let goes_on : stmt_reading.ends (first c.statements.rest.now) ≡ false = sym c.ends.ensures ∙ c.if-ends.false in
    block_fails c.in-Err.stop c.at.result _ c.statements.turns x.height (context_of x.context) x.members (block_at deep x.height) (stmt_views.view_stmts c.statements.found.items) c.statements.rest.now c.statements.invariant (λ none. omega (arith, c.statements-test.true)) goes_on c.at.ensures c.in-Err.ensures

pub blocks::statements-statements-preserved : goal.blocks::statements-statements-preserved
blocks::statements-statements-preserved t c =
    let x = c.args.setting in
    let goes_on : stmt_reading.ends (first c.statements.rest.now) ≡ false = sym c.ends.ensures ∙ c.if-ends.false in
    block_keeps _ c.statements.turns x.height (context_of x.context) x.members (block_at deep x.height) (stmt_views.view_stmts c.statements.found.items) (stmt_views.view_stmts c.statement.new.found.items) c.statements.rest.now c.in-Ok.after.now c.statements.invariant (λ none. omega (arith, c.statements-test.true)) goes_on c.in-Ok.ensures

pub blocks::statements-returns : goal.blocks::statements-returns
blocks::statements-returns t c =
    let x = c.args.setting in
    block_over _ c.statements.turns x.height (context_of x.context) x.members (block_at deep x.height) (stmt_views.view_stmts c.statements.found.items) c.statements.rest.now c.statements.invariant (omega (arith, c.statements-test.false))

pub compound::elifs-returns-then-not-is_elif : goal.compound::elifs-returns-then-not-is_elif
compound::elifs-returns-then-not-is_elif t c =
    let over : stmt_reading.is_elif (first c.branches.rest.now) ≡ false = sym c.is_elif.ensures ∙ c.if-not-is_elif.true in
    elifs_end _ c.branches.turns c.args.setting.height (block_of c.args.setting) (map stmt_views.view_branch c.branches.found.items) c.branches.rest.now c.branches.invariant (λ none. omega (arith, c.branches-test.true)) over

pub compound::elifs-returns-in-Err : goal.compound::elifs-returns-in-Err
compound::elifs-returns-in-Err t c =
    let comes : stmt_reading.is_elif (first c.branches.rest.now) ≡ true = sym c.is_elif.ensures ∙ c.if-not-is_elif.false in
    elifs_fail c.in-Err.stop c.at.result _ c.branches.turns c.args.setting.height (block_of c.args.setting) (map stmt_views.view_branch c.branches.found.items) c.branches.rest.now c.branches.invariant (λ none. omega (arith, c.branches-test.true)) comes c.at.ensures
    (subst (λ (us : Tokens). Fails c.in-Err.stop (stmt_reading.tested deep c.args.setting.height (block_of c.args.setting) us)) c.skip.ensures c.in-Err.ensures)

pub compound::elifs-branches-preserved : goal.compound::elifs-branches-preserved
compound::elifs-branches-preserved t c =
    let comes : stmt_reading.is_elif (first c.branches.rest.now) ≡ true = sym c.is_elif.ensures ∙ c.if-not-is_elif.false in
    elifs_keep _ c.branches.turns c.args.setting.height (block_of c.args.setting) c.branches.found.items c.push-in-branches.new.self.items c.in-Ok.found.0 c.branches.rest.now c.in-Ok.found.1.now c.branches.invariant (λ none. omega (arith, c.branches-test.true)) comes
    (ap (stmt_reading.tested deep c.args.setting.height (block_of c.args.setting)) (sym c.skip.ensures) ∙ c.in-Ok.ensures) c.in_ok-push-2.ensures.items

pub compound::elifs-returns : goal.compound::elifs-returns
compound::elifs-returns t c = elifs_over _ c.branches.turns c.args.setting.height (block_of c.args.setting) (map stmt_views.view_branch c.branches.found.items) c.branches.rest.now c.branches.invariant (omega (arith, c.branches-test.false))

pub compound::handlers-returns-then-is_last : goal.compound::handlers-returns-then-is_last
compound::handlers-returns-then-is_last t c =
    let over : not c.handlers.is_last && stmt_reading.is_except (first c.handlers.rest.now) ≡ false = elim c.then-is_last.branch [
      | compound::handlers-then-is_last-via-then-is_last w ↦ all_handled c.handlers.is_last (stmt_reading.is_except (first c.handlers.rest.now)) w.if-is_last.true
      | compound::handlers-then-is_last-via-else-is_last+then-not-is_except w ↦ none_comes c.handlers.is_last (stmt_reading.is_except (first c.handlers.rest.now)) (sym w.is_except.ensures ∙ w.if-not-is_except.true)
    ] in
    handlers_end _ c.handlers.turns c.args.setting.height (block_of c.args.setting) c.handlers.is_last (map stmt_views.view_except c.handlers.found.items) c.handlers.rest.now c.handlers.invariant (λ none. omega (arith, c.handlers-test.true)) over

pub compound::handlers-returns-in-Err : goal.compound::handlers-returns-in-Err
compound::handlers-returns-in-Err t c =
    let comes = one_comes c.handlers.is_last (stmt_reading.is_except (first c.handlers.rest.now)) c.if-is_last.false (sym c.is_except.ensures ∙ c.if-not-is_except.false) in
    handlers_fail c.in-Err.stop c.at.result _ c.handlers.turns c.args.setting.height (block_of c.args.setting) c.handlers.is_last (map stmt_views.view_except c.handlers.found.items) c.handlers.rest.now c.handlers.invariant (λ none. omega (arith, c.handlers-test.true)) comes c.at.ensures
    (subst (λ (us : Tokens). Fails c.in-Err.stop (stmt_reading.handler deep c.args.setting.height (block_of c.args.setting) us)) c.skip.ensures c.in-Err.ensures)

pub compound::handlers-handlers-preserved : goal.compound::handlers-handlers-preserved
compound::handlers-handlers-preserved t c =
    let comes = one_comes c.handlers.is_last (stmt_reading.is_except (first c.handlers.rest.now)) c.if-is_last.false (sym c.is_except.ensures ∙ c.if-not-is_except.false) in
    handlers_keep _ c.handlers.turns c.args.setting.height (block_of c.args.setting) c.handlers.is_last c.in-Ok.found.0.1 c.handlers.found.items c.push-in-handlers.new.self.items c.in-Ok.found.0.0 c.handlers.rest.now c.in-Ok.found.1.now c.handlers.invariant (λ none. omega (arith, c.handlers-test.true)) comes
    (ap (stmt_reading.handler deep c.args.setting.height (block_of c.args.setting)) (sym c.skip.ensures) ∙ c.in-Ok.ensures) c.in_ok-push-2.ensures.items

pub compound::handlers-returns : goal.compound::handlers-returns
compound::handlers-returns t c = handlers_over _ c.handlers.turns c.args.setting.height (block_of c.args.setting) c.handlers.is_last (map stmt_views.view_except c.handlers.found.items) c.handlers.rest.now c.handlers.invariant (omega (arith, c.handlers-test.false))

pub blocks::statement-returns-in-Def : goal.blocks::statement-returns-in-Def
blocks::statement-returns-in-Def t c =
    let x = c.args.setting in
    rw (def_at x.height (context_of x.context) x.members (block_at deep x.height) c.args.tokens.now c.token-item.result c.in-len1-up.len_at_least c.token-item.is c.in-Def.is) (c.compound.ensures _ c.def_statement.ensures)
