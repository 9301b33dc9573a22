use Rattle.std.proofs.Common.{◌≡◌, ◌+◌, ◌*◌, map}
use Rattle.rp_tree.specs.Statements as stmt_tree
use Rattle.rp_tree.specs.StatementViews as stmt_views
use Rattle.rp_grammar.proofs.Loops.{front}
use Rattle.rp_grammar.specs.Statements.{joined}
use Rattle.rp_parse.specs.Gives.{ahead, block_of, context_of, deep, with_branch}
use Rattle.rp_grammar.specs.StatementReading as stmt_reading
use Rattle.rp_grammar.specs.StatementReading.{block_at}
use Rattle.rp_parse.proofs.+statements.Given as goal

-- ---- each call goes down in height, or in rank at the same height

abbrev pub decreases-blocks::block_inside : goal.decreases-blocks::block_inside
decreases-blocks::block_inside l = 100 * l.setting.height + 50

abbrev pub decreases-blocks::indented : goal.decreases-blocks::indented
decreases-blocks::indented l = 100 * l.setting.height + 49

abbrev pub decreases-blocks::statements : goal.decreases-blocks::statements
decreases-blocks::statements l = 100 * l.setting.height + 48

abbrev pub decreases-blocks::statement : goal.decreases-blocks::statement
decreases-blocks::statement l = 100 * l.setting.height + 47

abbrev pub decreases-compound::if_statement : goal.decreases-compound::if_statement
decreases-compound::if_statement l = 100 * l.setting.height + 40

abbrev pub decreases-compound::while_statement : goal.decreases-compound::while_statement
decreases-compound::while_statement l = 100 * l.setting.height + 40

abbrev pub decreases-compound::for_statement : goal.decreases-compound::for_statement
decreases-compound::for_statement l = 100 * l.setting.height + 40

abbrev pub decreases-compound::try_statement : goal.decreases-compound::try_statement
decreases-compound::try_statement l = 100 * l.setting.height + 40

abbrev pub decreases-compound::def_statement : goal.decreases-compound::def_statement
decreases-compound::def_statement l = 100 * l.setting.height + 40

abbrev pub decreases-compound::class_statement : goal.decreases-compound::class_statement
decreases-compound::class_statement l = 100 * l.setting.height + 40

abbrev pub decreases-compound::elifs : goal.decreases-compound::elifs
decreases-compound::elifs l = 100 * l.setting.height + 39

abbrev pub decreases-compound::behind_try : goal.decreases-compound::behind_try
decreases-compound::behind_try l = 100 * l.setting.height + 39

abbrev pub decreases-compound::handled : goal.decreases-compound::handled
decreases-compound::handled l = 100 * l.setting.height + 38

abbrev pub decreases-compound::finished : goal.decreases-compound::finished
decreases-compound::finished l = 100 * l.setting.height + 38

abbrev pub decreases-compound::handlers : goal.decreases-compound::handlers
decreases-compound::handlers l = 100 * l.setting.height + 37

abbrev pub decreases-compound::handler : goal.decreases-compound::handler
decreases-compound::handler l = 100 * l.setting.height + 36

abbrev pub decreases-compound::named_handler : goal.decreases-compound::named_handler
decreases-compound::named_handler l = 100 * l.setting.height + 35

abbrev pub decreases-compound::tested : goal.decreases-compound::tested
decreases-compound::tested l = 100 * l.setting.height + 30

abbrev pub decreases-compound::otherwise : goal.decreases-compound::otherwise
decreases-compound::otherwise l = 100 * l.setting.height + 30

abbrev pub decreases-compound::finally : goal.decreases-compound::finally
decreases-compound::finally l = 100 * l.setting.height + 30

abbrev pub decreases-compound::suite : goal.decreases-compound::suite
decreases-compound::suite l = 100 * l.setting.height + 20

abbrev pub decreases-blocks::block : goal.decreases-blocks::block
decreases-blocks::block l = 100 * l.setting.height + 10

-- ---- each loop

abbrev pub invariant-blocks::statements-statements : goal.invariant-blocks::statements-statements
invariant-blocks::statements-statements l =
    ahead (joined (stmt_views.view_stmts l.fn.found.items)) (stmt_reading.statements deep l.setting.height (context_of l.setting.context) l.setting.members (block_at deep l.setting.height) l.fn.tokens)
    ≡ ahead (joined (stmt_views.view_stmts l.found.items)) (stmt_reading.statements_by l.turns deep l.setting.height (context_of l.setting.context) l.setting.members (block_at deep l.setting.height) l.rest)

abbrev pub decreases-blocks::statements-statements : goal.decreases-blocks::statements-statements
decreases-blocks::statements-statements l = l.turns

abbrev pub invariant-compound::elifs-branches : goal.invariant-compound::elifs-branches
invariant-compound::elifs-branches l =
    ahead (with_branch (stmt_views.view_branch l.fn.first)) (stmt_reading.elifs deep l.setting.height (block_of l.setting) l.fn.tokens)
    ≡ ahead (front with_branch (map stmt_views.view_branch l.found.items)) (stmt_reading.elifs_by l.turns deep l.setting.height (block_of l.setting) l.rest)

abbrev pub decreases-compound::elifs-branches : goal.decreases-compound::elifs-branches
decreases-compound::elifs-branches l = l.turns

abbrev pub invariant-compound::handlers-handlers : goal.invariant-compound::handlers-handlers
invariant-compound::handlers-handlers l =
    ahead (stmt_tree.except (stmt_views.view_except l.fn.first)) (stmt_reading.handlers deep l.setting.height (block_of l.setting) l.fn.handles_all l.fn.tokens)
    ≡ ahead (front stmt_tree.except (map stmt_views.view_except l.found.items)) (stmt_reading.handlers_by l.turns deep l.setting.height (block_of l.setting) l.is_last l.rest)

abbrev pub decreases-compound::handlers-handlers : goal.decreases-compound::handlers-handlers
decreases-compound::handlers-handlers l = l.turns
