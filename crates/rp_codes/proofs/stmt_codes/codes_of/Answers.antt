use Rattle.std.proofs.Common.{sym}
use Rattle.rp_codes.proofs.Adding.{all_added}
use Rattle.rp_meaning.specs.Blocks as blocks
use Rattle.rp_tree.specs.StatementViews.{view_stmts}
use Rattle.rp_codes.proofs.stmt_codes.codes_of.Goals as goal

pub returns-clause-size : goal.returns-clause-size
returns-clause-size c = (all_added (blocks.of_stmts (view_stmts c.deref.result.now)) c.args.count c.in_ok-codes.codes c.add_stmts.new.codes c.in_ok-codes.ensures c.add_stmts.ensures).0

pub returns-clause-codes : goal.returns-clause-codes
returns-clause-codes c =
    rw (sym c.deref.ensures.value) (all_added (blocks.of_stmts (view_stmts c.deref.result.now)) c.args.count c.in_ok-codes.codes c.add_stmts.new.codes c.in_ok-codes.ensures c.add_stmts.ensures).1
