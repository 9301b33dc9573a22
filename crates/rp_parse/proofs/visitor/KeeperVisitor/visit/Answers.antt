use Rattle.rp_tree.specs.StatementViews.{view_stmts}
use Rattle.rp_parse.proofs.Visits.{kept_joined}
use Rattle.rp_parse.proofs.visitor.KeeperVisitor.visit.Goals as goal

pub returns-clause-taken : goal.returns-clause-taken
returns-clause-taken c = λ start taken was.
    kept_joined (view_stmts start.kept.items) taken c.args.self.now.kept.items c.args.next.now.items c.append.new.self.items was c.in_ok-append.ensures.items
