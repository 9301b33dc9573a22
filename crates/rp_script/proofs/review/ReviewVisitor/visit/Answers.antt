use Rattle.std.proofs.Common.{◌∙◌, ap}
use Rattle.rp_base.specs.Names.{word_of}
use Rattle.rp_policy.specs.Offences.{offences_by}
use Rattle.rp_tree.specs.StatementViews.{view_stmts}
use Rattle.rp_script.proofs.Reviews.{reviews_further}
use Rattle.rp_script.proofs.review.ReviewVisitor.visit.Goals as goal

pub returns-clause-taken : goal.returns-clause-taken
returns-clause-taken c = λ start taken reviews.
    let words = c.self.inside.names.now in
    let found = c.in_ok-more.ensures.found ∙ ap (λ v. offences_by (word_of words) (view_stmts v.items)) c.replace.ensures.value in
    reviews_further start c.args.self.now taken (view_stmts c.args.next.now.items) words
    c.self.inside.found.items c.in_ok-more.more.items c.append.new.self.items reviews c.self.view_is
    found c.in_ok-append.ensures.items
