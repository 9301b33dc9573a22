use Rattle.std.proofs.Common.{◌≡◌, OnOk, subst, List, ℕ}
use Rattle.rp_base.proofs.CallerLemmas.{chars-ascii}
use Rattle.rp_print.specs.PageSteps.{written}
use Rattle.rp_print.proofs.page.Page.mark.Goals as goal

-- marks are their own bytes
pub returns : goal.returns
returns c =
    subst (λ (t : List ℕ). OnOk c.add.result (c.add.new.self ≡ written c.args.self.now t))
    (chars-ascii c.args.mark.now c.requires)
    c.add.ensures
