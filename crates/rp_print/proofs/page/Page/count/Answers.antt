use Rattle.std.proofs.Common.{◌≡◌, OnOk, ◌∙◌, subst, List, ℕ}
use Rattle.std.proofs.lemmas.Str.{chars-IsAscii}
use Rattle.rp_print.specs.PageSteps.{written}
use Rattle.rp_print.proofs.page.Page.count.Goals as goal

-- digits are their own bytes
pub returns : goal.returns
returns c =
    subst (λ (t : List ℕ). OnOk c.add.result (c.add.new.self ≡ written c.args.self.now t))
    (chars-IsAscii c.format.result.now c.format.ensures.ascii ∙ c.format.ensures.text)
    c.add.ensures
