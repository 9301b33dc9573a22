use Rattle.std.proofs.Common.{◌≡◌, ℕ, List, IfOk, subst}
use Rattle.rp_base.proofs.CallerLemmas.{chars-ascii}
use Rattle.rp_run.proofs.large.ascii_text.Goals as goal

pub returns : goal.returns
returns c =
    subst (λ (word : List ℕ). IfOk c.new.result (λ text. text ≡ word)) (chars-ascii c.args.word.now c.requires)
    c.new.ensures
