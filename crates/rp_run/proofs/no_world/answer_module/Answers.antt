use Rattle.std.proofs.Common.{◌∙◌, ℕ, List, ap, codes, refl}
use Rattle.rp_script.specs.Refusal.{refusal_lines}
use Rattle.rp_base.proofs.CallerLemmas.{chars-ascii}
use Rattle.rp_run.proofs.no_world.answer_module.Goals as goal

pub returns-clause-said : goal.returns-clause-said
returns-clause-said c = (
  c.in_ok-lines.ensures.said.0
      ∙ ap (λ (prefix : List ℕ). refusal_lines c.args.names.now prefix c.args.refusal.now)
      (chars-ascii (codes "declarations: module ") refl),
  refl,
)
