use Rattle.std.proofs.Common.{◌≡◌, ◌∙◌, ◌++◌, ℕ, List, ap, append_assoc, codes}
use Rattle.std.proofs.lemmas.Result.{on_ok_weaker}
use Rattle.rp_base.specs.Kind.{kind_name}
use Rattle.rp_run.specs.Output.{detail}
use Rattle.rp_run.proofs.no_world.add_exception.Goals as goal

-- three pieces behind a text
behind : (start first second whole a b c : List ℕ) → first ≡ start ++ a → second ≡ first ++ b → whole ≡ second ++ c
    → whole ≡ start ++ (a ++ b ++ c)
behind start first second whole a b c to_a to_b to_c =
    to_c ∙ ap (λ (t : List ℕ). t ++ c) to_b ∙ ap (λ (t : List ℕ). t ++ b ++ c) to_a ∙ regroup
  where
    regroup : start ++ a ++ b ++ c ≡ start ++ (a ++ b ++ c)
    regroup = simp append_assoc

pub returns : goal.returns
returns c =
    let raised = c.args.raised.now in
    let its_kind : c.add_ascii-2.new.text ≡ c.add_ascii.new.text ++ kind_name raised.kind =
    c.in_ok-add_ascii-2.ensures ∙ ap (λ (t : List ℕ). c.add_ascii.new.text ++ t) c.as_str.ensures in
    on_ok_weaker c.add_detail.result
    (behind c.args.text.now c.add_ascii.new.text c.add_ascii-2.new.text c.add_detail.new.text (codes "module ended ")
    (kind_name raised.kind) (detail raised.text) c.in_ok-add_ascii.ensures its_kind)
    c.add_detail.ensures
