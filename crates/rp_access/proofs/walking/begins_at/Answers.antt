use Rattle.std.proofs.Common.{◌∙◌, true≢false, List, ℕ, sym, subst}
use Rattle.std.specs.Str.{IsCharBoundary}
use Rattle.rp_access.proofs.Letters.{off_boundary}
use Rattle.rp_base.proofs.CallerLemmas.{bytes_from_view}
use Rattle.rp_access.proofs.walking.begins_at.Goals as goal

pub returns-clause-on : goal.returns-clause-on
returns-clause-on c = λ e.
    subst (λ (bs : List ℕ). IsCharBoundary bs c.args.at) (sym (bytes_from_view c.as_str.result.now c.args.text.now c.as_str.utf8 c.as_str.ensures))
    (c.is_char_boundary.ensures.test.0 e)

pub returns-clause-off : goal.returns-clause-off
returns-clause-off c = λ e. off_boundary c.args.text.now c.args.at (λ h.
    true≢false (sym (c.is_char_boundary.ensures.test.1
    (subst (λ (bs : List ℕ). IsCharBoundary bs c.args.at) (bytes_from_view c.as_str.result.now c.args.text.now c.as_str.utf8 c.as_str.ensures) h)) ∙ e))
