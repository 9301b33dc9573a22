use Rattle.std.proofs.Common.{◌≡◌, ◌∙◌, ◌∷◌, [], ap, arith, length, map, sym}
use Rattle.std.proofs.lemmas.List.{length-map}
use Rattle.rp_access.proofs.Lists.{only_first}
use Rattle.rp_meaning.specs.Sessions.{Session as MeantSession}
use Rattle.rp_run.proofs.LargeSteps.{only_is}
use Rattle.rp_session.specs.View.{session_view}
use Rattle.rp_run.proofs.large.steps_left.Goals as goal

pub returns-in-len1 : goal.returns-in-len1
returns-in-len1 c = λ only its.
    let one = only_first c.args.sessions.now c.session-item.result (omega arith) (omega arith) c.session-item.is in
    ap (λ (k : MeantSession). k.steps) (only_is (ap (map session_view) one ∙ its))

pub returns-in_default : goal.returns-in_default
returns-in_default c = λ only its.
    let many : length c.args.sessions.now ≡ length (only ∷ []) =
    sym (length-map c.args.sessions.now session_view) ∙ ap length its in
    absurd (omega arith)
