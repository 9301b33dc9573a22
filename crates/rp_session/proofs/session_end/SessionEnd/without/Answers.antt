use Rattle.rp_session.proofs.Scripts.{first-left}
use Rattle.rp_session.proofs.session_end.SessionEnd.without.Goals as goal

pub returns-in-len1-up : goal.returns-in-len1-up
returns-in-len1-up c = first-left _ c.in-len1-up.len_at_least
