-- When a script is ready to run.
use Rattle.std.specs.Prelude.{◌≡◌, length}
use Rattle.rp_session.specs.Ready.{AreLaidOut, AreReady}
use Rattle.rp_tests_stage.specs.declared.stage.Stage.{Stage}

-- its one session may take turns
pub record IsStaged (s : Stage) : Type 0 where
  pub ready : AreReady s.sessions
  pub laid : AreLaidOut s.units
  pub one : length s.sessions.list.items ≡ 1
