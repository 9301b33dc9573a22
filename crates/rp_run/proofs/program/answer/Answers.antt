use Rattle.std.proofs.Common.{◌≡◌, map, string_bytes}
use Rattle.rp_words.specs.Command.{command_of}
use Rattle.rp_run.proofs.Said.{failed_back, memory_back, says_ok, status_ok, usage_ok}
use Rattle.rp_run.proofs.program.answer.Goals as goal

pub returns-clause-told : goal.returns-clause-told
returns-clause-told g c = rw c.said.ensures (says_ok c.obey.result _ c.obey.ensures.told)

pub returns-clause-played : goal.returns-clause-played
returns-clause-played g c = rw c.said.ensures (says_ok c.obey.result _ c.obey.ensures.played)

pub returns-clause-status : goal.returns-clause-status
returns-clause-status g c =
    rw c.said.ensures (status_ok (command_of (map string_bytes c.args.words.now)) c.obey.result c.obey.ensures.status)

pub returns-clause-usage : goal.returns-clause-usage
returns-clause-usage g c =
    rw c.said.ensures (usage_ok (command_of (map string_bytes c.args.words.now)) c.obey.result c.obey.ensures.status)

pub returns-clause-sound : goal.returns-clause-sound
returns-clause-sound g c = rw c.said.ensures (says_ok c.obey.result _ c.obey.ensures.sound)

pub returns-clause-failed : goal.returns-clause-failed
returns-clause-failed g c = λ failed. c.obey.ensures.failed (failed_back c.obey.result (rw c.said.ensures at failed))

pub returns-clause-cause : goal.returns-clause-cause
returns-clause-cause g c = λ failed. c.obey.ensures.cause (failed_back c.obey.result (rw c.said.ensures at failed))

pub returns-clause-memory : goal.returns-clause-memory
returns-clause-memory g c = λ failed. c.obey.ensures.memory (memory_back c.obey.result (rw c.said.ensures at failed))
