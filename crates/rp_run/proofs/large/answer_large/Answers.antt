use Rattle.std.proofs.Common.{◌≡◌, ◌∙◌, arith, length, refl}
use Rattle.rp_base.specs.InMemory.{bytes_at}
use Rattle.rp_run.proofs.LargeSteps.{input_told, played_told}
use Rattle.rp_run.proofs.PlayedSteps.{as_large, large_played}
use Rattle.rp_run.specs.Output.{input_lines}
use Rattle.rp_run.specs.Played as played
use Rattle.rp_run.specs.Told as told
use Rattle.rp_run.specs.Told.{large_contents, large_lines, texts_at}
use Rattle.rp_words.specs.View.{run_view}
use Rattle.rp_run.proofs.large.answer_large.Goals as goal

pub read_ready-requires : goal.read_ready-requires
read_ready-requires c =
    let one = c.in_ok-command.ensures.alone in
    record { unread = c.in_ok-files.ensures.unread; few = omega arith }

pub play_large-requires : goal.play_large-requires
play_large-requires c = record { ready = c.in-Ok.ensures.set_up; alone = c.in_ok-command.ensures.alone }

pub unreachable-requires : goal.unreachable-requires
unreachable-requires c = c.in-Err-Failed.ensures.unfailed c.in-Err-Failed.field-0-is

pub returns-in-Ok-clause-told : goal.returns-in-Ok-clause-told
unfolding large_contents large_lines
returns-in-Ok-clause-told c =
    let n = c.args.size in
    let made = c.in_ok-texts.ensures in
    let its_texts : bytes_at c.in_ok-files.files.listed ≡ large_contents n =
    c.in_ok-files.ensures.contents ∙ (λ i. texts_at (made.declared i) (made.run i)) in
    let its_lines : c.in_ok-lines.lines ≡ large_lines n =
    c.in_ok-lines.ensures
    ∙ (λ i. input_lines n (length ((c.as_str.ensures.value ∙ made.declared) i))
    (length ((c.as_str-2.ensures.value ∙ made.run) i))) in
    played_told n (run_view c.in_ok-command.command) (bytes_at c.in_ok-files.files.listed) c.in-Ok.ready
    c.in_ok-lines.lines c.play_large.result c.in_ok-command.ensures.run its_texts its_lines c.in-Ok.ensures.ready
    c.play_large.ensures.told

pub returns-in-Err-Refused-clause-told : goal.returns-in-Err-Refused-clause-told
unfolding large_contents
returns-in-Err-Refused-clause-told c =
    let n = c.args.size in
    let made = c.in_ok-texts.ensures in
    let its_texts : bytes_at c.in_ok-files.files.listed ≡ large_contents n =
    c.in_ok-files.ensures.contents ∙ (λ i. texts_at (made.declared i) (made.run i)) in
    rw c.in-Err-Refused.field-0-is (input_told n (run_view c.in_ok-command.command) (bytes_at c.in_ok-files.files.listed)
    c.in-Err-Refused.answer.text c.in-Err-Refused.answer.status.0 c.in_ok-command.ensures.run its_texts
    (told.ToldLarge.refused (rw c.in-Err-Refused.field-0-is at c.in-Err-Refused.ensures.refused)))

pub returns-in-Err-Refused-clause-status : goal.returns-in-Err-Refused-clause-status
returns-in-Err-Refused-clause-status c =
    rw c.in-Err-Refused.field-0-is (rw c.in-Err-Refused.field-0-is at c.in-Err-Refused.ensures.status)

pub returns-in-Ok-clause-played : goal.returns-in-Ok-clause-played
unfolding large_contents large_lines
returns-in-Ok-clause-played c =
    let n = c.args.size in
    let made = c.in_ok-texts.ensures in
    let its_texts : bytes_at c.in_ok-files.files.listed ≡ large_contents n =
    c.in_ok-files.ensures.contents ∙ (λ i. texts_at (made.declared i) (made.run i)) in
    let its_lines : c.in_ok-lines.lines ≡ large_lines n =
    c.in_ok-lines.ensures
    ∙ (λ i. input_lines n (length ((c.as_str.ensures.value ∙ made.declared) i))
    (length ((c.as_str-2.ensures.value ∙ made.run) i))) in
    large_played n (run_view c.in_ok-command.command) (bytes_at c.in_ok-files.files.listed) c.in-Ok.ready
    c.in_ok-lines.lines c.play_large.new.played.items c.play_large.result c.in_ok-command.ensures.run its_texts
    its_lines c.in-Ok.ensures.ready c.play_large.ensures.played

pub returns-in-Err-Refused-clause-played : goal.returns-in-Err-Refused-clause-played
unfolding large_contents
returns-in-Err-Refused-clause-played c =
    let n = c.args.size in
    let made = c.in_ok-texts.ensures in
    let its_texts : bytes_at c.in_ok-files.files.listed ≡ large_contents n =
    c.in_ok-files.ensures.contents ∙ (λ i. texts_at (made.declared i) (made.run i)) in
    rw c.in-Err-Refused.field-0-is (as_large n (run_view c.in_ok-command.command) (bytes_at c.in_ok-files.files.listed)
    (large_lines n) c.in-Err-Refused.answer.text c.in-Err-Refused.answer.status.0 c.args.sessions.now.items
    c.in_ok-command.ensures.run its_texts refl
    (played.PlayedRun.refused (rw c.in-Err-Refused.field-0-is at c.in-Err-Refused.ensures.refused) c.requires.none))
