use Rattle.std.proofs.Common.{map, string_bytes}
use Rattle.std.proofs.lemmas.List.{length-map}
use Rattle.rp_run.proofs.FewPairs.{few-pairs}
use Rattle.rp_run.proofs.LargeSizes.{large-within}
use Rattle.rp_run.proofs.PlayedSteps.{none_played}
use Rattle.rp_words.specs.View.{pair_view, run_view}
use Rattle.rp_run.proofs.program.obey.Goals as goal

pub answer_run-requires-clause-few : goal.answer_run-requires-clause-few
answer_run-requires-clause-few g c =
    let run = c.in-Ok-Run.run' in
    let gives = rw c.in-Ok-Run.field-0-is at c.in-Ok-Run.ensures.read in
    let few = few-pairs (map string_bytes c.args.words.now) (run_view run) gives in
    rw (length-map run.pairs.items pair_view) at few

pub answer_large-requires-clause-some : goal.answer_large-requires-clause-some
answer_large-requires-clause-some g c =
    let gives = rw c.in-Ok-Large.field-0-is at c.in-Ok-Large.ensures.read in
    (large-within (map string_bytes c.args.words.now) c.in-Ok-Large.size gives).0

pub answer_large-requires-clause-most : goal.answer_large-requires-clause-most
answer_large-requires-clause-most g c =
    let gives = rw c.in-Ok-Large.field-0-is at c.in-Ok-Large.ensures.read in
    (large-within (map string_bytes c.args.words.now) c.in-Ok-Large.size gives).1

pub returns-in-Ok-Script-clause-played : goal.returns-in-Ok-Script-clause-played
returns-in-Ok-Script-clause-played g c =
    let gives = rw c.in-Ok-Script.field-0-is at c.in-Ok-Script.ensures.read in
    none_played (map string_bytes c.args.words.now) _ c.answer_script.result _ _ gives
    (λ of text status. c.requires.none)

pub returns-in-Ok-May-clause-played : goal.returns-in-Ok-May-clause-played
returns-in-Ok-May-clause-played g c =
    let gives = rw c.in-Ok-May.field-0-is at c.in-Ok-May.ensures.read in
    none_played (map string_bytes c.args.words.now) _ c.answer_may.result _ _ gives (λ of text status. c.requires.none)
