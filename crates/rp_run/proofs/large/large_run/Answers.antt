use Rattle.std.proofs.Common.{◌≡◌, ◌∙◌, ◌∷◌, ◌++◌, [], List, ap, arith, length, map}
use Rattle.rp_run.proofs.LargeSteps.{run-is}
use Rattle.rp_words.specs.Command.{Pair}
use Rattle.rp_words.specs.View.{pair_view}
use Rattle.rp_words.specs.declared.command.Pair.{Pair as PlacedPair}
use Rattle.rp_run.proofs.large.large_run.Goals as goal

pub returns-clause-run : goal.returns-clause-run
returns-clause-run c =
    let pair = c.in_ok-pair.pair in
    let only : c.push.new.self.items ≡ pair ∷ [] =
    c.in_ok-push.ensures.items ∙ ap (λ (ps : List PlacedPair). ps ++ pair ∷ []) c.new-pairs.ensures.items in
    run-is c.in_ok-declarations.declarations (map pair_view c.push.new.self.items) c.new-turns.result.items
    c.in_ok-declarations.ensures (ap (map pair_view) only ∙ ap (λ (p : Pair). p ∷ []) c.in_ok-pair.ensures)
    c.new-turns.ensures.items

pub returns-clause-alone : goal.returns-clause-alone
returns-clause-alone c =
    let pair = c.in_ok-pair.pair in
    let only : c.push.new.self.items ≡ pair ∷ [] =
    c.in_ok-push.ensures.items ∙ ap (λ (ps : List PlacedPair). ps ++ pair ∷ []) c.new-pairs.ensures.items in
    let many : length c.push.new.self.items ≡ length (pair ∷ []) = ap length only in
    omega arith
