use Rattle.std.proofs.Common.{◌≡◌, ℕ, List, None, map, take}
use Rattle.std.specs.List.{All}
use Rattle.rp_decl.specs.View.{declarations_view}
use Rattle.rp_interact.specs.Why.{first_unknown}
use Rattle.rp_run.specs.Told.{all_ids}
use Rattle.rp_run.specs.View.{AnswersInAll}
use Rattle.rp_words.specs.View.{pair_view}
use Rattle.rp_run.proofs.admitting.find_all_principals.Given as goal

abbrev pub invariant-loop-pair : goal.invariant-loop-pair
invariant-loop-pair l = record {
  known : (names : List (List ℕ))
      → first_unknown (declarations_view names l.decl) (all_ids (map pair_view (take l.pair-index l.pairs))) ≡ None;
  ids : map (λ i. i.ids) l.all.items ≡ map (λ p. p.ids) (map pair_view (take l.pair-index l.pairs));
  answers : All (AnswersInAll l.decl) l.all.items;
}
