use Rattle.std.proofs.Common.{List, ℕ, arith, ap, drop, length, ◌∙◌}
use Rattle.rp_methods.proofs.Pieces.{cut-found, some-bytes}
use Rattle.rp_methods.proofs.text_pieces.cut_at.Goals as goal

pub returns-clause-cut : goal.returns-clause-cut
returns-clause-cut c =
    cut-found c.args.part.now c.args.text.now c.args.at c.split_at.result.0.now c.split_at-2.result.1.now c.utf8.part c.utf8.text c.requires.part c.requires.found c.split_at.ensures.front
    (c.split_at-2.ensures.back ∙ ap (λ (l : List ℕ). drop (length c.args.part.now) l) c.split_at.ensures.back)

pub returns-clause-shorter : goal.returns-clause-shorter
returns-clause-shorter c = let some = some-bytes c.args.part.now c.utf8.part c.requires.part in omega arith
