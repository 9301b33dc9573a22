use Rattle.std.proofs.Common.{◌+◌, ◌∷◌, ◌∙◌, ap, arith, drop, sym}
use Rattle.std.proofs.lemmas.List.{drop_more}
use Rattle.rp_statements.proofs.class_blocks.part_at.Goals as goal

pub returns : goal.returns
returns c =
    drop_more c.args.body.now c.args.done c.index-body-at.result (omega arith)
    ∙ ap (λ part. part ∷ drop (c.args.done + 1) c.args.body.now) (sym c.index-body-at.is)
