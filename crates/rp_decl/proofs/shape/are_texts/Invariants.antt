use Rattle.std.proofs.Common.{◌≡◌, drop}
use Rattle.toml.specs.View.{items_view}
use Rattle.rp_decl.specs.Shape.{are_texts}
use Rattle.rp_decl.specs.Test.{admits}
use Rattle.rp_decl.proofs.shape.are_texts.Given as goal

abbrev pub invariant-loop-item : goal.invariant-loop-item
invariant-loop-item l =
    are_texts (admits l.test) (items_view (drop l.item-index l.item-items)) ≡ are_texts (admits l.test) (items_view l.items.items)
