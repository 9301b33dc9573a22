use Rattle.std.proofs.Common.{◌≡◌, ◌-◌, ℕ, List, length, take, flat_map}
use Rattle.rp_decl.specs.InOrder.{AreInOrder}
use Rattle.rp_decl.specs.View.{declarations_view, perm_text}
use Rattle.rp_run.specs.Output.{principal_line}
use Rattle.rp_run.proofs.telling.reasons.Given as goal

abbrev pub invariant-ids : goal.invariant-ids
invariant-ids l =
    (names : List (List ℕ)) → AreInOrder (declarations_view names l.decl)
    → l.text ≡ flat_map (principal_line (declarations_view names l.decl) (perm_text l.decl.permissions l.permission))
    (take l.place l.ids)

abbrev pub decreases-ids : goal.decreases-ids
decreases-ids l = length l.ids - l.place
