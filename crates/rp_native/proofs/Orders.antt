-- What is chosen is one of the values.
use Rattle.std.proofs.Common.{Bool, true, false, List, [], ◌∷◌, if◌then◌else◌}
use Rattle.std.proofs.lemmas.List.Elements.{All-head, All-tail}
use Rattle.rp_base.specs.declared.value.Value.{Value}
use Rattle.rp_store.specs.Heap.{Owned}
use Rattle.rp_store.specs.Kept.{AreSound, IsSound}
use Rattle.rp_native.specs.Extremes.{foremost}

-- what is chosen is sound where all are
pub foremost-sound : (heap : List Owned) (before : Value → Value → Bool) (v : Value) (vs : List Value) → IsSound heap v → AreSound heap vs
    → IsSound heap (foremost before v vs)
foremost-sound heap before v [] h hs = h
foremost-sound heap before v (w ∷ ws) h hs =
    foremost-sound heap before (if before w v then w else v) ws (either (before w v)) (All-tail (IsSound heap) w ws hs) where
      either : (b : Bool) → IsSound heap (if b then w else v)
      either true = All-head (IsSound heap) w ws hs
      either false = h
