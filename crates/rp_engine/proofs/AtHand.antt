-- What the values at hand keep where the last one is taken off.
use Rattle.std.proofs.Common.{ℕ, List, [], ◌∷◌, drop}
use Rattle.std.proofs.lemmas.List.Elements.{All-drop, All-head, All-tail}
use Rattle.rp_base.specs.declared.value.Side.{Side}
use Rattle.rp_base.specs.declared.value.Value.{Value}
use Rattle.rp_frame.specs.Top.{below, top}
use Rattle.rp_frame.specs.declared.activation.Activation.{Activation}
use Rattle.rp_proxy.specs.declared.world.World.{World}
use Rattle.rp_store.specs.Heap.{Owned}
use Rattle.rp_store.specs.Kept.{AreFit, IsFit}
use Rattle.rp_engine.specs.Ready.{IsReady}
use Rattle.rp_engine.specs.declared.units.Units.{Units}

fit_top : (heap : List Owned) (side : Side) (vs : List Value) → AreFit heap side vs → IsFit heap side (top vs)
fit_top heap side [] h = (tt, tt)
fit_top heap side (v ∷ vs) h = All-head (IsFit heap side) v vs h

fit_below : (heap : List Owned) (side : Side) (vs : List Value) → AreFit heap side vs → AreFit heap side (below vs)
fit_below heap side [] h = h
fit_below heap side (v ∷ vs) h = All-tail (IsFit heap side) v vs h

pub top_fit : (units : Units) (a : Activation) (vs : List Value) (w : World) → IsReady units a vs w → IsFit w.store.heap a.side (top vs)
top_fit units a vs w h = fit_top w.store.heap a.side vs h.fit

pub below_ready : (units : Units) (a : Activation) (vs : List Value) (w : World) → IsReady units a vs w → IsReady units a (below vs) w
below_ready units a vs w h = record { faithful = h.faithful; scope = h.scope; fit = fit_below w.store.heap a.side vs h.fit; indexed = h.indexed }

pub ruleset at_hand = (top_fit, below_ready)

pub drop_ready : (units : Units) (a : Activation) (n : ℕ) (vs : List Value) (w : World) → IsReady units a vs w → IsReady units a (drop n vs) w
drop_ready units a n vs w h = record { faithful = h.faithful; scope = h.scope; fit = All-drop (IsFit w.store.heap a.side) n vs h.fit; indexed = h.indexed }
