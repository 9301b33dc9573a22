-- What the values at hand keep where the last ones are taken off.
use Rattle.std.proofs.Common.{◌≡◌, ℕ, List, [], ◌∷◌, ◌++◌, drop, reverse, take, Result, Ok, Err, Vec, Global, sym, subst}
use Rattle.std.specs.Prelude.{IfOk, OnErr, OnOk}
use Rattle.std.proofs.lemmas.List.Elements.{All-head, All-push, All-same, All-tail, All-take}
use Rattle.std.proofs.lemmas.Grind.{reverse_onto}
use Rattle.rp_base.specs.declared.memory.Memory.{Memory}
use Rattle.rp_base.specs.declared.value.Side.{Side}
use Rattle.rp_base.specs.declared.value.Value.{Value}
use Rattle.rp_frame.specs.declared.activation.Activation.{Activation}
use Rattle.rp_proxy.specs.declared.world.World.{World}
use Rattle.rp_store.specs.Heap.{Owned}
use Rattle.rp_store.specs.Kept.{AreFit, IsFit}
use Rattle.rp_engine.specs.Ready.{IsReady}
use Rattle.rp_engine.specs.declared.units.Units.{Units}
use Rattle.rp_engine.proofs.AtHand.{drop_ready}

-- the last of a list reversed
pub reverse_cons : {X : Type 0} (x : X) (xs : List X) → reverse (x ∷ xs) ≡ reverse xs ++ x ∷ []
reverse_cons x xs = reverse_onto xs x []

pub fit_reversed : (heap : List Owned) (side : Side) (vs : List Value) → AreFit heap side vs → AreFit heap side (reverse vs)
fit_reversed heap side [] h = h
fit_reversed heap side (v ∷ vs) h =
    All-same (IsFit heap side) (reverse (v ∷ vs)) (reverse vs ++ v ∷ []) (reverse_cons v vs)
    (All-push (IsFit heap side) (reverse vs) v (fit_reversed heap side vs (All-tail (IsFit heap side) v vs h)) (All-head (IsFit heap side) v vs h))

fit_last : (heap : List Owned) (side : Side) (n : ℕ) (vs : List Value) → AreFit heap side vs → AreFit heap side (reverse (take n vs))
fit_last heap side n vs h = fit_reversed heap side (take n vs) (All-take (IsFit heap side) n vs h)

pub last_fit : (units : Units) (a : Activation) (n : ℕ) (vs : List Value) (w : World) → IsReady units a vs w → AreFit w.store.heap a.side (reverse (take n vs))
last_fit units a n vs w h = fit_last w.store.heap a.side n vs h.fit

-- where so many were taken, or none
pub taken_ready : {A : Type 0} (r : Result A Memory) (units : Units) (a : Activation) (n : ℕ) (vs us : List Value) (w : World)
    → OnOk r (us ≡ drop n vs) → OnErr r (us ≡ vs) → IsReady units a vs w → IsReady units a us w
taken_ready (Ok x) units a n vs us w left same h = subst (λ (us : List Value). IsReady units a us w) (sym left) (drop_ready units a n vs w h)
taken_ready (Err e) units a n vs us w left same h = subst (λ (us : List Value). IsReady units a us w) (sym same) h

pub taken_fit : (r : Result (Vec Value Global) Memory) (units : Units) (a : Activation) (n : ℕ) (vs : List Value) (w : World)
    → IfOk r (λ v. v.items ≡ reverse (take n vs)) → IsReady units a vs w → IfOk r (λ v. AreFit w.store.heap a.side v.items)
taken_fit (Ok v) units a n vs w is h = subst (λ (us : List Value). AreFit w.store.heap a.side us) (sym is) (last_fit units a n vs w h)
taken_fit (Err e) units a n vs w is h = tt

pub ruleset all_at_hand = (last_fit, drop_ready)
