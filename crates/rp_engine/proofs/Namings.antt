-- A world stays faithful where a display is made, which is fit for its side.
use Rattle.std.proofs.Common.{◌≡◌, ℕ, ◌+◌, Bool, true, false, List, Some, Result, Ok, Err, refl, sym, ap, subst, if◌then◌else◌, length}
use Rattle.std.specs.Prelude.{nat_lt, IfOk, OnOk, OnErr}
use Rattle.std.specs.Option.{option_map}
use Rattle.std.proofs.lemmas.List.Elements.{All-weaker}
use Rattle.rp_base.specs.declared.value.Oid.{Oid}
use Rattle.rp_base.specs.declared.value.OpEnd.{OpEnd}
use Rattle.rp_base.specs.declared.value.Raised.{Raised}
use Rattle.rp_base.specs.declared.value.Side.{Side}
use Rattle.rp_base.specs.declared.value.Value.{Value}
use Rattle.rp_base.specs.declared.value.Value.TheVariants as value
use Rattle.rp_frame.specs.declared.display.Display.{Display}
use Rattle.rp_frame.specs.declared.display.Display.TheVariants as kind
use Rattle.rp_ops.specs.Binary.{new_object}
use Rattle.rp_ops.specs.Outcome as plain
use Rattle.rp_ops.specs.Outcome.{gives, ends, no_cell, on_value, Meets}
use Rattle.rp_proxy.proofs.LaterStores.{with_store, IsFaithful-stored}
use Rattle.rp_proxy.specs.Faithful.{IsFaithful}
use Rattle.rp_proxy.specs.Held.{AreNamed, IsNamed}
use Rattle.rp_proxy.specs.declared.world.World.{World}
use Rattle.rp_store.specs.Cost.{cost}
use Rattle.rp_store.specs.Heap.{Owned, owner_at}
use Rattle.rp_store.specs.Kept.{AreFit, AreSound, Holds, IsFit, IsSafe, IsSound}
use Rattle.rp_store.specs.Object as object
use Rattle.rp_store.specs.Object.{Content}
use Rattle.rp_store.specs.Parts.{IsScope}
use Rattle.rp_store.specs.Store.{Cells, made}
use Rattle.rp_access.proofs.Coupled.{display_held}
use Rattle.rp_access.proofs.Namings.{more_named, same_heap_faithful}
use Rattle.rp_engine.specs.DisplaySteps.{displayed}
use Rattle.rp_store.proofs.CallerLemmas.{slice_get-last}

ok_same : (x : Result Content Raised) (a c : Content) → x ≡ Ok a → x ≡ Ok c → a ≡ c
ok_same x a c this is = cc

-- what a display holds: a list, a tuple or a dict of what is fit
module _ (heap : List Owned) (side : Side) (vs : List Value) (c : Content) (fit : AreFit heap side vs) where
  all_sound : AreSound heap vs
  all_sound = All-weaker (IsFit heap side) (IsSound heap) (λ v h. h.0) vs fit

  pub display_holds : (d : Display) → displayed d vs ≡ Ok c → Holds heap side c
  display_holds kind.List is = subst (Holds heap side) (ok_same (displayed kind.List vs) (object.list vs) c refl is) all_sound
  display_holds kind.Tuple is = subst (Holds heap side) (ok_same (displayed kind.Tuple vs) (object.tuple vs) c refl is) all_sound
  display_holds kind.Dict is = let held = display_held heap vs c is all_sound in subst (Holds heap side) (sym held.is) held.held

  pub display_value : (d : Display) → displayed d vs ≡ Ok c → ¬ (IsScope c)
  display_value kind.List is = subst (λ (c : Content). ¬ (IsScope c)) (ok_same (displayed kind.List vs) (object.list vs) c refl is) (λ h. h)
  display_value kind.Tuple is = subst (λ (c : Content). ¬ (IsScope c)) (ok_same (displayed kind.Tuple vs) (object.tuple vs) c refl is) (λ h. h)
  display_value kind.Dict is = let held = display_held heap vs c is all_sound in subst (λ (c : Content). ¬ (IsScope c)) (sym held.is) (λ h. h)

  display_named : (names : List (List ℕ)) (d : Display) → displayed d vs ≡ Ok c → IsNamed names c
  display_named names kind.List is = subst (IsNamed names) (ok_same (displayed kind.List vs) (object.list vs) c refl is) tt
  display_named names kind.Tuple is = subst (IsNamed names) (ok_same (displayed kind.Tuple vs) (object.tuple vs) c refl is) tt
  display_named names kind.Dict is = let held = display_held heap vs c is all_sound in subst (IsNamed names) (sym held.is) tt

-- after a display
pub display_faithful : (w : World) (store : Cells) (r : Result Value OpEnd) (side : Side) (d : Display) (vs : List Value) (c : Content) → AreFit w.store.heap side vs → displayed d vs ≡ Ok c
    → OnOk r (store ≡ made w.store side c) → OnErr r (store ≡ w.store) → IsFaithful w → IsFaithful (with_store w store)
display_faithful w store (Ok v) side d vs c fit are is same h =
    IsFaithful-stored w store (subst (λ (s : Cells). AreNamed w.names s.heap) (sym is)
    (more_named w.names w.store.heap (record { owner = side; content = c }) (display_named w.store.heap side vs c fit w.names d are) h.classes)) h
display_faithful w store (Err e) side d vs c fit are is same h = same_heap_faithful w store (ap (λ (s : Cells). s.heap) same) h

-- a new object is fit for its side
new_is : (over : Bool) (v : Value) (s t x : plain.State) → on_value (if over then ends no_cell s else gives (record { 0 = length s.store.heap }) x) (λ (at : Oid) s. gives (value.Ref at) s) ≡ gives v t
    → v ≡ value.Ref (record { 0 = length s.store.heap })
new_is true v s t x e = let a : Err no_cell ≡ Ok v = ap (λ (o : plain.Outcome Value). o.answer) e in absurd (cc)
new_is false v s t x e = let a : Ok (value.Ref (record { 0 = length s.store.heap })) ≡ Ok v = ap (λ (o : plain.Outcome Value). o.answer) e in cc

pub new_fit : (r : Result Value OpEnd) (side : Side) (c : Content) (old new : Cells) → Meets r (plain.state_of new 0) (new_object side c (plain.state_of old 0)) → OnOk r (new ≡ made old side c)
    → IfOk r (IsSound new.heap) → IfOk r (IsFit new.heap side)
new_fit (Ok v) side c old new is same sound =
    let place = new_is (nat_lt old.limit (old.used + cost c)) v (plain.state_of old 0) (plain.state_of new 0) _ is in (
      sound,
      subst (IsSafe new.heap side) (sym place)
          (λ _. subst (λ (cells : Cells). owner_at cells.heap (record { 0 = length old.heap }) ≡ Some side) (sym same)
          (ap (option_map (λ (o : Owned). o.owner)) (slice_get-last old.heap (record { owner = side; content = c })))),
    )
new_fit (Err e) side c old new is same sound = tt
