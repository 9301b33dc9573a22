-- What stands at the places of a hash table, and when two of them are the same.
use Rattle.std.specs.Prelude.{◌≡◌, ℕ, Bool, true, false, nat_eq, List, IsTrue, refl}
use Rattle.std.proofs.Common.{sym, ap, true≢false}
use Rattle.std.specs.Borrow.{Bor}
use Rattle.std.specs.Cmp.{IsEquivalence, IsPartialEquivalence, nat_eq_equiv, partial_equiv_from_equiv}
use Rattle.std.specs.Hash as fed
use Rattle.std.proofs.lemmas.Bool.{eqb-true}
use Rattle.rp_dict.specs.declared.slot.Slot.{Slot}
use Rattle.rp_dict.specs.declared.slot.Slot.TheVariants.{Live, Dead}

module _ {K : Type 0} where
  abbrev pub slot_eq : (K → K → Bool) → Slot K → Slot K → Bool
  slot_eq eq (Live a) (Live b) = eq a b
  slot_eq eq (Live a) (Dead n) = false
  slot_eq eq (Dead m) (Live b) = false
  slot_eq eq (Dead m) (Dead n) = nat_eq m n

  pub slot_per : {eq : K → K → Bool} → IsPartialEquivalence eq → IsPartialEquivalence (slot_eq eq)
  slot_per {eq} p = record { symm = turned; trans = through }
    where
      marks : IsPartialEquivalence nat_eq
      marks = partial_equiv_from_equiv nat_eq_equiv

      turned : (x y : Slot K) → slot_eq eq x y ≡ slot_eq eq y x
      turned (Live a) (Live b) = p.symm a b
      turned (Live a) (Dead n) = refl
      turned (Dead m) (Live b) = refl
      turned (Dead m) (Dead n) = marks.symm m n

      through : (x y z : Slot K) → slot_eq eq x y ≡ true → slot_eq eq y z ≡ true → slot_eq eq x z ≡ true
      through (Live a) (Live b) (Live c) h i = p.trans a b c h i
      through (Live a) (Live b) (Dead n) h i = absurd (true≢false (sym i))
      through (Live a) (Dead n) z h i = absurd (true≢false (sym h))
      through (Dead m) (Live b) z h i = absurd (true≢false (sym h))
      through (Dead m) (Dead n) (Live c) h i = absurd (true≢false (sym i))
      through (Dead m) (Dead n) (Dead o) h i = marks.trans m n o h i

  pub slot_equiv : {eq : K → K → Bool} → IsEquivalence eq → IsEquivalence (slot_eq eq)
  slot_equiv {eq} e = record { refl = itself; symm = (slot_per (partial_equiv_from_equiv e)).symm; congr = along }
    where
      itself : (x : Slot K) → slot_eq eq x x ≡ true
      itself (Live a) = e.refl a
      itself (Dead m) = nat_eq_equiv.refl m

      along : (x y z : Slot K) → slot_eq eq x y ≡ true → slot_eq eq x z ≡ slot_eq eq y z
      along (Live a) (Live b) (Live c) h = e.congr a b c h
      along (Live a) (Live b) (Dead n) h = refl
      along (Live a) (Dead n) z h = absurd (true≢false (sym h))
      along (Dead m) (Live b) z h = absurd (true≢false (sym h))
      along (Dead m) (Dead n) (Live c) h = refl
      along (Dead m) (Dead n) (Dead o) h = nat_eq_equiv.congr m n o h

  -- a key is hashed as it is by itself
  abbrev pub slot_input : (K → List (List ℕ)) → Slot K → List (List ℕ)
  slot_input h (Live k) = h k
  slot_input h (Dead m) = fed.u64 m

  pub slot_alike : (eq : K → K → Bool) (h : K → List (List ℕ)) → ((x y : K) → IsTrue (eq x y) → h x ≡ h y) → (x y : Slot K) → IsTrue (slot_eq eq x y) → slot_input h x ≡ slot_input h y
  slot_alike eq h alike (Live a) (Live b) t = alike a b t
  slot_alike eq h alike (Live a) (Dead n) t = absurd (true≢false (sym t))
  slot_alike eq h alike (Dead m) (Live b) t = absurd (true≢false (sym t))
  slot_alike eq h alike (Dead m) (Dead n) t = ap fed.u64 (eqb-true m n t)

module _ {K : Type 0} where
  -- the slot that is sought is this one
  abbrev pub sought : (K → K → Bool) → Slot (Bor K) → Slot K → Bool
  sought eq (Live a) (Live b) = eq a.now b
  sought eq (Live a) (Dead n) = false
  sought eq (Dead m) (Live b) = false
  sought eq (Dead m) (Dead n) = nat_eq m n

  pub sought_alike : (eq : K → K → Bool) (h : K → List (List ℕ)) → ((x y : K) → IsTrue (eq x y) → h x ≡ h y) → (q : Slot (Bor K)) (x : Slot K) → IsTrue (sought eq q x) → slot_input {K = Bor K} (λ r. h r.now) q ≡ slot_input h x
  sought_alike eq h alike (Live a) (Live b) t = alike a.now b t
  sought_alike eq h alike (Live a) (Dead n) t = absurd (true≢false (sym t))
  sought_alike eq h alike (Dead m) (Live b) t = absurd (true≢false (sym t))
  sought_alike eq h alike (Dead m) (Dead n) t = ap fed.u64 (eqb-true m n t)

  pub sought_same : {eq : K → K → Bool} → IsEquivalence eq → (q : Slot (Bor K)) (x y : Slot K) → IsTrue (sought eq q x) → sought eq q y ≡ slot_eq eq x y
  sought_same e (Live a) (Live b) (Live c) t = e.congr a.now b c t
  sought_same e (Live a) (Live b) (Dead n) t = refl
  sought_same e (Live a) (Dead n) y t = absurd (true≢false (sym t))
  sought_same e (Dead m) (Live b) y t = absurd (true≢false (sym t))
  sought_same e (Dead m) (Dead n) (Live c) t = refl
  sought_same e (Dead m) (Dead n) (Dead o) t = nat_eq_equiv.congr m n o t
