-- A world stays faithful where a class is made that is not declared, or gets other methods.
use Rattle.std.proofs.Common.{◌≡◌, ◌+◌, ◌∷◌, ◌++◌, Bool, true, false, List, [], ℕ, length, sym, ap, ◌∙◌, subst}
use Rattle.std.specs.Prelude.{if◌then◌else◌, nat_lt, slice_get}
use Rattle.std.specs.Option.{option_map}
use Rattle.rp_base.specs.declared.value.Oid.{Oid}
use Rattle.rp_base.specs.declared.value.Side.{Side}
use Rattle.rp_base.specs.declared.value.Value.TheVariants as value
use Rattle.rp_meaning.specs.Classes.{Methods}
use Rattle.rp_ops.specs.Outcome as plain
use Rattle.rp_ops.specs.Outcome.{ends, gives, no_cell, with_change}
use Rattle.rp_proxy.specs.Held.{AreNamed, IsNamed}
use Rattle.rp_store.specs.Cost.{cost}
use Rattle.rp_store.specs.Heap.{Owned}
use Rattle.rp_store.specs.Kept.{IsFit}
use Rattle.rp_store.specs.Object.{Content, class, dict, function, instance, list, method, scope, tuple}
use Rattle.rp_store.specs.Parts.{IsClass, IsScope}
use Rattle.rp_store.specs.Store.{Cells, made}
use Rattle.rp_store.specs.Writers.{with_methods}
use Rattle.rp_store.proofs.CallerLemmas.{IsSound-last, slice_get-last}
use Rattle.rp_access.specs.ClassObjects.{renewed_plainly}
use Rattle.rp_access.proofs.Naming.{Named, changed_named, charged_named}
use Rattle.rp_access.proofs.Namings.{more_named}

module _ (names : List (List ℕ)) where
  makes_by : (over : Bool) (side : Side) (c : Content) (s : plain.State) → IsNamed names c → AreNamed names s.store.heap
      → AreNamed names (if over then ends {A = Oid} no_cell s else gives (record { 0 = length s.store.heap }) (record s { store = made s.store side c })).state.store.heap
  makes_by true side c s is h = h
  makes_by false side c s is h = more_named names s.store.heap (record { owner = side; content = c }) is h

  pub makes_named : (side : Side) (c : Content) (s : plain.State) → IsNamed names c → AreNamed names s.store.heap → AreNamed names (plain.makes side c s).state.store.heap
  makes_named side c s is h = makes_by (nat_lt s.store.limit (s.store.used + cost c)) side c s is h

  methods_named : (ms : Methods) (c : Content) → IsNamed names c → IsNamed names (with_methods ms c)
  methods_named ms (list xs) h = h
  methods_named ms (tuple xs) h = h
  methods_named ms (dict es) h = h
  methods_named ms (instance of fs) h = h
  methods_named ms (class n true old) h = h
  methods_named ms (class n false old) h = h
  methods_named ms (function n u b w ds) h = h
  methods_named ms (method r f) h = h
  methods_named ms (scope b p ss) h = h

  pub renewed_named : (at : Oid) (ms : Methods) (s : plain.State) → AreNamed names s.store.heap → Named names (renewed_plainly at ms s)
  renewed_named at ms s h =
      charged_named names (length ms) s (λ s. gives at (with_change s at (with_methods ms))) h (λ t k. changed_named names (with_methods ms) (methods_named ms) t.store.heap at.0 k)

-- a new class is fit for its side

no_scope : (c : Content) → IsClass c → ¬ IsScope c
no_scope (list xs) h = absurd h
no_scope (tuple xs) h = absurd h
no_scope (dict es) h = absurd h
no_scope (instance of fs) h = absurd h
no_scope (class n d ms) h = λ k. k
no_scope (function n u b w ds) h = absurd h
no_scope (method r c) h = absurd h
no_scope (scope b p ss) h = absurd h

pub class_fit : (side : Side) (c : Content) (old new : Cells) (at : Oid) → IsClass c → at.0 ≡ length old.heap → new ≡ made old side c → IsFit new.heap side (value.Ref at)
class_fit side c old new at is place same =
    let o : Owned = record { owner = side; content = c } in
    subst (λ (cells : Cells). IsFit cells.heap side (value.Ref at)) (sym same) (
      IsSound-last old.heap o at place (no_scope c is),
      (λ _. ap (λ (i : ℕ). option_map (λ (p : Owned). p.owner) (slice_get (old.heap ++ o ∷ []) i)) place ∙ ap (option_map (λ (p : Owned). p.owner)) (slice_get-last old.heap o)),
    )
