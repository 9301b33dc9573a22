-- A value is put at the end of a list: a world stays faithful, and elsewhere nothing is put.
use Rattle.std.proofs.Common.{◌≡◌, ◌+◌, List, ◌++◌, ◌∷◌, [], ℕ, zero, suc, Option, Some, None, refl, ap, subst}
use Rattle.std.specs.Prelude.{IfSome, if◌then◌else◌, nat_lt, slice_get}
use Rattle.std.specs.Option.{option_map}
use Rattle.rp_base.specs.declared.value.Oid.{Oid}
use Rattle.rp_base.specs.declared.value.Value.{Value}
use Rattle.rp_ops.specs.Outcome as plain
use Rattle.rp_ops.specs.Outcome.{ends, gives, no_cell, with_change}
use Rattle.rp_proxy.specs.Held.{AreNamed}
use Rattle.rp_store.specs.Heap.{Owned, changed_from, content_at}
use Rattle.rp_store.specs.Object.{Content, class, dict, function, instance, list, method, scope, tuple}
use Rattle.rp_store.specs.Parts.{IsList}
use Rattle.rp_store.specs.Writers.{pushed}
use Rattle.rp_access.specs.Adding.{HasNoEnd, charged_one, put}
use Rattle.rp_access.proofs.Naming.{Named, changed_named, charged_named, list_named}

pub put_named : (names : List (List ℕ)) (at : Oid) (v : Value) (s : plain.State) → AreNamed names s.store.heap → Named names (put at v s)
put_named names at v s h =
    charged_named names 1 s (λ s. gives (tt {0}) (with_change s at (pushed v))) h
    (λ t k. changed_named names (pushed v) (list_named names (λ xs. xs ++ v ∷ [])) t.store.heap at.0 k)

-- where no list stands, nothing is put

not_pushed : (c : Content) (v : Value) → ¬ IsList c → pushed v c ≡ c
not_pushed (list xs) v other = absurd (other tt)
not_pushed (tuple xs) v other = refl
not_pushed (dict es) v other = refl
not_pushed (instance of fs) v other = refl
not_pushed (class n d ms) v other = refl
not_pushed (function n u b w ds) v other = refl
not_pushed (method r c) v other = refl
not_pushed (scope b p ss) v other = refl

unpushed : (heap : List Owned) (at : ℕ) (v : Value) → IfSome (option_map (λ o. o.content) (slice_get heap at)) (λ c. ¬ IsList c) → changed_from heap at (pushed v) ≡ heap
unpushed [] at v other = refl
unpushed (o ∷ os) zero v other = ap (λ (c : Content). record { owner = o.owner; content = c } ∷ os) (not_pushed o.content v other)
unpushed (o ∷ os) (suc at) v other = ap (λ (os : List Owned). o ∷ os) (unpushed os at v other)

module _ (heap : List Owned) (at : Oid) where
  no_end : (x : Option Content) → x ≡ content_at heap at → IfSome x (λ c. ¬ IsList c) → HasNoEnd heap at
  no_end x is other v = unpushed heap at.0 v (subst (λ (x : Option Content). IfSome x (λ c. ¬ IsList c)) is other)

  pub some_no_end : (c : Content) → Some c ≡ content_at heap at → ¬ IsList c → HasNoEnd heap at
  some_no_end c is other = no_end (Some c) is other

  pub none_no_end : None ≡ content_at heap at → HasNoEnd heap at
  none_no_end is = no_end None is tt

pub put_nothing : (s : plain.State) (at : Oid) (v : Value) → HasNoEnd s.store.heap at → put at v s ≡ charged_one s
put_nothing s at v none =
    ap (λ (heap : List Owned). if nat_lt s.store.limit (s.store.used + 1) then ends no_cell s else gives (tt {0}) (record s { store = record s.store { heap = heap; used = s.store.used + 1 } }))
    (none v)
