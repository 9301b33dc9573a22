-- Objects that are made of a dict.
use Rattle.std.proofs.Common.{◌≡◌, ◌+◌, ◌*◌, List, [], Some, Result, length, sym, subst}
use Rattle.rp_base.specs.declared.value.Oid.{Oid}
use Rattle.rp_base.specs.declared.value.OpEnd.{OpEnd}
use Rattle.rp_base.specs.declared.value.Rock.{Rock}
use Rattle.rp_base.specs.declared.value.Side.{Side}
use Rattle.rp_base.specs.declared.value.Value.{Value}
use Rattle.rp_store.specs.Heap.{owner_at}
use Rattle.rp_store.specs.Object.{Content}
use Rattle.rp_ops.specs.Binary.{new_object}
use Rattle.rp_ops.specs.Outcome.{Meets, State, charged}
use Rattle.rp_items.specs.Slices.{owner_of}
use Rattle.rp_methods.specs.Dicts.{entries_of, items, pairs, tuples_listed}
use Rattle.rp_items.proofs.CallerLemmas.{owner-is}

-- the same object is made
pub made-same : (r : Result Value OpEnd) (s t : State) (at : Oid) (owner : Side) (c d : Content) → owner_at s.store.heap at ≡ Some owner → c ≡ d
    → Meets r t (new_object owner c s) → Meets r t (new_object (owner_of at s) d s)
made-same r s t at owner c d held same h =
    subst (λ (side : Side). Meets r t (new_object side d s)) (sym (owner-is at s owner held)) (subst (λ (x : Content). Meets r t (new_object owner x s)) same h)

-- the same tuples are listed
pub items-same : (r : Result Value OpEnd) (s t : State) (at : Oid) (owner : Side) (es : List (Rock × Value)) → owner_at s.store.heap at ≡ Some owner
    → es ≡ pairs (λ v. v) (entries_of s.store.heap at) → Meets r t (charged (1 + length es * 4) s (λ u. tuples_listed owner es [] u)) → Meets r t (items at [] s)
items-same r s t at owner es held same h =
    subst (λ (side : Side). Meets r t (charged (1 + length (pairs (λ v. v) (entries_of s.store.heap at)) * 4) s
    (λ u. tuples_listed side (pairs (λ v. v) (entries_of s.store.heap at)) [] u))) (sym (owner-is at s owner held))
    (subst (λ (xs : List (Rock × Value)). Meets r t (charged (1 + length xs * 4) s (λ u. tuples_listed owner xs [] u))) same h)
