-- A name is unbound, by whether it is bound; and the exception for a name that is not.
use Rattle.std.proofs.Common.{◌≡◌, true, false, Option, Some, None, refl, sym, ap, subst}
use Rattle.std.specs.Prelude.{is_some}
use Rattle.rp_base.specs.declared.value.Name.{Name}
use Rattle.rp_base.specs.declared.value.OpEnd.{OpEnd}
use Rattle.rp_base.specs.declared.value.Raised.{Raised}
use Rattle.rp_base.specs.declared.value.Value.{Value}
use Rattle.rp_meaning.specs.Frame.{Frame, place_of, slot_of, unbind_name, without_name}
use Rattle.rp_meaning.specs.Scopes.{held}
use Rattle.rp_meaning.specs.State.{State, done, heap_of}
use Rattle.rp_ops.specs.Outcome.{Raises, ends, raised}
use Rattle.rp_proxy.proofs.LaterStores.{with_store}
use Rattle.rp_proxy.specs.declared.world.World.{World}
use Rattle.rp_store.specs.Store.{Cells}
use Rattle.rp_access.proofs.Going.{raises_end}
use Rattle.rp_access.specs.Comes.{IsEnd}
use Rattle.rp_access.specs.Moment.{state_of}
use Rattle.rp_engine.specs.Slots.{unbound_at}

module _ (f : Frame) (name : Name) (s : State) where
  of_bound : (o : Option Value) → held (heap_of s) (slot_of f name s) ≡ o → is_some o ≡ true → unbind_name name f s ≡ done (without_name name f s)
  of_bound (Some v) e h = rw e refl
  of_bound None e h = absurd (cc)

  of_unbound : (o : Option Value) → held (heap_of s) (slot_of f name s) ≡ o → is_some o ≡ false → unbind_name name f s ≡ unbound_at (place_of f name) name s
  of_unbound (Some v) e h = absurd (cc)
  of_unbound None e h = rw e refl

  pub bound : is_some (held (heap_of s) (slot_of f name s)) ≡ true → unbind_name name f s ≡ done (without_name name f s)
  bound h = of_bound (held (heap_of s) (slot_of f name s)) refl h

  pub unbound : is_some (held (heap_of s) (slot_of f name s)) ≡ false → unbind_name name f s ≡ unbound_at (place_of f name) name s
  unbound h = of_unbound (held (heap_of s) (slot_of f name s)) refl h

-- a text was counted, which nobody sees
pub counted : (w : World) (store : Cells) → store ≡ w.store → with_store w store ≡ w
counted w store same = ap (with_store w) same

-- the exception whose text was counted
pub counted_end : (A : Type 0) (w : World) (store : Cells) (e : OpEnd) (r : Raised) → store ≡ w.store → Raises e r → IsEnd {A = A} e (state_of (with_store w store)) (ends (raised r) (state_of w))
counted_end A w store e r same is =
    subst (λ (v : World). IsEnd {A = A} e (state_of v) (ends (raised r) (state_of w))) (sym (counted w store same)) (raises_end A e r (state_of w) is)
