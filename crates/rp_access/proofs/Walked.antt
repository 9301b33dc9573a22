-- Walks behind their decision, from what is known of each part.
use Rattle.std.proofs.Common.{◌≡◌, Result, Ok, Err, sym, ap, subst}
use Rattle.rp_base.specs.declared.meter.Meter.{Meter}
use Rattle.rp_base.specs.declared.value.OpEnd.{OpEnd}
use Rattle.rp_base.specs.declared.value.OpEnd.TheVariants as end
use Rattle.rp_base.specs.declared.value.Raised.{Raised}
use Rattle.rp_base.specs.declared.value.Value.{Value}
use Rattle.rp_base.specs.declared.word.TheConstants.{ITER}
use Rattle.rp_meaning.specs.State.{State, heap_of}
use Rattle.rp_ops.specs.Outcome.{Answers, gives, on_found}
use Rattle.rp_ops.specs.Walk.{Cursor, walk_of}
use Rattle.rp_proxy.proofs.LaterStores.{IsFaithful-stored, with_store}
use Rattle.rp_proxy.specs.Faithful.{IsFaithful}
use Rattle.rp_proxy.specs.Held.{AreNamed}
use Rattle.rp_proxy.specs.declared.world.World.{World}
use Rattle.rp_store.specs.Store.{Cells}
use Rattle.rp_access.specs.Comes.{Comes}
use Rattle.rp_access.specs.Parts.{asking}
use Rattle.rp_access.specs.Spots.{walk_asked}
use Rattle.rp_access.proofs.Going.{Comes-same, gives-then}
use Rattle.rp_access.proofs.Worlds.{IsFaithful-metered, metered}

-- what was found
found_comes : {A : Type 0} (r : Result A OpEnd) (x : Result A Raised) (s : State) → Answers r x → Comes r s (on_found x s gives)
found_comes (Ok a) x s h = ap (λ x. on_found x s gives) h
found_comes (Err (end.Raised r)) x s h = ap (λ x. on_found x s gives) h
found_comes (Err end.StopSteps) x s h = absurd h
found_comes (Err end.StopCells) x s h = absurd h
found_comes (Err end.Memory) x s h = tt

-- a walk is begun, once that is decided
pub walk_comes : (v : Value) (s t : State) (r : Result Cursor OpEnd) → asking ITER v s ≡ gives (tt {0}) t → Answers r (walk_of (heap_of t) v) → Comes r t (walk_asked v s)
walk_comes v s t r is h =
    Comes-same r t _ _ (gives-then (tt {0}) t _ (λ _ s. on_found (walk_of (heap_of s) v) s gives) is) (found_comes r (walk_of (heap_of t) v) t h)

-- a world whose objects are the same, with another meter, is as faithful
pub heaped_faithful : (w : World) (store : Cells) (meter : Meter) → store.heap ≡ w.store.heap → IsFaithful w → IsFaithful (metered (with_store w store) meter)
heaped_faithful w store meter same h =
    IsFaithful-metered (with_store w store) meter (IsFaithful-stored w store (subst (AreNamed w.names) (sym same) h.classes) h)
