-- The cells that are used while a value is shown, and those of the store.
use Rattle.std.proofs.Common.{◌≡◌, ◌≤◌, ◌+◌, ℕ, List, ap, refl, subst, ◌∙◌, arith}
use Rattle.rp_store.specs.Counters.{KeepsCounters}
use Rattle.rp_store.specs.Heap.{Owned}
use Rattle.rp_store.specs.Store.{Cells}
use Rattle.rp_show.specs.ShowView.{KeepsRoom, Room, cells_of}

-- the cells of a store are counted on, and put back into it
pub KeepsCounters-settled : (old new : Cells) (heap : List Owned) (before after : Room) → cells_of heap before ≡ old → KeepsRoom before after → new ≡ cells_of heap after
    → KeepsCounters old new
KeepsCounters-settled old new heap before after first kept last =
    let was : before.used ≡ old.used = ap (λ (s : Cells). s.used) first in
    let is : new.used ≡ after.used = ap (λ (s : Cells). s.used) last in
    let more : before.used ≤ after.used = kept.used in
    record { limit = ap (λ (s : Cells). s.limit) last ∙ kept.limit ∙ ap (λ (s : Cells). s.limit) first; used = omega arith }

-- so many more are used
pub KeepsRoom-more : (used limit cells : ℕ) (now : Room) → ◌≡◌ {A = Room} (record { used = used; limit = limit }) now
    → KeepsRoom now (record { used = used + cells; limit = limit })
KeepsRoom-more used limit cells now is =
    subst (λ (r : Room). KeepsRoom r (record { used = used + cells; limit = limit })) is (record { limit = refl; used = omega arith })

pub KeepsRoom-same : (old new : Room) → new ≡ old → KeepsRoom old new
KeepsRoom-same old new is = subst (λ (r : Room). KeepsRoom r new) is (record { limit = refl; used = omega arith })
