-- A heap that gains a container of the side, or nothing.
use Rattle.std.proofs.Common.{◌≡◌, List, [], ◌∷◌, append-nil, Result, Ok, Err, OnOk, OnErr, sym, ap, refl, subst, ◌∙◌}
use Rattle.std.proofs.lemmas.List.Elements.{All-cons, All-nil}
use Rattle.rp_base.specs.declared.value.OpEnd.{OpEnd}
use Rattle.rp_base.specs.declared.value.Side.{Side}
use Rattle.rp_base.specs.declared.value.Value.{Value}
use Rattle.rp_store.specs.Heap.{Owned}
use Rattle.rp_store.specs.Object as object
use Rattle.rp_store.specs.Object.{Content}
use Rattle.rp_store.specs.Parts.{IsScope}
use Rattle.rp_store.specs.Store.{Cells, made}
use Rattle.rp_ops.specs.Growth.{Gains}
use Rattle.rp_native.specs.Objects.{IsContainer, IsContainerOf}

-- a container is no scope
pub not-scope : (c : Content) → IsContainer c → ¬ IsScope c
not-scope (object.list xs) h = λ scope. scope
not-scope (object.tuple xs) h = λ scope. scope
not-scope (object.dict es) h = λ scope. scope
not-scope (object.instance of fields) h = absurd h
not-scope (object.class name declared methods) h = absurd h
not-scope (object.function name unit block within defaults) h = absurd h
not-scope (object.method receiver called) h = absurd h
not-scope (object.scope block parent slots) h = absurd h

-- nothing is gained
pub Gains-same : (P : Owned → Type 0) (old new : List Owned) → new ≡ old → Gains P old new
Gains-same P old new e = ([], (e ∙ sym (append-nil old), All-nil P))

-- a container is gained, or nothing
pub Gains-made : (side : Side) (c : Content) (old new : Cells) (r : Result Value OpEnd) → IsContainer c → OnOk r (new ≡ made old side c) → OnErr r (new ≡ old)
    → Gains (IsContainerOf side) old.heap new.heap
Gains-made side c old new (Ok v) is first second =
    let o : Owned = record { owner = side; content = c } in
    (o ∷ [], (ap (λ (s : Cells). s.heap) first, All-cons (IsContainerOf side) o [] (refl, is) (All-nil (IsContainerOf side))))
Gains-made side c old new (Err e) is first second = Gains-same (IsContainerOf side) old.heap new.heap (ap (λ (s : Cells). s.heap) second)

-- what is gained by a heap that is the same
pub Gains-from : (P : Owned → Type 0) (old between new : List Owned) → between ≡ old → Gains P between new → Gains P old new
Gains-from P old between new e gains = subst (λ (heap : List Owned). Gains P heap new) e gains

pub ruleset growths = (Gains-same)
