-- A world whose store goes on answers as its declarations say.
use Rattle.std.proofs.Common.{ℕ, true, false, List, [], ◌∷◌, ◌++◌, map, subst, sym}
use Rattle.std.specs.List.{All}
use Rattle.std.proofs.lemmas.List.Elements.{All-append, All-cons, All-head, All-nil, All-tail}
use Rattle.rp_store.specs.Heap.{Owned}
use Rattle.rp_store.specs.Object.{Content, list, tuple, dict, instance, class, function, method, scope}
use Rattle.rp_store.specs.Shape.{ShapeStays, shape, shaped}
use Rattle.rp_store.specs.Store.{Cells}
use Rattle.rp_proxy.specs.Faithful.{IsFaithful}
use Rattle.rp_proxy.specs.Held.{AreNamed, IsNamed, IsUndeclared}
use Rattle.rp_proxy.specs.declared.world.World.{World}

-- the world with another store
abbrev pub with_store : World → Cells → World
with_store w store = record w { store = store }

pub IsFaithful-stored : (w : World) (store : Cells) → AreNamed w.names store.heap → IsFaithful w → IsFaithful (with_store w store)
IsFaithful-stored w store named faithful = record {
  read = faithful.read;
  ordered = faithful.ordered;
  rows = faithful.rows;
  rows_within = faithful.rows_within;
  grants = faithful.grants;
  classes = named;
  entries = faithful.entries;
}

undeclared-named : (names : List (List ℕ)) (c : Content) → IsUndeclared c → IsNamed names c
undeclared-named names (list elements) other = tt
undeclared-named names (tuple elements) other = tt
undeclared-named names (dict entries) other = tt
undeclared-named names (instance of fields) other = tt
undeclared-named names (class name true methods) other = absurd other
undeclared-named names (class name false methods) other = tt
undeclared-named names (function name unit block within defaults) other = tt
undeclared-named names (method receiver callee) other = tt
undeclared-named names (scope block parent slots) other = tt

all-named : (names : List (List ℕ)) (heap : List Owned) → All (λ o. IsUndeclared o.content) heap → AreNamed names heap
all-named names [] other = All-nil (λ o. IsNamed names o.content)
all-named names (o ∷ heap) other =
    All-cons (λ o. IsNamed names o.content) o heap (undeclared-named names o.content (All-head (λ o. IsUndeclared o.content) o heap other)) (all-named names heap (All-tail (λ o. IsUndeclared o.content) o heap other))

-- objects are added, none of them a declared class, and any cells are used
pub IsFaithful-added : (w : World) (more : List Owned) (used limit : ℕ) → All (λ o. IsUndeclared o.content) more → IsFaithful w → IsFaithful (with_store w (record { heap = w.store.heap ++ more; used = used; limit = limit }))
IsFaithful-added w more used limit other faithful =
    IsFaithful-stored w (record { heap = w.store.heap ++ more; used = used; limit = limit })
    (All-append (λ o. IsNamed w.names o.content) w.store.heap more faithful.classes (all-named w.names more other)) faithful

shape-named : (names : List (List ℕ)) (c : Content) → IsNamed names c → IsNamed names (shape c)
shape-named names (list elements) named = tt
shape-named names (tuple elements) named = tt
shape-named names (dict entries) named = tt
shape-named names (instance of fields) named = tt
shape-named names (class name true methods) named = named
shape-named names (class name false methods) named = tt
shape-named names (function name unit block within defaults) named = tt
shape-named names (method receiver callee) named = tt
shape-named names (scope block parent slots) named = tt

named-shape : (names : List (List ℕ)) (c : Content) → IsNamed names (shape c) → IsNamed names c
named-shape names (list elements) named = tt
named-shape names (tuple elements) named = tt
named-shape names (dict entries) named = tt
named-shape names (instance of fields) named = tt
named-shape names (class name true methods) named = named
named-shape names (class name false methods) named = tt
named-shape names (function name unit block within defaults) named = tt
named-shape names (method receiver callee) named = tt
named-shape names (scope block parent slots) named = tt

named-shaped : (names : List (List ℕ)) (new : List Owned) → AreNamed names (map shaped new) → AreNamed names new
named-shaped names [] named = All-nil (λ o. IsNamed names o.content)
named-shaped names (n ∷ new) named =
    All-cons (λ o. IsNamed names o.content) n new (named-shape names n.content (All-head (λ o. IsNamed names o.content) (shaped n) (map shaped new) named)) (named-shaped names new (All-tail (λ o. IsNamed names o.content) (shaped n) (map shaped new) named))

shaped-named : (names : List (List ℕ)) (heap : List Owned) → AreNamed names heap → AreNamed names (map shaped heap)
shaped-named names [] named = All-nil (λ o. IsNamed names o.content)
shaped-named names (o ∷ heap) named =
    All-cons (λ o. IsNamed names o.content) (shaped o) (map shaped heap) (shape-named names o.content (All-head (λ o. IsNamed names o.content) o heap named)) (shaped-named names heap (All-tail (λ o. IsNamed names o.content) o heap named))

-- the objects stay, others may be added that are no declared classes, and what objects hold may change
pub IsFaithful-kept : (w : World) (store : Cells) (stays : ShapeStays w.store.heap store.heap) → All (λ o. IsUndeclared o.content) stays.more → IsFaithful w → IsFaithful (with_store w store)
IsFaithful-kept w store stays other faithful =
    let named = All-append (λ o. IsNamed w.names o.content) (map shaped w.store.heap) stays.more (shaped-named w.names w.store.heap faithful.classes) (all-named w.names stays.more other) in
    IsFaithful-stored w store (named-shaped w.names store.heap (subst (AreNamed w.names) (sym stays.same) named)) faithful
