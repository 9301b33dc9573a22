-- A world stays faithful where a new object that is no declared class is added.
use Rattle.std.proofs.Common.{◌≡◌, ℕ, ◌+◌, Bool, true, false, List, [], ◌∷◌, ◌++◌, Option, Some, None, Result, Ok, Err, sym, ap, subst, if◌then◌else◌, length}
use Rattle.std.specs.Prelude.{slice_get, nat_lt, OnErr}
use Rattle.std.specs.Option.{option_map, option_map_or}
use Rattle.std.specs.Map.{lookup}
use Rattle.std.proofs.lemmas.List.Elements.{All-append, All-cons, All-nil}
use Rattle.rp_attributes.specs.Attributes as attributes
use Rattle.rp_attributes.specs.declared.built_ins.Receiver.TheVariants as kind
use Rattle.rp_base.specs.declared.value.Name.{Name}
use Rattle.rp_base.specs.declared.value.Oid.{Oid}
use Rattle.rp_base.specs.declared.value.OpEnd.{OpEnd}
use Rattle.rp_base.specs.declared.value.Rock.TheVariants as rock
use Rattle.rp_base.specs.declared.value.Side.{Side}
use Rattle.rp_base.specs.declared.value.Value.{Value}
use Rattle.rp_base.specs.declared.value.Value.TheVariants as value
use Rattle.rp_ops.specs.Binary.{new_object}
use Rattle.rp_ops.specs.Operand.{lent}
use Rattle.rp_ops.specs.Outcome as plain
use Rattle.rp_ops.specs.Outcome.{End, gives, ends, no_cell, on_answer, on_value, Meets}
use Rattle.rp_proxy.proofs.LaterStores.{with_store, IsFaithful-stored}
use Rattle.rp_proxy.specs.Faithful.{IsFaithful}
use Rattle.rp_proxy.specs.Held.{AreNamed, IsNamed}
use Rattle.rp_proxy.specs.declared.world.World.{World}
use Rattle.rp_store.specs.Cost.{cost}
use Rattle.rp_store.specs.Heap.{Owned}
use Rattle.rp_store.specs.Key.{same_name}
use Rattle.rp_store.specs.Object as object
use Rattle.rp_store.specs.Object.{Content}
use Rattle.rp_store.specs.Parts.{fields}
use Rattle.rp_store.specs.Store.{Cells, made}
use Rattle.rp_store.specs.declared.object.Callee.{Callee}

pub same_heap_faithful : (w : World) (store : Cells) → store.heap ≡ w.store.heap → IsFaithful w → IsFaithful (with_store w store)
same_heap_faithful w store e h = IsFaithful-stored w store (subst (AreNamed w.names) (sym e) h.classes) h

module _ (names : List (List ℕ)) where
  one_named : (o : Owned) → IsNamed names o.content → AreNamed names (o ∷ [])
  one_named o h = All-cons (λ o. IsNamed names o.content) o [] h (All-nil (λ o. IsNamed names o.content))

  pub more_named : (heap : List Owned) (o : Owned) → IsNamed names o.content → AreNamed names heap → AreNamed names (heap ++ o ∷ [])
  more_named heap o is h = All-append (λ o. IsNamed names o.content) heap (o ∷ []) h (one_named o is)

  if_named : (over : Bool) (side : Side) (c : Content) (s : plain.State) → IsNamed names c → AreNamed names s.store.heap
      → AreNamed names (on_value (if over then ends no_cell s else gives (record { 0 = length s.store.heap }) (record s { store = made s.store side c })) (λ (at : Oid) s. gives (value.Ref at) s)).state.store.heap
  if_named true side c s is h = h
  if_named false side c s is h = more_named s.store.heap (record { owner = side; content = c }) is h

  pub new_named : (side : Side) (c : Content) (s : plain.State) → IsNamed names c → AreNamed names s.store.heap → AreNamed names (new_object side c s).state.store.heap
  new_named side c s is h = if_named (nat_lt s.store.limit (s.store.used + cost c)) side c s is h

  bound_named : (side : Side) (v : Value) (called : Option Callee) (word : List ℕ) (s : plain.State) → AreNamed names s.store.heap
      → AreNamed names (attributes.bound side v called word s).state.store.heap
  bound_named side v (Some called) word s h = new_named side (object.method v called) s tt h
  bound_named side v None word s h = h

  member_named : (side : Side) (at : Oid) (field : Option Value) (called : Option Callee) (word : List ℕ) (s : plain.State) → AreNamed names s.store.heap
      → AreNamed names (attributes.field_or_method side at field called word s).state.store.heap
  member_named side at (Some v) called word s h = h
  member_named side at None called word s h = bound_named side (value.Ref at) called word s h

  owned_named : (o : Option Owned) (at : Oid) (name : Name) (word : List ℕ) (s : plain.State) → AreNamed names s.store.heap
      → AreNamed names (option_map_or (λ o. attributes.object_attribute at o name word s) o (attributes.no_attribute word s)).state.store.heap
  owned_named (Some o) at name word s h =
      member_named o.owner at (lookup (same_name name) (fields o.content)) (attributes.method_of o.content name word s) word s h
  owned_named None at name word s h = h

  pub lent_named : (o : plain.Outcome Value) → AreNamed names o.state.store.heap → AreNamed names (on_value o (λ v s. gives (lent v) s)).state.store.heap
  lent_named o h = by o.answer where
    by : (r : Result Value End) → AreNamed names (on_answer r o.state (λ v s. gives (lent v) s)).state.store.heap
    by (Ok v) = h
    by (Err e) = h

  attribute_named : (side : Side) (a : Value) (name : Name) (word : List ℕ) (s : plain.State) → AreNamed names s.store.heap
      → AreNamed names (attributes.attribute side a name word s).state.store.heap
  attribute_named side (value.Rock (rock.Text t)) name word s h =
      bound_named side (value.Rock (rock.Text t)) (option_map _ (attributes.built_in_method kind.Text word)) word s h
  attribute_named side (value.Rock rock.Nil) name word s h = h
  attribute_named side (value.Rock (rock.Truth b)) name word s h = h
  attribute_named side (value.Rock (rock.Int z)) name word s h = h
  attribute_named side (value.Rock (rock.Exc k t)) name word s h = h
  attribute_named side (value.Rock (rock.Kind k)) name word s h = h
  attribute_named side (value.Rock (rock.Native id)) name word s h = h
  attribute_named side (value.Ref at) name word s h = owned_named (slice_get s.store.heap at.0) at name word s h
  attribute_named side (value.Prox at) name word s h = lent_named (attributes.attribute_at at name word s) (owned_named (slice_get s.store.heap at.0) at name word s h)

-- after an attribute
pub attribute_faithful : (w : World) (store : Cells) (r : Result Value OpEnd) (side : Side) (a : Value) (name : Name) (word : List ℕ)
    → Meets r (plain.state_of store 0) (attributes.attribute side a name word (plain.state_of w.store 0)) → OnErr r (store ≡ w.store) → IsFaithful w → IsFaithful (with_store w store)
attribute_faithful w store (Ok v) side a name word is same h =
    IsFaithful-stored w store (subst (λ (o : plain.Outcome Value). AreNamed w.names o.state.store.heap) is (attribute_named w.names side a name word (plain.state_of w.store 0) h.classes)) h
attribute_faithful w store (Err e) side a name word is same h = same_heap_faithful w store (ap (λ (s : Cells). s.heap) same) h

pub ruleset stored_faithful = (same_heap_faithful)
