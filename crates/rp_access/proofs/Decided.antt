-- Attributes, items and tests behind their decisions, from what is known of each part.
use Rattle.std.proofs.Common.{◌≡◌, Bool, false, List, Option, Some, None, Ok, refl, sym, ap, ◌∙◌}
use Rattle.std.specs.Prelude.{is_some, not}
use Rattle.std.specs.Option.{option_map}
use Rattle.rp_attributes.specs.Attributes as attributes
use Rattle.rp_base.specs.Names.{word_of}
use Rattle.rp_base.specs.declared.operator.CmpOp.{CmpOp}
use Rattle.rp_base.specs.declared.value.Name.{Name}
use Rattle.rp_base.specs.declared.value.Oid.{Oid}
use Rattle.rp_base.specs.declared.value.OpEnd.{OpEnd}
use Rattle.rp_base.specs.declared.value.Side.{Side}
use Rattle.rp_base.specs.declared.value.Value.{Value}
use Rattle.rp_base.specs.declared.value.Value.TheVariants as value
use Rattle.rp_base.specs.declared.word.TheConstants.{CONTAINS, GET_ITEM}
use Rattle.rp_compare.specs.Membership as membership
use Rattle.rp_compare.specs.Order.{compare}
use Rattle.rp_items.specs.Items as items
use Rattle.rp_meaning.specs.Frame.{through}
use Rattle.rp_meaning.specs.Operators.{comparison_name, mirrored}
use Rattle.rp_meaning.specs.Special.{Special, on_special, special}
use Rattle.rp_meaning.specs.State.{State, Outcome, heap_of, plainly}
use Rattle.rp_ops.specs.Outcome.{gives, on_value}
use Rattle.rp_proxy.specs.Taken.{taken}
use Rattle.rp_store.specs.Heap.{Owned, method_of}
use Rattle.rp_access.specs.Comes.{ComesIfAny, IsEnd}
use Rattle.rp_access.specs.Comparisons.{order_asked, within_asked}
use Rattle.rp_access.specs.Parts.{asking}
use Rattle.rp_access.specs.Reading.{attribute_asked, got_by, item_asked}
use Rattle.rp_access.proofs.Going.{IsEnd-same, IsEnd-then, gives-then}

-- no special method is called
module _ {A : Type 0} (f : Oid → A) where
  none_of : (found : Option Oid) → is_some found ≡ false → option_map f found ≡ None
  none_of None e = refl
  none_of (Some at) e = absurd (cc)

pub no_special_ref : (heap : List Owned) (at : Oid) (name : Name) → is_some (method_of heap at name) ≡ false → special heap (value.Ref at) name ≡ None
no_special_ref heap at name e = none_of _ (method_of heap at name) e

pub no_special_prox : (heap : List Owned) (at : Oid) (name : Name) → is_some (method_of heap at name) ≡ false → special heap (value.Prox at) name ≡ None
no_special_prox heap at name e = none_of _ (method_of heap at name) e

-- the decision on the container was passed, and it has no special method
module _ (call : Special → State → Outcome Value) (side : Side) (o i : Value) (s t : State) (asked : asking GET_ITEM o s ≡ gives (tt {0}) t) (none : special (heap_of t) o GET_ITEM ≡ None) where
  item_plain : item_asked call side o i s ≡ on_value (plainly (items.item o i) t) (got_by side o)
  item_plain =
      gives-then (tt {0}) t (asking GET_ITEM o s) (λ _ s. on_value (on_special (special (heap_of s) o GET_ITEM) call (plainly (items.item o i)) s) (got_by side o)) asked
      ∙ ap (λ (m : Option Special). on_value (on_special m call (plainly (items.item o i)) t) (got_by side o)) none

  pub item_ends : (e : OpEnd) (u : State) → IsEnd e u (plainly (items.item o i) t) → IsEnd e u (item_asked call side o i s)
  item_ends e u is = IsEnd-same e u _ _ item_plain (IsEnd-then e u (plainly (items.item o i) t) (got_by side o) is)

  pub item_gives : (v w : Value) (u : State) → plainly (items.item o i) t ≡ gives v u → w ≡ taken (heap_of u) side (through o v) → item_asked call side o i s ≡ gives w u
  item_gives v w u is took = item_plain ∙ gives-then v u (plainly (items.item o i) t) (got_by side o) is ∙ ap (λ v. gives v u) (sym took)

module _ (call : Special → State → Outcome Bool) (v o : Value) (s t : State) (asked : asking CONTAINS o s ≡ gives (tt {0}) t) (none : special (heap_of t) o CONTAINS ≡ None) where
  pub within_plain : within_asked call v o s ≡ plainly (membership.contains v o) t
  within_plain =
      gives-then (tt {0}) t (asking CONTAINS o s) (λ _ s. on_special (special (heap_of s) o CONTAINS) call (plainly (membership.contains v o)) s) asked
      ∙ ap (λ (m : Option Special). on_special m call (plainly (membership.contains v o)) t) none

module _ (side : Side) (o : Value) (n : Name) (s t : State) (asked : asking n o s ≡ gives (tt {0}) t) where
  attribute_plain : attribute_asked side o n s ≡ on_value (plainly (attributes.attribute side o n (word_of t.names n)) t) (got_by side o)
  attribute_plain =
      gives-then (tt {0}) t (asking n o s) (λ _ s. on_value (plainly (attributes.attribute side o n (word_of s.names n)) s) (got_by side o)) asked

  pub attribute_ends : (e : OpEnd) (u : State) → IsEnd e u (plainly (attributes.attribute side o n (word_of t.names n)) t) → IsEnd e u (attribute_asked side o n s)
  attribute_ends e u is = IsEnd-same e u _ _ attribute_plain (IsEnd-then e u (plainly (attributes.attribute side o n (word_of t.names n)) t) (got_by side o) is)

  pub attribute_gives : (v w : Value) (u : State) → plainly (attributes.attribute side o n (word_of t.names n)) t ≡ gives v u → w ≡ taken (heap_of u) side (through o v)
      → attribute_asked side o n s ≡ gives w u
  attribute_gives v w u is took = attribute_plain ∙ gives-then v u (plainly (attributes.attribute side o n (word_of t.names n)) t) (got_by side o) is ∙ ap (λ v. gives v u) (sym took)

-- the decisions on both operands were passed
pub order_plain : (op : CmpOp) (a b : Value) (s t r : State) (x y : Name) → x ≡ comparison_name op → y ≡ comparison_name (mirrored op)
    → asking x a s ≡ gives (tt {0}) t → asking y b t ≡ gives (tt {0}) r → order_asked op a b s ≡ plainly (compare op a b) r
order_plain op a b s t r x y left right first second =
    ap (λ o. on_value o (λ _ s. on_value (asking (comparison_name (mirrored op)) b s) (λ _ s. plainly (compare op a b) s))) (ap (λ n. asking n a s) (sym left) ∙ first)
    ∙ ap (λ o. on_value o (λ _ s. plainly (compare op a b) s)) (ap (λ n. asking n b t) (sym right) ∙ second)

-- what does not hold, of what may be known
pub negated_comes : (o : Option Bool) (s : State) (out : Outcome Bool) → ComesIfAny (Ok o) s out → ComesIfAny (Ok (option_map not o)) s (on_value out (λ r s. gives (not r) s))
negated_comes (Some r) s out is = gives-then r s out (λ r s. gives (not r) s) is
negated_comes None s out is = tt
