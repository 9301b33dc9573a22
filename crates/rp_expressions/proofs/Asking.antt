-- Operations behind their decisions: what is asked of rp_meaning's forms is what the code asks.
use Rattle.std.proofs.Common.{◌≡◌, Bool, [], ◌∷◌, refl, ap, ◌∙◌}
use Rattle.std.specs.Prelude.{not}
use Rattle.rp_base.specs.declared.operator.CmpOp.{CmpOp}
use Rattle.rp_base.specs.declared.value.Name.{Name}
use Rattle.rp_base.specs.declared.value.Value.{Value}
use Rattle.rp_base.specs.declared.word.TheConstants.{CONTAINS, GET_ITEM}
use Rattle.rp_base.specs.Names.{word_of}
use Rattle.rp_attributes.specs.Attributes as attributes
use Rattle.rp_compare.specs.Membership as membership
use Rattle.rp_compare.specs.Order.{compare}
use Rattle.rp_frame.specs.declared.activation.Activation.{Activation}
use Rattle.rp_items.specs.Items as items
use Rattle.rp_meaning.specs.Access.{get_attribute, get_item, is_within}
use Rattle.rp_meaning.specs.Binding.{only}
use Rattle.rp_meaning.specs.Frame.{Frame, Run, asked_for}
use Rattle.rp_meaning.specs.Operators.{comparison_name, mirrored, tested}
use Rattle.rp_meaning.specs.Special.{Special, on_special, special}
use Rattle.rp_meaning.specs.State.{State, Outcome, heap_of, plainly}
use Rattle.rp_ops.specs.Operand.{truth_of}
use Rattle.rp_ops.specs.Outcome.{gives, on_value}
use Rattle.rp_tree.specs.declared.parts.Test.{Test}
use Rattle.rp_tree.specs.declared.parts.Test.TheVariants as test
use Rattle.rp_access.specs.Comparisons.{order_asked, test_asked, within_asked}
use Rattle.rp_engine.specs.Moment.{frame_of, run_of}
use Rattle.rp_access.specs.Parts.{asking}
use Rattle.rp_access.specs.Reading.{attribute_asked, got_by, item_asked}
use Rattle.rp_engine.specs.declared.units.Units.{Units}
use Rattle.rp_engine.proofs.Going.{asked_then}
use Rattle.rp_access.proofs.Going.{on_same}

module _ (base : Run) (units : Units) (at : Activation) where
  abbrev frame : Frame
  frame = frame_of (run_of base units) at

  pub order_is : (op : CmpOp) (a b : Value) (s : State) → tested (test.Order op) a b frame s ≡ order_asked op a b s
  order_is op a b s =
      asked_then base units at (comparison_name op) a s (λ s. asked_for frame (comparison_name (mirrored op)) b s (plainly (compare op a b)))
      ∙ on_same (asking (comparison_name op) a s) _ _ (λ u t. asked_then base units at (comparison_name (mirrored op)) b t (plainly (compare op a b)))

  abbrev pub calls_within : Value → Special → State → Outcome Bool
  calls_within v m s = on_value (frame.calls m.function (only (m.of ∷ v ∷ [])) s) (λ r s. gives (truth_of (heap_of s) r) s)

  pub within_is : (v o : Value) (s : State) → is_within v o frame s ≡ within_asked (calls_within v) v o s
  within_is v o s = asked_then base units at CONTAINS o s (λ s. on_special (special (heap_of s) o CONTAINS) (calls_within v) (plainly (membership.contains v o)) s)

  -- a test of a comparison
  pub test_is : (t : Test) (a b : Value) (s : State) → tested t a b frame s ≡ test_asked (calls_within a) t a b s
  test_is (test.Order op) a b s = order_is op a b s
  test_is test.Within a b s = within_is a b s
  test_is test.NotWithin a b s = ap (λ o. on_value o (λ r s. gives (not r) s)) (within_is a b s)
  test_is test.Is a b s = refl
  test_is test.IsNot a b s = refl

  abbrev pub calls_item : Value → Special → State → Outcome Value
  calls_item i m s = frame.calls m.function (only (m.of ∷ i ∷ [])) s

  pub item_is : (o i : Value) (s : State) → get_item o i frame s ≡ item_asked (calls_item i) at.side o i s
  item_is o i s = asked_then base units at GET_ITEM o s (λ s. on_value (on_special (special (heap_of s) o GET_ITEM) (calls_item i) (plainly (items.item o i)) s) (got_by at.side o))

  pub attribute_is : (o : Value) (n : Name) (s : State) → get_attribute o n frame s ≡ attribute_asked at.side o n s
  attribute_is o n s = asked_then base units at n o s (λ s. on_value (plainly (attributes.attribute at.side o n (word_of s.names n)) s) (got_by at.side o))
