-- Tests of comparisons behind their decisions, with what calls a special method (Python Language Reference, Comparisons; zope.security, proxies).
use Rattle.std.specs.Prelude.{Bool, not}
use Rattle.rp_base.specs.declared.operator.CmpOp.{CmpOp}
use Rattle.rp_base.specs.declared.value.Value.{Value}
use Rattle.rp_base.specs.declared.word.TheConstants.{CONTAINS}
use Rattle.rp_compare.specs.Membership as membership
use Rattle.rp_compare.specs.Order.{compare}
use Rattle.rp_meaning.specs.Operators.{comparison_name, is_nil, mirrored}
use Rattle.rp_meaning.specs.Special.{Special, on_special, special}
use Rattle.rp_meaning.specs.State.{State, Outcome, heap_of, plainly}
use Rattle.rp_ops.specs.Outcome.{gives, on_value}
use Rattle.rp_tree.specs.declared.parts.Test.{Test}
use Rattle.rp_tree.specs.declared.parts.Test.TheVariants as test
use Rattle.rp_access.specs.Parts.{IsForMethod, asking}

abbrev pub order_asked : CmpOp → Value → Value → State → Outcome Bool
order_asked op a b s = on_value (asking (comparison_name op) a s) (λ _ s. on_value (asking (comparison_name (mirrored op)) b s) (λ _ s. plainly (compare op a b) s))

abbrev pub within_asked : (Special → State → Outcome Bool) → Value → Value → State → Outcome Bool
within_asked call v o s = on_value (asking CONTAINS o s) (λ _ s. on_special (special (heap_of s) o CONTAINS) call (plainly (membership.contains v o)) s)

abbrev pub without_asked : (Special → State → Outcome Bool) → Value → Value → State → Outcome Bool
without_asked call v o s = on_value (within_asked call v o s) (λ r s. gives (not r) s)

abbrev pub test_asked : (Special → State → Outcome Bool) → Test → Value → Value → State → Outcome Bool
test_asked call (test.Order op) a b s = order_asked op a b s
test_asked call test.Within a b s = within_asked call a b s
test_asked call test.NotWithin a b s = without_asked call a b s
test_asked call test.Is a b s = gives (is_nil a) s
test_asked call test.IsNot a b s = gives (not (is_nil a)) s

-- a test that a special method is left to do
abbrev pub IsTestLeft : Test → Value → State → State → Type 0
IsTestLeft test.Within b s t = IsForMethod CONTAINS b s t
IsTestLeft test.NotWithin b s t = IsForMethod CONTAINS b s t
IsTestLeft _ b s t = ⊥
