-- A step, a decision on a value, and operations behind their decisions (zope.security, proxies); each is a part of a form of rp_meaning.
use Rattle.std.specs.Prelude.{◌≡◌, ℕ, Bool, IsTrue, List, is_some}
use Rattle.rp_base.specs.Names.{word_of}
use Rattle.rp_base.specs.declared.operator.BinOp.{BinOp}
use Rattle.rp_base.specs.declared.operator.UnOp.{UnOp}
use Rattle.rp_base.specs.declared.value.Name.{Name}
use Rattle.rp_base.specs.declared.value.Side.{Side}
use Rattle.rp_base.specs.declared.value.Value.{Value}
use Rattle.rp_base.specs.declared.word.TheConstants.{BOOL, STR}
use Rattle.rp_checker.specs.RowOf.{reading}
use Rattle.rp_meaning.specs.Frame.{decided}
use Rattle.rp_meaning.specs.Operators.{left_name, right_name, unary_name}
use Rattle.rp_meaning.specs.Special.{special}
use Rattle.rp_meaning.specs.State.{State, Outcome, heap_of, monitor_of, plainly}
use Rattle.rp_ops.specs.Binary as binary
use Rattle.rp_ops.specs.Operand.{truth_of}
use Rattle.rp_ops.specs.Outcome as plain
use Rattle.rp_ops.specs.Outcome.{gives, on_found, on_value}
use Rattle.rp_proxy.specs.Decide.{decide}
use Rattle.rp_proxy.specs.Taken.{taken}
use Rattle.rp_show.specs.Show.{show}

-- a step is taken
abbrev pub step_end : State → Outcome (Unit {0})
step_end s = plainly (λ p. plain.stepped p (gives (tt {0}))) s

-- whether the name may be read on the value
abbrev pub asking : Name → Value → State → Outcome (Unit {0})
asking name v s = decided (decide v (reading (word_of s.names name)) (monitor_of s)) s (gives (tt {0}))

-- the truth of a value, which is decided
abbrev pub truth_asked : Value → State → Outcome Bool
truth_asked v s = on_value (asking BOOL v s) (λ _ s. gives (truth_of (heap_of s) v) s)

-- `a op b`
abbrev pub operated : Side → BinOp → Value → Value → State → Outcome Value
operated side op a b s =
    on_value (asking (left_name op) a s) (λ _ s. on_value (asking (right_name op) b s) (λ _ s.
    on_value (plainly (binary.binary side op a b) s) (λ v s. gives (taken (heap_of s) side v) s)))

-- a unary operator
abbrev pub unary_asked : UnOp → Value → State → Outcome Value
unary_asked op a s = on_value (asking (unary_name op) a s) (λ _ s. on_found (binary.int_value (binary.unary (heap_of s) op a)) s gives)

-- the text of a value, which is decided
abbrev pub shown : Value → State → Outcome (List ℕ)
shown v s = on_value (asking STR v s) (λ _ s. plainly (show s.names v) s)

-- it is decided whether the name may be read on the value, whose special method of that name is then to be called (Python Language Reference, Special
-- method names)
abbrev pub IsForMethod : Name → Value → State → State → Type 0
IsForMethod name v s t = (asking name v s ≡ gives (tt {0}) t) × IsTrue (is_some (special (heap_of t) v name))
