-- A chain of operators, from its first one on; and what is the same in the same world.
use Rattle.std.proofs.Common.{◌≡◌, ◌-◌, ◌≤◌, List, [], ◌∷◌, drop, get_or, take, length, Result, subst, arith}
use Rattle.std.specs.Prelude.{OnOk}
use Rattle.std.proofs.lemmas.List.{take_all}
use Rattle.rp_base.specs.declared.operator.BinOp.{BinOp}
use Rattle.rp_base.specs.declared.value.Value.{Value}
use Rattle.rp_meaning.specs.Expressions as forms
use Rattle.rp_meaning.specs.Frame.{Meaning}
use Rattle.rp_proxy.specs.declared.world.World.{World}
use Rattle.rp_engine.specs.Does as does
use Rattle.rp_engine.specs.Law.{Evaluates}
use Rattle.rp_engine.specs.Rest.{next_operand}
use Rattle.rp_engine.specs.declared.halt.Halt.{Halt}
use Rattle.rp_engine.specs.declared.machine.Machine.{Machine}
use Rattle.rp_tree.specs.declared.expr.Expr.{Expr}

pub operands_front : (m n : Machine) (w v : World) (r : Result (Unit {0}) Halt) (a : Value) (xs : List (BinOp × Expr)) (p q : BinOp × Expr) → 1 ≤ length xs
    → OnOk r (Evaluates (next_operand (get_or xs 0 p).0 (does.expr (get_or xs 0 q).1) (does.ops (take (length xs - 1) (drop 1 xs))) a) m w n v)
    → OnOk r (Evaluates (forms.operands (does.ops xs) a) m w n v)
operands_front m n w v r a [] p q some law = absurd (omega arith)
operands_front m n w v r a (y ∷ ys) p q some law =
    subst (λ (zs : List (BinOp × Expr)). OnOk r (Evaluates (next_operand y.0 (does.expr y.1) (does.ops zs) a) m w n v))
    (take_all (length (y ∷ ys) - 1) ys (omega arith)) law

pub same_ok : {E : Type 0} (m n : Machine) (w u v : World) (r : Result (Unit {0}) E) (M : Meaning) → u ≡ w → OnOk r (Evaluates M m u n v) → OnOk r (Evaluates M m w n v)
same_ok m n w u v r M same law = subst (λ (z : World). OnOk r (Evaluates M m z n v)) same law
