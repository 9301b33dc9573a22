-- What the built-in functions and methods of a run keep, where they are those of the language.
use Rattle.std.proofs.Common.{subst, sym, ℕ, List}
use Rattle.rp_base.specs.declared.native.NativeId.{NativeId}
use Rattle.rp_base.specs.declared.value.Side.{Side}
use Rattle.rp_base.specs.declared.value.Value.{Value}
use Rattle.rp_ops.specs.Outcome as plain
use Rattle.rp_meaning.specs.Frame.{Natives}
use Rattle.rp_fixed_laws.specs.Fixed.{AreBuiltIn}
use Rattle.rp_keeper_laws.proofs.Methods.{method_leaves}
use Rattle.rp_keeper_laws.proofs.Natives.{function_leaves, print_line_leaves}
use Rattle.rp_keeper_laws.specs.PlainKeepers.{Bare, PlainKeeper}
use Rattle.rp_keeper_laws.proofs.Plainly.{Leaves, There}

pub function_done : {k : PlainKeeper} {n : Natives} → AreBuiltIn n
    → (names : List (List ℕ)) (side : Side) (id : NativeId)
    (vs : List Value) (s : plain.State) → There k s → Leaves k (n.function names side id vs s)
function_done {k} b names side id vs s h =
    subst (λ (o : plain.Outcome Value). Leaves k o) (sym (b.functions names side id vs s))
    (function_leaves names side id vs s h)

pub method_done : {k : PlainKeeper} {n : Natives} → AreBuiltIn n → (names : List (List ℕ)) (side : Side) (v : Value)
    (id : NativeId) (vs : List Value) → Bare k v → (s : plain.State) → There k s
    → Leaves k (n.method names side v id vs s)
method_done {k} b names side v id vs p s h =
    subst (λ (o : plain.Outcome Value). Leaves k o) (sym (b.methods names side v id vs s))
    (method_leaves side v id vs p s h)

pub line_printed : {k : PlainKeeper} {n : Natives} → AreBuiltIn n
    → (names : List (List ℕ)) (vs : List Value) (s : plain.State)
    → There k s → Leaves k (n.print_line names vs s)
line_printed {k} b names vs s h =
    subst (λ (o : plain.Outcome (List ℕ)). Leaves k o) (sym (b.lines names vs s)) (print_line_leaves names vs s h)
