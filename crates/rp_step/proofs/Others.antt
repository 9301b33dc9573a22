-- What is left where a control, or a task, is none of some.
use Rattle.std.proofs.Common.{◌≡◌, ◌≢◌, refl}
use Rattle.std.specs.Prelude.{true}
use Rattle.std.proofs.lemmas.Bool.{false≢true}
use Rattle.rp_frame.specs.declared.control.Control.{Control}
use Rattle.rp_frame.specs.declared.control.Control.TheVariants as control
use Rattle.rp_frame.specs.declared.task.ExprTask.{ExprTask}
use Rattle.rp_frame.specs.declared.task.ExprTask.TheVariants as expr
use Rattle.rp_frame.specs.declared.task.StmtTask.{StmtTask}
use Rattle.rp_frame.specs.declared.task.StmtTask.TheVariants as stmt
use Rattle.rp_step.specs.Left.{at_end}
use Rattle.rp_step.specs.TaskGroups.{of_call, of_parts, of_place}

-- a machine that begins no part stands at an end, and there is no other
pub ends_left : (t : Control)
    → ((x : _) → t ≢ control.Expression x) → ((x : _) → t ≢ control.Statement x) → ((x : _) → t ≢ control.Block x)
    → ((x : _) (y : _) → t ≢ control.Call x y) → ((x : _) (y : _) → t ≢ control.Special x y)
    → ((x : _) (y : _) (z : _) (u : _) (v : _) → t ≢ control.Comprehension x y z u v) → at_end t ≡ true
ends_left (control.Expression x) a b c d e f = absurd (a x refl)
ends_left (control.Statement x) a b c d e f = absurd (b x refl)
ends_left (control.Block x) a b c d e f = absurd (c x refl)
ends_left (control.Call x y) a b c d e f = absurd (d x y refl)
ends_left (control.Special x y) a b c d e f = absurd (e x y refl)
ends_left (control.Comprehension x y z u v) a b c d e f = absurd (f x y z u v refl)
ends_left t a b c d e f = refl

pub no_end : (t : Control)
    → at_end t ≡ true → t ≢ control.Value → t ≢ control.NoValue → t ≢ control.Next → t ≢ control.Broke
    → t ≢ control.Continued → t ≢ control.CutOff → t ≢ control.Returned → ⊥
no_end control.Value is a b c d e f g = absurd (a refl)
no_end control.NoValue is a b c d e f g = absurd (b refl)
no_end control.Next is a b c d e f g = absurd (c refl)
no_end control.Broke is a b c d e f g = absurd (d refl)
no_end control.Continued is a b c d e f g = absurd (e refl)
no_end control.CutOff is a b c d e f g = absurd (f refl)
no_end control.Returned is a b c d e f g = absurd (g refl)
no_end t is a b c d e f g = false≢true is

-- tasks of expressions

pub parts_left : (t : ExprTask)
    → ((x : _) → t ≢ expr.Operands x) → ((x : _) (y : _) → t ≢ expr.Operand x y) → t ≢ expr.Not
    → ((x : _) (y : _) → t ≢ expr.Cond x y) → ((x : _) → t ≢ expr.Unary x) → ((x : _) → t ≢ expr.Power x)
    → t ≢ expr.Exponent → ((x : _) → t ≢ expr.Tests x) → ((x : _) (y : _) → t ≢ expr.Test x y)
    → ((x : _) (y : _) → t ≢ expr.Joined x y) → ((x : _) → t ≢ expr.Trailers x) → ((x : _) → t ≢ expr.Key x)
    → ((x : _) (y : _) (z : _) → t ≢ expr.SliceFrom x y z) → ((x : _) (y : _) → t ≢ expr.SliceTo x y)
    → ((x : _) → t ≢ expr.SliceStep x) → ((x : _) (y : _) → t ≢ expr.Contained x y) → ((x : _) → t ≢ expr.Length x)
    → of_parts t ≡ true
parts_left (expr.Operands x) a b c d e f g h i j k l m n o p q = absurd (a x refl)
parts_left (expr.Operand x y) a b c d e f g h i j k l m n o p q = absurd (b x y refl)
parts_left expr.Not a b c d e f g h i j k l m n o p q = absurd (c refl)
parts_left (expr.Cond x y) a b c d e f g h i j k l m n o p q = absurd (d x y refl)
parts_left (expr.Unary x) a b c d e f g h i j k l m n o p q = absurd (e x refl)
parts_left (expr.Power x) a b c d e f g h i j k l m n o p q = absurd (f x refl)
parts_left expr.Exponent a b c d e f g h i j k l m n o p q = absurd (g refl)
parts_left (expr.Tests x) a b c d e f g h i j k l m n o p q = absurd (h x refl)
parts_left (expr.Test x y) a b c d e f g h i j k l m n o p q = absurd (i x y refl)
parts_left (expr.Joined x y) a b c d e f g h i j k l m n o p q = absurd (j x y refl)
parts_left (expr.Trailers x) a b c d e f g h i j k l m n o p q = absurd (k x refl)
parts_left (expr.Key x) a b c d e f g h i j k l m n o p q = absurd (l x refl)
parts_left (expr.SliceFrom x y z) a b c d e f g h i j k l m n o p q = absurd (m x y z refl)
parts_left (expr.SliceTo x y) a b c d e f g h i j k l m n o p q = absurd (n x y refl)
parts_left (expr.SliceStep x) a b c d e f g h i j k l m n o p q = absurd (o x refl)
parts_left (expr.Contained x y) a b c d e f g h i j k l m n o p q = absurd (p x y refl)
parts_left (expr.Length x) a b c d e f g h i j k l m n o p q = absurd (q x refl)
parts_left t a b c d e f g h i j k l m n o p q = refl

pub call_left : (t : ExprTask)
    → of_parts t ≡ true → ((x : _) (y : _) (z : _) → t ≢ expr.Items x y z)
    → ((x : _) (y : _) (z : _) → t ≢ expr.DictKey x y z) → ((x : _) (y : _) → t ≢ expr.DictValue x y)
    → ((x : _) (y : _) (z : _) (u : _) → t ≢ expr.Comprehension x y z u)
    → ((x : _) (y : _) (z : _) (u : _) → t ≢ expr.Default x y z u) → of_call t ≡ true
call_left (expr.Items x y z) is a b c d e = absurd (a x y z refl)
call_left (expr.DictKey x y z) is a b c d e = absurd (b x y z refl)
call_left (expr.DictValue x y) is a b c d e = absurd (c x y refl)
call_left (expr.Comprehension x y z u) is a b c d e = absurd (d x y z u refl)
call_left (expr.Default x y z u) is a b c d e = absurd (e x y z u refl)
call_left t is a b c d e = is

pub no_argument : (t : ExprTask)
    → of_call t ≡ true → ((x : _) (y : _) (z : _) → t ≢ expr.Argument x y z)
    → ((x : _) (y : _) (z : _) → t ≢ expr.StarArgument x y z)
    → ((x : _) (y : _) (z : _) (u : _) (v : _) → t ≢ expr.NamedArgument x y z u v)
    → ((x : _) (y : _) (z : _) (u : _) → t ≢ expr.StarsArgument x y z u)
    → ((x : _) (y : _) (z : _) (u : _) → t ≢ expr.LaterArgument x y z u)
    → ((x : _) (y : _) (z : _) (u : _) → t ≢ expr.LaterStar x y z u) → ⊥
no_argument (expr.Argument x y z) is a b c d e f = absurd (a x y z refl)
no_argument (expr.StarArgument x y z) is a b c d e f = absurd (b x y z refl)
no_argument (expr.NamedArgument x y z u v) is a b c d e f = absurd (c x y z u v refl)
no_argument (expr.StarsArgument x y z u) is a b c d e f = absurd (d x y z u refl)
no_argument (expr.LaterArgument x y z u) is a b c d e f = absurd (e x y z u refl)
no_argument (expr.LaterStar x y z u) is a b c d e f = absurd (f x y z u refl)
no_argument t is a b c d e f = false≢true is

-- tasks of statements

pub place_left : (t : StmtTask)
    → t ≢ stmt.Evaluate → ((x : _) → t ≢ stmt.Assign x) → ((x : _) (y : _) (z : _) → t ≢ stmt.Branch x y z)
    → ((x : _) → t ≢ stmt.Test x) → ((x : _) → t ≢ stmt.Assert x) → t ≢ stmt.Fail → ((x : _) → t ≢ stmt.For x)
    → t ≢ stmt.Raise → ((x : _) → t ≢ stmt.Unpack x) → ((x : _) (y : _) → t ≢ stmt.Handler x y) → t ≢ stmt.Return
    → ((x : _) → t ≢ stmt.Define x) → ((x : _) (y : _) (z : _) → t ≢ stmt.Where x y z)
    → ((x : _) → t ≢ stmt.AddElement x) → ((x : _) (y : _) → t ≢ stmt.AddKey x y) → ((x : _) → t ≢ stmt.AddEntry x)
    → ((x : _) (y : _) (z : _) (u : _) → t ≢ stmt.Method x y z u) → of_place t ≡ true
place_left stmt.Evaluate a b c d e f g h i j k l m n o p q = absurd (a refl)
place_left (stmt.Assign x) a b c d e f g h i j k l m n o p q = absurd (b x refl)
place_left (stmt.Branch x y z) a b c d e f g h i j k l m n o p q = absurd (c x y z refl)
place_left (stmt.Test x) a b c d e f g h i j k l m n o p q = absurd (d x refl)
place_left (stmt.Assert x) a b c d e f g h i j k l m n o p q = absurd (e x refl)
place_left stmt.Fail a b c d e f g h i j k l m n o p q = absurd (f refl)
place_left (stmt.For x) a b c d e f g h i j k l m n o p q = absurd (g x refl)
place_left stmt.Raise a b c d e f g h i j k l m n o p q = absurd (h refl)
place_left (stmt.Unpack x) a b c d e f g h i j k l m n o p q = absurd (i x refl)
place_left (stmt.Handler x y) a b c d e f g h i j k l m n o p q = absurd (j x y refl)
place_left stmt.Return a b c d e f g h i j k l m n o p q = absurd (k refl)
place_left (stmt.Define x) a b c d e f g h i j k l m n o p q = absurd (l x refl)
place_left (stmt.Where x y z) a b c d e f g h i j k l m n o p q = absurd (m x y z refl)
place_left (stmt.AddElement x) a b c d e f g h i j k l m n o p q = absurd (n x refl)
place_left (stmt.AddKey x y) a b c d e f g h i j k l m n o p q = absurd (o x y refl)
place_left (stmt.AddEntry x) a b c d e f g h i j k l m n o p q = absurd (p x refl)
place_left (stmt.Method x y z u) a b c d e f g h i j k l m n o p q = absurd (q x y z u refl)
place_left t a b c d e f g h i j k l m n o p q = refl

pub no_place : (t : StmtTask)
    → of_place t ≡ true → ((x : _) → t ≢ stmt.StoreAttr x) → ((x : _) → t ≢ stmt.StoreItem x) → t ≢ stmt.StoreKey
    → ((x : _) → t ≢ stmt.DeleteAttr x) → ((x : _) → t ≢ stmt.DeleteItem x) → t ≢ stmt.DeleteKey
    → ((x : _) (y : _) → t ≢ stmt.AugmentName x y) → ((x : _) (y : _) (z : _) → t ≢ stmt.AugmentAttr x y z)
    → ((x : _) (y : _) → t ≢ stmt.AugmentedAttr x y) → ((x : _) (y : _) (z : _) → t ≢ stmt.AugmentItem x y z)
    → ((x : _) (y : _) → t ≢ stmt.AugmentKey x y) → ((x : _) (y : _) → t ≢ stmt.AugmentGot x y)
    → ((x : _) → t ≢ stmt.AugmentedItem x) → ⊥
no_place (stmt.StoreAttr x) is a b c d e f g h i j k l m = absurd (a x refl)
no_place (stmt.StoreItem x) is a b c d e f g h i j k l m = absurd (b x refl)
no_place stmt.StoreKey is a b c d e f g h i j k l m = absurd (c refl)
no_place (stmt.DeleteAttr x) is a b c d e f g h i j k l m = absurd (d x refl)
no_place (stmt.DeleteItem x) is a b c d e f g h i j k l m = absurd (e x refl)
no_place stmt.DeleteKey is a b c d e f g h i j k l m = absurd (f refl)
no_place (stmt.AugmentName x y) is a b c d e f g h i j k l m = absurd (g x y refl)
no_place (stmt.AugmentAttr x y z) is a b c d e f g h i j k l m = absurd (h x y z refl)
no_place (stmt.AugmentedAttr x y) is a b c d e f g h i j k l m = absurd (i x y refl)
no_place (stmt.AugmentItem x y z) is a b c d e f g h i j k l m = absurd (j x y z refl)
no_place (stmt.AugmentKey x y) is a b c d e f g h i j k l m = absurd (k x y refl)
no_place (stmt.AugmentGot x y) is a b c d e f g h i j k l m = absurd (l x y refl)
no_place (stmt.AugmentedItem x) is a b c d e f g h i j k l m = absurd (m x refl)
no_place t is a b c d e f g h i j k l m = false≢true is
