-- What tasks pass on, and what is left where none waits.
use Rattle.std.proofs.Common.{◌≡◌, ℕ, zero, suc, ◌+◌, List, [], ◌∷◌, drop, refl, sym, ap, ◌∙◌, subst, arith}
use Rattle.std.proofs.Math.Seq.{drop-nil}
use Rattle.rp_base.specs.declared.value.Value.{Value}
use Rattle.rp_frame.specs.Top.{below}
use Rattle.rp_frame.specs.declared.control.Control.{Control}
use Rattle.rp_frame.specs.declared.task.ExprTask.{ExprTask}
use Rattle.rp_frame.specs.declared.task.ExprTask.TheVariants as expr
use Rattle.rp_frame.specs.declared.task.StmtTask.{StmtTask}
use Rattle.rp_frame.specs.declared.task.StmtTask.TheVariants as stmt
use Rattle.rp_frame.specs.declared.task.Task.{Task}
use Rattle.rp_frame.specs.declared.task.Task.TheVariants as task
use Rattle.rp_meaning.specs.Frame.{Frame, Run}
use Rattle.rp_meaning.specs.State.{State, Outcome, Flow}
use Rattle.rp_ops.specs.Outcome.{End, ends}
use Rattle.rp_proxy.specs.declared.world.World.{World}
use Rattle.rp_engine.specs.Law.{Leaves, Takes, frame_in, rest_of}
use Rattle.rp_engine.specs.WaitSteps.{at_hand, stmt_with}
use Rattle.rp_access.specs.Moment.{state_of}
use Rattle.rp_engine.specs.Ready.{IsReady}
use Rattle.rp_engine.specs.Rest.{Held, after, begun, did, gave, rest}
use Rattle.rp_engine.specs.declared.machine.Machine.{Machine}
use Rattle.rp_engine.proofs.AtHand.{below_ready, drop_ready}

pub below_drop : (vs : List Value) → below vs ≡ drop 1 vs
below_drop [] = refl
below_drop (v ∷ vs) = refl

below_twice : (vs : List Value) → below (below vs) ≡ drop 2 vs
below_twice [] = refl
below_twice (v ∷ vs) = below_drop vs

below_thrice : (vs : List Value) → below (below (below vs)) ≡ drop 3 vs
below_thrice [] = refl
below_thrice (v ∷ vs) = below_twice vs

module _ (f : Frame) (vs : List Value) where
  -- an expression that has no value
  pub expr_cut : (t : ExprTask) (e : End) (s : State) → after (task.Expr t) (gave f vs (ends e s)) ≡ gave f (drop (at_hand t) vs) (ends e s)
  expr_cut (expr.Operands os) e s = refl
  expr_cut (expr.Operand op os) e s = ap (λ vs. gave f vs (ends e s)) (below_drop vs)
  expr_cut expr.Not e s = refl
  expr_cut (expr.Cond a b) e s = refl
  expr_cut (expr.Unary op) e s = refl
  expr_cut (expr.Power x) e s = refl
  expr_cut expr.Exponent e s = ap (λ vs. gave f vs (ends e s)) (below_drop vs)
  expr_cut (expr.Tests ts) e s = refl
  expr_cut (expr.Test t ts) e s = ap (λ vs. gave f vs (ends e s)) (below_drop vs)
  expr_cut (expr.Joined all es) e s = refl
  expr_cut (expr.Trailers ts) e s = refl
  expr_cut (expr.Key ts) e s = ap (λ vs. gave f vs (ends e s)) (below_drop vs)
  expr_cut (expr.Items d n es) e s = refl
  expr_cut (expr.Argument n as' ts) e s = refl
  expr_cut (expr.SliceFrom b c ts) e s = ap (λ vs. gave f vs (ends e s)) (below_drop vs)
  expr_cut (expr.SliceTo c ts) e s = ap (λ vs. gave f vs (ends e s)) (below_twice vs)
  expr_cut (expr.SliceStep ts) e s = ap (λ vs. gave f vs (ends e s)) (below_thrice vs)
  expr_cut (expr.DictKey n x ps) e s = refl
  expr_cut (expr.DictValue n ps) e s = refl
  expr_cut (expr.Comprehension b c cs x) e s = refl
  expr_cut (expr.StarArgument n as' ts) e s = refl
  expr_cut (expr.NamedArgument n k name as' ts) e s = refl
  expr_cut (expr.StarsArgument n k as' ts) e s = refl
  expr_cut (expr.LaterArgument n k as' ts) e s = refl
  expr_cut (expr.LaterStar n k as' ts) e s = refl
  expr_cut (expr.Default name block n ps) e s = refl
  expr_cut (expr.Contained t ts) e s = ap (λ vs. gave f vs (ends e s)) (below_drop vs)
  expr_cut (expr.Length ts) e s = refl

  pub stmt_cut : (t : StmtTask) (e : End) (s : State) → after (task.Stmt t) (gave f vs (ends e s)) ≡ did f (drop (stmt_with t) vs) (ends e s)
  stmt_cut stmt.Evaluate e s = refl
  stmt_cut (stmt.Assign ps) e s = refl
  stmt_cut (stmt.Branch b bs x) e s = refl
  stmt_cut (stmt.Test b) e s = refl
  stmt_cut (stmt.Assert m) e s = refl
  stmt_cut stmt.Fail e s = refl
  stmt_cut (stmt.StoreAttr n) e s = ap (λ vs. did f vs (ends e s)) (below_drop vs)
  stmt_cut (stmt.StoreItem k) e s = ap (λ vs. did f vs (ends e s)) (below_drop vs)
  stmt_cut stmt.StoreKey e s = ap (λ vs. did f vs (ends e s)) (below_twice vs)
  stmt_cut (stmt.DeleteAttr n) e s = refl
  stmt_cut (stmt.DeleteItem k) e s = refl
  stmt_cut stmt.DeleteKey e s = ap (λ vs. did f vs (ends e s)) (below_drop vs)
  stmt_cut (stmt.AugmentName n op) e s = ap (λ vs. did f vs (ends e s)) (below_drop vs)
  stmt_cut (stmt.For x) e s = refl
  stmt_cut stmt.Raise e s = refl
  stmt_cut (stmt.AugmentAttr n op x) e s = refl
  stmt_cut (stmt.AugmentedAttr n op) e s = ap (λ vs. did f vs (ends e s)) (below_twice vs)
  stmt_cut (stmt.AugmentItem k op x) e s = refl
  stmt_cut (stmt.AugmentKey op x) e s = ap (λ vs. did f vs (ends e s)) (below_drop vs)
  stmt_cut (stmt.AugmentGot op x) e s = ap (λ vs. did f vs (ends e s)) (below_twice vs)
  stmt_cut (stmt.AugmentedItem op) e s = ap (λ vs. did f vs (ends e s)) (below_thrice vs)
  stmt_cut (stmt.Unpack t) e s = refl
  stmt_cut (stmt.Handler h hs) e s = ap (λ vs. did f vs (ends e s)) (below_drop vs)
  stmt_cut stmt.Return e s = refl
  stmt_cut (stmt.Define name) e s = refl
  stmt_cut (stmt.Where ts cs a) e s = refl
  stmt_cut (stmt.AddElement at) e s = refl
  stmt_cut (stmt.AddKey at x) e s = refl
  stmt_cut (stmt.AddEntry at) e s = ap (λ vs. did f vs (ends e s)) (below_drop vs)
  stmt_cut (stmt.Method n body i k) e s = refl

-- a task that was taken off
pub leaves_by : (m n : Machine) (w v : World) (t : Task) (ts : List Task) → m.tasks ≡ t ∷ ts → Takes t (record m { tasks = ts }) w n v → Leaves m w n v
leaves_by m n w v t ts is law base = law base ∙ ap (λ ts. rest ts (begun (frame_in base m) m.control m.values m.end (state_of w))) (sym is)

pub leaves_same : (m : Machine) (w : World) (ts : List Task) → m.tasks ≡ [] → ts ≡ [] → Leaves m w (record m { tasks = ts }) w
leaves_same m w ts is none base = ap (λ ts. rest ts (begun (frame_in base m) m.control m.values m.end (state_of w))) (none ∙ sym is)

pub leaves_trans : (m n o : Machine) (w v u : World) → Leaves m w n v → Leaves n v o u → Leaves m w o u
leaves_trans m n o w v u first second base = second base ∙ first base

-- the end of a statement
abbrev pub ended : Held → Outcome Flow → Outcome Flow
ended (gave f vs o) other = other
ended (did f vs o) other = o

pub left_is : (base : Run) (m : Machine) (s : State) (f : Frame) (vs : List Value) (o : Outcome Flow) → m.tasks ≡ [] → rest_of base m s ≡ did f vs o
    → ended (begun (frame_in base m) m.control m.values m.end s) o ≡ o
left_is base m s f vs o none is =
    ap (λ h. ended h o) (ap (λ ts. rest ts (begun (frame_in base m) m.control m.values m.end s)) (sym none) ∙ is)

-- some values at hand were dropped
module _ (m n : Machine) (k : ℕ) (is : n ≡ record m { values = drop k m.values }) where
  pub forgot : (o : Machine) (control : Control)
      → ((base : Run) (s : State) → rest_of base o s ≡ rest n.tasks (begun (frame_in base n) control n.values n.end s))
      → (base : Run) (s : State) → rest_of base o s ≡ rest m.tasks (begun (frame_in base m) control (drop k m.values) m.end s)
  forgot o control law base s = subst (λ (z : Machine). rest_of base o s ≡ rest z.tasks (begun (frame_in base z) control z.values z.end s)) is (law base s)

  pub ready_forgot : (w : World) → IsReady m.units.now m.frame m.values w → IsReady n.units.now n.frame n.values w
  ready_forgot w h = subst (λ (z : Machine). IsReady z.units.now z.frame z.values w) (sym is) (drop_ready m.units.now m.frame k m.values w h)

pub below_dropped : (n : ℕ) (vs : List Value) → below (drop n vs) ≡ drop (suc n) vs
below_dropped n [] = ap below (drop-nil n)
below_dropped zero (v ∷ vs) = refl
below_dropped (suc n) (v ∷ vs) = below_dropped n vs

one_more : (k : ℕ) → suc k ≡ k + 1
one_more k = omega arith

pub popped : (m n : Machine) (k : ℕ) (us : List Value) → n ≡ record m { values = drop k m.values } → us ≡ below n.values
    → record n { values = us } ≡ record m { values = drop (k + 1) m.values }
popped m n k us is last = ap (λ (z : Machine). record z { values = us }) is
    ∙ ap (λ us. record m { values = us }) (last ∙ ap (λ (z : Machine). below z.values) is ∙ below_dropped k m.values ∙ ap (λ j. drop j m.values) (one_more k))

pub ready_less : (m : Machine) (us : List Value) → us ≡ below m.values → (w : World) → IsReady m.units.now m.frame m.values w → IsReady m.units.now m.frame us w
ready_less m us left w h = subst (λ (us : List Value). IsReady m.units.now m.frame us w) (sym left) (below_ready m.units.now m.frame m.values w h)
