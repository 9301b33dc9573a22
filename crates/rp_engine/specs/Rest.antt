-- What a machine still has to do.
use Rattle.std.specs.Prelude.{ℕ, suc, ◌+◌, ◌*◌, true, false, List, [], ◌∷◌, ◌++◌, drop, length, take, reverse, Option}
use Rattle.rp_base.specs.declared.operator.BinOp.{BinOp}
use Rattle.rp_base.specs.declared.operator.BinOp.TheVariants.{Pow}
use Rattle.rp_base.specs.declared.kind.Kind.TheVariants.{AssertionError}
use Rattle.rp_base.specs.declared.value.OpEnd.{OpEnd}
use Rattle.rp_base.specs.declared.value.Value.{Value}
use Rattle.rp_base.specs.declared.word.TheConstants.{STR}
use Rattle.rp_frame.specs.Top.{top, below}
use Rattle.rp_frame.specs.declared.control.Control.{Control}
use Rattle.rp_frame.specs.declared.control.Control.TheVariants as control
use Rattle.rp_frame.specs.declared.display.Display.TheVariants as kind
use Rattle.rp_frame.specs.declared.task.ExprTask.{ExprTask}
use Rattle.rp_frame.specs.declared.task.ExprTask.TheVariants as expr
use Rattle.rp_frame.specs.declared.task.FlowTask.{FlowTask}
use Rattle.rp_frame.specs.declared.task.FlowTask.TheVariants as flow
use Rattle.rp_frame.specs.declared.task.StmtTask.{StmtTask}
use Rattle.rp_frame.specs.declared.task.StmtTask.TheVariants as stmt
use Rattle.rp_frame.specs.declared.task.Task.{Task}
use Rattle.rp_frame.specs.declared.task.Task.TheVariants as task
use Rattle.rp_meaning.specs.Access as access
use Rattle.rp_base.specs.Names.{word_of}
use Rattle.rp_meaning.specs.Calls.{with_named, with_plain}
use Rattle.rp_meaning.specs.Exceptions as exception
use Rattle.rp_meaning.specs.Expressions as forms
use Rattle.rp_meaning.specs.Frame.{Frame, Meaning, Doing, asked_for, bind_name}
use Rattle.rp_meaning.specs.Operators.{operate, operate_unary}
use Rattle.rp_meaning.specs.State.{State, Outcome, Flow, next, broke, continued, returned, on_next, stepped, done, plainly}
use Rattle.rp_meaning.specs.Statements as stmt_forms
use Rattle.rp_meaning.specs.Walks.{on_truth, on_turn, turns}
use Rattle.rp_ops.specs.Outcome.{gives, ends, raises, on_value}
use Rattle.rp_show.specs.Show.{show}
use Rattle.rp_engine.specs.ArgumentSteps.{arguments_at, sum_of, with_all, with_arguments, with_spread, with_spread_behind, with_spread_named}
use Rattle.rp_engine.specs.AugmentSteps.{attribute_augmented, attribute_from, item_augmented, item_from, key_from, name_augmented}
use Rattle.rp_engine.specs.ClassSteps.{class_behind, held_methods}
use Rattle.rp_engine.specs.Ends.{end_of}
use Rattle.rp_engine.specs.ComparisonSteps.{with_test}
use Rattle.rp_engine.specs.DefinitionSteps.{called, with_defaults}
use Rattle.rp_engine.specs.DisplaySteps.{elements, parts}
use Rattle.rp_frame.specs.declared.spot.Inside.TheVariants as within
use Rattle.rp_engine.specs.ComprehensionSteps.{comprehension_of, comprehension_over, does_made, element_added, entry_added}
use Rattle.rp_engine.specs.Does as does
use Rattle.rp_engine.specs.Handling.{handling, left, thrown_of, tried, without_as}
use Rattle.rp_engine.specs.JoinSteps.{later}
use Rattle.rp_engine.specs.RaisingSteps.{raised_value}
use Rattle.rp_engine.specs.SliceSteps.{from_stride, from_upper, with_slice}
use Rattle.rp_engine.specs.SpecialSteps.{from_got, special_called, with_contained, with_length}
use Rattle.rp_engine.specs.TrailerSteps.{with_item}
use Rattle.rp_engine.specs.LoopSteps.{over, walked}
use Rattle.rp_engine.specs.UnpackingSteps.{store_from}
use Rattle.rp_access.specs.Spots.{cursor_at}

-- how a part ends, in a frame with values at hand
pub data Held : Type 0 where
  gave : Frame → List Value → Outcome Value → Held
  did : Frame → List Value → Outcome Flow → Held

-- a turn of a loop, with its step: a test that is false leaves the loop

abbrev pub tested_turn : Value → Doing → Doing
tested_turn v body f s = on_truth v f s (body f) (gives broke)

abbrev pub turn : Meaning → Doing → Doing
turn m body f s = stepped s (λ s. on_value (m f s) (λ v s. tested_turn v body f s))

-- `assert`, from its test, or from its message

abbrev pub asserted : Value → Option Meaning → Doing
asserted v message f s = on_truth v f s done (stmt_forms.failed message f)

abbrev pub failed_with : Value → Doing
failed_with v f s = asked_for f STR v s (λ s. on_value (plainly (show s.names v) s) (λ t s. raises AssertionError t s))

-- the operators behind an operator on two values
abbrev pub with_operands : BinOp → Value → Value → List (BinOp × Meaning) → Meaning
with_operands op a b os f s = on_value (operate op a b f s) (λ v s. forms.operands os v f s)

-- the operators behind a value, from the next one on
abbrev pub next_operand : BinOp → Meaning → List (BinOp × Meaning) → Value → Meaning
next_operand op m os a f s = stepped s (λ s. on_value (m f s) (λ b s. with_operands op a b os f s))

-- what a task does with the end of the part that it waits for

abbrev pub after_expr : ExprTask → Frame → List Value → Outcome Value → Held
after_expr (expr.Operands os) f vs o = gave f vs (on_value o (λ a s. forms.operands (does.ops os.now) a f s))
after_expr (expr.Operand op os) f vs o =
    gave f (below vs) (on_value o (λ b s. with_operands op (top vs) b (does.ops os.now) f s))
after_expr expr.Not f vs o = gave f vs (on_value o (λ v s. on_truth v f s (gives (forms.truth false)) (gives (forms.truth true))))
after_expr (expr.Cond a b) f vs o = gave f vs (on_value o (λ v s. on_truth v f s (does.expr a.now f) (does.expr b.now f)))
after_expr (expr.Unary op) f vs o = gave f vs (on_value o (λ a s. operate_unary op a f s))
after_expr (expr.Power x) f vs o = gave f vs (on_value o (λ a s. on_value (does.expr x.now f s) (λ b s. operate Pow a b f s)))
after_expr expr.Exponent f vs o = gave f (below vs) (on_value o (λ b s. operate Pow (top vs) b f s))
after_expr (expr.Tests ts) f vs o = gave f vs (on_value o (λ a s. forms.tests (does.tests ts.now) a f s))
after_expr (expr.Test t ts) f vs o = gave f (below vs) (on_value o (λ b s. with_test t (top vs) (does.tests ts.now) b f s))
after_expr (expr.Joined all es) f vs o = gave f vs (on_value o (λ v s. later all (does.exprs es.now) v f s))
after_expr (expr.Trailers ts) f vs o = gave f vs (on_value o (λ v s. forms.trailers (does.trailers ts.now) v f s))
after_expr (expr.Key ts) f vs o = gave f (below vs) (on_value o (λ i s. with_item (top vs) (does.trailers ts.now) i f s))
after_expr (expr.Items d n es) f vs o =
    gave f (drop n vs) (on_value o (λ v s. elements d (does.exprs es.now) (reverse (take n vs) ++ v ∷ []) f s))
after_expr (expr.Argument n as' ts) f vs o = gave f (drop (suc n) vs)
    (on_value o (λ v s. with_arguments (does.args as'.now) (does.trailers ts.now) (top (drop n vs)) (reverse (take n vs) ++ v ∷ []) f s))
after_expr (expr.SliceFrom b c ts) f vs o =
    gave f (below vs) (on_value o (λ x s. from_upper (top vs) (does.maybe b.now) (does.maybe c.now) (does.trailers ts.now) x f s))
after_expr (expr.SliceTo c ts) f vs o =
    gave f (below (below vs)) (on_value o (λ y s. from_stride (top (below vs)) (top vs) (does.maybe c.now) (does.trailers ts.now) y f s))
after_expr (expr.SliceStep ts) f vs o = gave f (below (below (below vs)))
    (on_value o (λ z s. with_slice (top (below (below vs))) (top (below vs)) (top vs) (does.trailers ts.now) z f s))
after_expr (expr.DictKey n x ps) f vs o = gave f (drop n vs)
    (on_value o (λ k s. elements kind.Dict (does.expr x.now ∷ parts (does.pairs ps.now)) (reverse (take n vs) ++ k ∷ []) f s))
after_expr (expr.DictValue n ps) f vs o =
    gave f (drop n vs) (on_value o (λ v s. elements kind.Dict (parts (does.pairs ps.now)) (reverse (take n vs) ++ v ∷ []) f s))
after_expr (expr.Comprehension b c cs x) f vs o =
    gave f vs (on_value o (λ v s. comprehension_of b (does.clause c.now) (does.clauses cs.now) (does_made x) v f s))
after_expr (expr.StarArgument n as' ts) f vs o = gave f (drop (suc n) vs)
    (on_value o (λ v s. with_spread (does.args as'.now) (does.trailers ts.now) (top (drop n vs)) (reverse (take n vs)) v f s))
after_expr (expr.NamedArgument n k name as' ts) f vs o = gave f (drop (suc (2 * k + n)) vs)
    (on_value o (λ v s. with_all (does.args as'.now) (does.trailers ts.now) (top (drop (2 * k + n) vs))
    (with_named (arguments_at n k vs) ((word_of s.names name, v) ∷ [])) f s))
after_expr (expr.StarsArgument n k as' ts) f vs o = gave f (drop (suc (2 * k + n)) vs)
    (on_value o (λ v s. with_spread_named (does.args as'.now) (does.trailers ts.now) (top (drop (2 * k + n) vs)) (arguments_at n k vs) v f s))
after_expr (expr.LaterArgument n k as' ts) f vs o = gave f (drop (suc (2 * k + n)) vs)
    (on_value o (λ v s. with_all (does.args as'.now) (does.trailers ts.now) (top (drop (2 * k + n) vs))
    (with_plain (arguments_at n k vs) (v ∷ [])) f s))
after_expr (expr.LaterStar n k as' ts) f vs o = gave f (drop (suc (2 * k + n)) vs)
    (on_value o (λ v s. with_spread_behind (does.args as'.now) (does.trailers ts.now) (top (drop (2 * k + n) vs)) (arguments_at n k vs) v f s))
after_expr (expr.Default name block n ps) f vs o =
    gave f (drop n vs) (on_value o (λ v s. with_defaults name block (does.defaults ps.now) (reverse (take n vs) ++ v ∷ []) f s))
after_expr (expr.Contained t ts) f vs o = gave f (below vs) (on_value o (λ r s. with_contained t (top vs) (does.tests ts.now) r f s))
after_expr (expr.Length ts) f vs o = gave f vs (on_value o (λ r s. with_length (does.trailers ts.now) r f s))

abbrev pub after_stmt : StmtTask → Frame → List Value → Outcome Value → Held
after_stmt stmt.Evaluate f vs o = did f vs (on_value o (λ v s. done s))
after_stmt (stmt.Assign ps) f vs o = did f vs (on_value o (λ v s. stmt_forms.store_all (does.places ps.now) v f s))
after_stmt (stmt.Branch b bs x) f vs o =
    did f vs (on_value o (λ v s. on_truth v f s (does.block b.now f) (stmt_forms.choose (does.branches bs.now) (does.block x.now) f)))
after_stmt (stmt.Test b) f vs o = did f vs (on_value o (λ v s. tested_turn v (does.block b.now) f s))
after_stmt (stmt.Assert m) f vs o = did f vs (on_value o (λ v s. asserted v (does.maybe m.now) f s))
after_stmt stmt.Fail f vs o = did f vs (on_value o (λ v s. failed_with v f s))
after_stmt (stmt.StoreAttr n) f vs o = did f (below vs) (on_value o (λ a s. access.set_attribute a n (top vs) f s))
after_stmt (stmt.StoreItem k) f vs o =
    did f (below vs) (on_value o (λ a s. on_value (does.expr k.now f s) (λ i s. access.set_item a i (top vs) f s)))
after_stmt stmt.StoreKey f vs o = did f (below (below vs)) (on_value o (λ i s. access.set_item (top vs) i (top (below vs)) f s))
after_stmt (stmt.DeleteAttr n) f vs o = did f vs (on_value o (λ a s. access.del_attribute a n f s))
after_stmt (stmt.DeleteItem k) f vs o = did f vs (on_value o (λ a s. on_value (does.expr k.now f s) (λ i s. access.del_item a i f s)))
after_stmt stmt.DeleteKey f vs o = did f (below vs) (on_value o (λ i s. access.del_item (top vs) i f s))
after_stmt (stmt.AugmentName n op) f vs o = did f (below vs) (on_value o (λ b s. name_augmented n op (top vs) b f s))
after_stmt (stmt.For e) f vs o = did f vs (on_value o (λ v s. over (does.target e.target.now) (does.inside e.inside) v f s))
after_stmt stmt.Raise f vs o = did f vs (on_value o (λ v s. raised_value v f s))
after_stmt (stmt.AugmentAttr n op x) f vs o = did f vs (on_value o (λ v s. attribute_from n op (does.expr x.now) v f s))
after_stmt (stmt.AugmentedAttr n op) f vs o =
    did f (below (below vs)) (on_value o (λ b s. attribute_augmented (top (below vs)) n op (top vs) b f s))
after_stmt (stmt.AugmentItem k op x) f vs o = did f vs (on_value o (λ v s. item_from (does.expr k.now) op (does.expr x.now) v f s))
after_stmt (stmt.AugmentKey op x) f vs o = did f (below vs) (on_value o (λ i s. key_from (top vs) op (does.expr x.now) i f s))
after_stmt (stmt.AugmentGot op x) f vs o =
    did f (below (below vs)) (on_value o (λ a s. from_got (top (below vs)) (top vs) op (does.expr x.now) a f s))
after_stmt (stmt.AugmentedItem op) f vs o = did f (below (below (below vs)))
    (on_value o (λ b s. item_augmented (top (below (below vs))) (top (below vs)) op (top vs) b f s))
after_stmt (stmt.Unpack t) f vs o = did f vs (on_value o (λ v s. does.target t.now v f s))
after_stmt (stmt.Handler h hs) f vs o =
    did f (below vs) (on_value o (λ v s. tried (does.handler h.now) (does.handlers hs.now) (thrown_of (top vs)) v f s))
after_stmt stmt.Return f vs o = did f vs (on_value o (λ v s. gives (returned v) s))
after_stmt (stmt.Define name) f vs o = did f vs (on_value o (λ v s. bind_name name v f s))
after_stmt (stmt.Where ts cs a) f vs o = did f vs (on_value o (λ v s. on_truth v f s (does.inside (within.Clause ts cs a) f) done))
after_stmt (stmt.AddElement at) f vs o = did f vs (on_value o (λ v s. element_added at v f s))
after_stmt (stmt.AddKey at x) f vs o = did f vs (on_value o (λ k s. on_value (does.expr x.now f s) (λ v s. entry_added at k v f s)))
after_stmt (stmt.AddEntry at) f vs o = did f (below vs) (on_value o (λ v s. entry_added at (top vs) v f s))
after_stmt (stmt.Method n body i k) f vs o = did f (drop k vs) (on_value o (λ v s. class_behind n (does.parts (drop i body.now))
    (held_methods (reverse (does.parts (take i body.now))) (v ∷ vs)) f s))

-- the turns that a loop may still make
abbrev pub loop : ℕ → Meaning → Doing → Doing
loop n m body f s = turns n (stmt_forms.tested m f) (λ v s. body f s) (tt {0}) s

abbrev pub after_flow : FlowTask → Frame → List Value → Outcome Flow → Held
after_flow (flow.Block xs) f vs o = did f vs (on_next o (does.block xs.now f))
after_flow (flow.While n x b) f vs o = did f vs (on_turn o (loop n (does.expr x.now) (does.block b.now) f))
after_flow (flow.Store ps) f vs o = did f (below vs) (on_next o (stmt_forms.store_all (does.places ps.now) (top vs) f))
after_flow (flow.Delete ps) f vs o = did f vs (on_next o (does.deletes ps.now f))
after_flow (flow.For n p e) f vs o = did f (below vs) (on_turn o (walked n (does.target e.target.now) (does.inside e.inside) (cursor_at (top vs) p) f))
after_flow (flow.StoreEach ts) f vs o = did f (drop (length ts.now) vs) (on_next o (store_from (does.targets ts.now) vs f))
after_flow (flow.Class n body i k) f vs o = did f (drop k vs) (on_value o (λ flow s. class_behind n (does.parts (drop i body.now))
    (held_methods (reverse (does.parts (take i body.now))) vs) f s))
after_flow (flow.Clause ts cs a) f vs o = did f vs (on_next o (does.inside (within.Clause ts cs a) f))
after_flow (flow.Try hs x) f vs o =
    did f vs (exception.otherwise o (does.block x.now f) (λ r s. exception.handle (does.handlers hs.now) r f s))
after_flow (flow.Handled n) f vs o = did (handling (thrown_of (top vs)) f) (below vs) (exception.after o (without_as n f))
after_flow (flow.Finally b) f vs o = did f vs (exception.finally o (does.block b.now f))
after_flow (flow.Leave l) f vs o = did f (below vs) (on_next o (left l (top vs) f))

abbrev pub after : Task → Held → Held
after (task.Expr t) (gave f vs o) = after_expr t f vs o
after (task.Expr t) (did f vs o) = did f vs o
after (task.Stmt t) (gave f vs o) = after_stmt t f vs o
after (task.Stmt t) (did f vs o) = did f vs o
after (task.Flow t) (gave f vs o) = gave f vs o
after (task.Flow t) (did f vs o) = after_flow t f vs o

-- what all tasks do, the last one first
abbrev pub rest : List Task → Held → Held
rest [] h = h
rest (t ∷ ts) h = rest ts (after t h)

-- what is done next, to its end
abbrev pub begun : Frame → Control → List Value → Option OpEnd → State → Held
begun f (control.Expression x) vs end s = gave f vs (does.expr x.now f s)
begun f (control.Statement x) vs end s = did f vs (does.stmt x.now f s)
begun f (control.Block xs) vs end s = did f vs (does.block xs.now f s)
begun f control.Value vs end s = gave f (below vs) (gives (top vs) s)
begun f control.NoValue vs end s = gave f vs (ends (end_of end) s)
begun f control.Next vs end s = did f vs (gives next s)
begun f control.Broke vs end s = did f vs (gives broke s)
begun f control.Continued vs end s = did f vs (gives continued s)
begun f control.CutOff vs end s = did f vs (ends (end_of end) s)
begun f control.Returned vs end s = did f (below vs) (gives (returned (top vs)) s)
begun f (control.Call n k) vs end s = gave f (drop (suc (sum_of n k)) vs) (called (top (drop (sum_of n k) vs)) (arguments_at n k vs) f s)
begun f (control.Special name n) vs end s = gave f (drop (suc n) vs) (special_called name (top (drop n vs)) (reverse (take n vs)) f s)
begun f (control.Comprehension b c cs x p) vs end s =
    gave f (below vs) (comprehension_over b (does.clause c.now) (does.clauses cs.now) (does_made x) (cursor_at (top vs) p) f s)
