-- Runs of code: what a step leaves to be done, where code waits for the ends of calls.
use Rattle.std.proofs.Common.{◌≡◌, ℕ, List, [], ◌∷◌, ◌++◌, drop, Option, Some, None, Result, refl, sym, ap, ◌∙◌, subst}
use Rattle.std.specs.Prelude.{All, Bool, IfSome, OnOk, codes, false, true}
use Rattle.std.proofs.lemmas.List.Elements.{All-append, All-cons, All-head, All-nil, All-tail, All-weaker}
use Rattle.rp_base.specs.declared.value.OpEnd.{OpEnd}
use Rattle.rp_base.specs.declared.kind.Kind.TheVariants.{TypeError}
use Rattle.rp_base.specs.declared.value.Oid.{Oid}
use Rattle.rp_base.specs.declared.value.Rock.TheVariants as rock
use Rattle.rp_base.specs.declared.value.Side.{Side}
use Rattle.rp_base.specs.declared.value.Value.{Value}
use Rattle.rp_base.specs.declared.value.Value.TheVariants as value
use Rattle.rp_frame.specs.declared.activation.Activation.{Activation}
use Rattle.rp_frame.specs.declared.control.Control.{Control}
use Rattle.rp_frame.specs.declared.control.Control.TheVariants as control
use Rattle.rp_meaning.specs.Blocks as blocks
use Rattle.rp_meaning.specs.Frame.{Doing, Frame, Run}
use Rattle.rp_meaning.specs.Meaning as meaning
use Rattle.rp_meaning.specs.Statements as stmt_forms
use Rattle.rp_meaning.proofs.Laws.{then_then}
use Rattle.rp_meaning.specs.State.{State, Outcome}
use Rattle.rp_meaning.specs.Running.{value_of, value_of_code}
use Rattle.rp_ops.specs.Outcome.{Raises, ends, gives, on_value, raises}
use Rattle.rp_proxy.specs.Faithful.{IsFaithful}
use Rattle.rp_proxy.specs.Taken.{taken}
use Rattle.rp_proxy.specs.declared.world.World.{World}
use Rattle.rp_enter.specs.Entering.{lent_by}
use Rattle.rp_store.specs.Heap.{Owned}
use Rattle.rp_store.specs.Kept.{IsFit, IsScopeOf, IsSound}
use Rattle.rp_store.specs.Shape.{KeepsShape}
use Rattle.rp_access.specs.Comes.{IsEnd}
use Rattle.rp_access.specs.Moment.{state_of}
use Rattle.rp_access.proofs.Going.{raises_end}
use Rattle.rp_codes.specs.Codes.{code_view}
use Rattle.rp_step.specs.Callables.{given_at, given_by, initialised, is_nil}
use Rattle.rp_engine.specs.DefinitionSteps.{got_by}
use Rattle.rp_engine.specs.Law.{Leaves, frame_in, rest_of}
use Rattle.rp_engine.specs.Moment.{frame_of, run_of}
use Rattle.rp_engine.specs.Ready.{IsReady}
use Rattle.rp_engine.specs.Ends.{end_of}
use Rattle.rp_engine.specs.Does as does
use Rattle.rp_engine.specs.Rest.{Held, begun, did, gave, rest}
use Rattle.rp_engine.proofs.Equations.{stmts_are}
use Rattle.rp_tree.specs.ExpressionViews.{view_expr, view_params}
use Rattle.rp_tree.specs.StatementViews.{view_stmts}
use Rattle.rp_tree.specs.declared.expr.Expr.{Expr}
use Rattle.rp_tree.specs.declared.expr.Params.{Params}
use Rattle.rp_tree.specs.declared.stmt.Stmt.{Stmt}
use Rattle.rp_step.specs.Left.{left_by}
use Rattle.rp_step.specs.Running.{GoesOn, IsRunnable, IsWaiting, given, got, resumed, unwound, whole_of}
use Rattle.rp_step.specs.declared.callers.Caller.{Caller}
use Rattle.rp_engine.specs.declared.halt.Halt.{Halt}
use Rattle.rp_engine.specs.declared.machine.Machine.{Machine}
use Rattle.rp_step.specs.declared.runner.Runner.{Runner}
use Rattle.rp_codes.specs.declared.code.Code.{Code}
use Rattle.rp_engine.proofs.AtHand.{drop_ready}
use Rattle.rp_engine.proofs.Moves.{on_ok}
use Rattle.rp_engine.proofs.Worlds.{IsReady-goes}

-- the caller that was put last goes on first
pub unwound_last : (base : Run) (cs : List Caller) (c : Caller) (h : Held) → unwound base (cs ++ c ∷ []) h ≡ unwound base cs (rest c.tasks (resumed base c h))
unwound_last base [] c h = refl
unwound_last base (d ∷ cs) c h = ap (λ h. rest d.tasks (resumed base d h)) (unwound_last base cs c h)

-- what was made stands in a later world
pub made_goes : (w v : World) (made : Option Oid) → KeepsShape w.store.heap v.store.heap → IfSome made (λ at. IsSound w.store.heap (value.Ref at))
    → IfSome made (λ at. IsSound v.store.heap (value.Ref at))
made_goes w v None shape h = tt
made_goes w v (Some at) shape h = shape.sound (value.Ref at) h

-- so does what is filled, and it is fit
pub filled_goes : (w v : World) (side : Side) (filled : Option Oid) → KeepsShape w.store.heap v.store.heap → IfSome filled (λ at. IsFit w.store.heap side (value.Ref at))
    → IfSome filled (λ at. IsFit v.store.heap side (value.Ref at))
filled_goes w v side None shape h = tt
filled_goes w v side (Some at) shape h = shape.fit side (value.Ref at) h

pub made_sound : (heap : List Owned) (made : Option Oid) (at : Oid) → made ≡ Some at → IfSome made (λ at. IsSound heap (value.Ref at)) → IsSound heap (value.Ref at)
made_sound heap made at is h = subst (λ (made : Option Oid). IfSome made (λ at. IsSound heap (value.Ref at))) is h

-- all callers may go on in a later world
pub waiting_goes : (w v : World) (cs : List Caller) → KeepsShape w.store.heap v.store.heap → IsFaithful v → All (IsWaiting w) cs → All (IsWaiting v) cs
waiting_goes w v cs shape faithful h =
    All-weaker (IsWaiting w) (IsWaiting v)
    (λ c h. record { ready = IsReady-goes c.units.now c.frame c.values w v h.ready shape faithful; made = made_goes w v c.made shape h.made; filled = filled_goes w v c.frame.side c.filled shape h.filled }) cs h

pub runnable_goes : (r : Runner) (m : Machine) (w v : World) → IsRunnable r w → IsReady m.units.now m.frame m.values v → KeepsShape w.store.heap v.store.heap
    → IsRunnable (record r { machine = m }) v
runnable_goes r m w v h ready shape = record { machine = ready; callers = waiting_goes w v r.callers.items shape ready.faithful h.callers }

-- a step of the machine
pub machine_goes : (r : Runner) (m : Machine) (w v : World) → Leaves r.machine w m v → GoesOn r w (record r { machine = m }) v
machine_goes r m w v law base = ap (unwound base r.callers.items) (law base)

pub goes_trans : (r q p : Runner) (w v u : World) → GoesOn r w q v → GoesOn q v p u → GoesOn r w p u
goes_trans r q p w v u first second base = second base ∙ first base

-- the code that waited goes on

-- what it gets, by how the code that was called came to its end
pub resumes : (base : Run) (m : Machine) (c : Caller) (s : State) (z : Control) (o : Outcome Value) → m.tasks ≡ [] → m.control ≡ z
    → resumed base c (begun (frame_in base m) z m.values m.end s) ≡ given base c o → resumed base c (rest_of base m s) ≡ given base c o
resumes base m c s z o none is law =
    ap (λ ts. resumed base c (rest ts (begun (frame_in base m) m.control m.values m.end s))) none
    ∙ ap (λ z. resumed base c (begun (frame_in base m) z m.values m.end s)) is ∙ law

-- `__init__` gave None, or another value
made_nil : (at : Oid) (v : Value) (s : State) → is_nil v ≡ true → initialised at v s ≡ gives (value.Ref at) s
made_nil at (value.Rock rock.Nil) s is = refl
made_nil at (value.Rock (rock.Truth b)) s is = absurd (cc)
made_nil at (value.Rock (rock.Int i)) s is = absurd (cc)
made_nil at (value.Rock (rock.Text t)) s is = absurd (cc)
made_nil at (value.Rock (rock.Native id)) s is = absurd (cc)
made_nil at (value.Rock (rock.Kind k)) s is = absurd (cc)
made_nil at (value.Rock (rock.Exc k t)) s is = absurd (cc)
made_nil at (value.Ref a) s is = absurd (cc)
made_nil at (value.Prox a) s is = absurd (cc)

made_other : (at : Oid) (v : Value) (s : State) → is_nil v ≡ false → initialised at v s ≡ raises TypeError (codes "init") s
made_other at (value.Rock rock.Nil) s is = absurd (cc)
made_other at (value.Rock (rock.Truth b)) s is = refl
made_other at (value.Rock (rock.Int i)) s is = refl
made_other at (value.Rock (rock.Text t)) s is = refl
made_other at (value.Rock (rock.Native id)) s is = refl
made_other at (value.Rock (rock.Kind k)) s is = refl
made_other at (value.Rock (rock.Exc k t)) s is = refl
made_other at (value.Ref a) s is = refl
made_other at (value.Prox a) s is = refl

-- it has a value, or it has none
module _ (m h : Machine) (cs : List Caller) (c : Caller) (over : h ≡ record m { units = c.units; frame = c.frame; tasks = c.tasks; values = c.values }) where
  pub gives_on : (n : Machine) (w : World) (r : Result (Unit {0}) Halt) (v a : Value) → a ≡ taken w.store.heap c.frame.side (lent_by c.lent v)
      → OnOk r ((base : Run) (s : State) → rest_of base n s ≡ rest h.tasks (gave (frame_in base h) h.values (gives a s)))
      → OnOk r ((base : Run) → unwound base cs (rest_of base n (state_of w)) ≡ unwound base cs (rest c.tasks (got base c v (state_of w))))
  gives_on n w r v a is law =
      on_ok r ((base : Run) (s : State) → rest_of base n s ≡ rest c.tasks (gave (frame_of (run_of base c.units.now) c.frame) c.values (gives a s)))
      ((base : Run) → unwound base cs (rest_of base n (state_of w)) ≡ unwound base cs (rest c.tasks (got base c v (state_of w))))
      (λ law base. ap (unwound base cs) (law base (state_of w) ∙ ap (λ a. rest c.tasks (gave (frame_of (run_of base c.units.now) c.frame) c.values (gives a (state_of w)))) is))
      (subst (λ (z : Machine). OnOk r ((base : Run) (s : State) → rest_of base n s ≡ rest z.tasks (gave (frame_in base z) z.values (gives a s)))) over law)

  pub cuts : (n : Machine) → ((base : Run) (s : State) → rest_of base n s ≡ rest h.tasks (begun (frame_in base h) control.NoValue h.values h.end s))
      → (base : Run) (s : State) → unwound base cs (rest_of base n s) ≡ unwound base cs (rest c.tasks (given base c (ends (end_of m.end) s)))
  cuts n law base s = ap (unwound base cs)
      (subst (λ (z : Machine). rest_of base n s ≡ rest z.tasks (begun (frame_in base z) control.NoValue z.values z.end s)) over (law base s))

  pub refuses_init : (n : Machine) (r : Result (Unit {0}) Halt) (end : OpEnd) → Raises end (record { kind = TypeError; text = codes "init" })
      → OnOk r ((base : Run) (s : State) (o : Outcome Value) → IsEnd end s o → rest_of base n s ≡ rest h.tasks (gave (frame_in base h) h.values o))
      → OnOk r ((base : Run) (s : State) → unwound base cs (rest_of base n s)
      ≡ unwound base cs (rest c.tasks (gave (frame_of (run_of base c.units.now) c.frame) c.values (raises TypeError (codes "init") s))))
  refuses_init n r end is law =
      on_ok r ((base : Run) (s : State) (o : Outcome Value) → IsEnd end s o → rest_of base n s ≡ rest h.tasks (gave (frame_in base h) h.values o))
      ((base : Run) (s : State) → unwound base cs (rest_of base n s)
      ≡ unwound base cs (rest c.tasks (gave (frame_of (run_of base c.units.now) c.frame) c.values (raises TypeError (codes "init") s))))
      (λ law base s. ap (unwound base cs)
      (subst (λ (z : Machine). rest_of base n s ≡ rest z.tasks (gave (frame_in base z) z.values (raises TypeError (codes "init") s))) over
      (law base s (raises TypeError (codes "init") s) (raises_end Value end (record { kind = TypeError; text = codes "init" }) s is)))) law

  -- or it has what a comprehension filled
  pub fills : (n : Machine) (r : Result (Unit {0}) Halt) (v : Value)
      → OnOk r ((base : Run) (s : State) → rest_of base n s ≡ rest h.tasks (gave (frame_in base h) h.values (gives v s)))
      → OnOk r ((base : Run) (s : State) → unwound base cs (rest_of base n s) ≡ unwound base cs (rest c.tasks (gave (frame_of (run_of base c.units.now) c.frame) c.values (gives v s))))
  fills n r v law =
      on_ok r ((base : Run) (s : State) → rest_of base n s ≡ rest h.tasks (gave (frame_in base h) h.values (gives v s)))
      ((base : Run) (s : State) → unwound base cs (rest_of base n s) ≡ unwound base cs (rest c.tasks (gave (frame_of (run_of base c.units.now) c.frame) c.values (gives v s))))
      (λ law base s. ap (unwound base cs)
      (subst (λ (z : Machine). rest_of base n s ≡ rest z.tasks (gave (frame_in base z) z.values (gives v s))) over (law base s))) law

  pub filled_fit : (w : World) (at : Oid) → c.filled ≡ Some at → IsWaiting w c → IsFit w.store.heap h.frame.side (value.Ref at)
  filled_fit w at is waits =
      subst (λ (z : Machine). IsFit w.store.heap z.frame.side (value.Ref at)) (sym over)
      (subst (λ (filled : Option Oid). IfSome filled (λ at. IsFit w.store.heap c.frame.side (value.Ref at))) is waits.filled)

  pub over_ready : (w : World) → IsWaiting w c → IsReady h.units.now h.frame h.values w
  over_ready w h = subst (λ (z : Machine). IsReady z.units.now z.frame z.values w) (sym over) h.ready

-- it gets the value itself, or the instance that was made, or what a comprehension filled
module _ (base : Run) (c : Caller) (v : Value) (s : State) where
  abbrev there : Frame
  there = frame_of (run_of base c.units.now) c.frame

  -- it waited for a call
  calls : c.filled ≡ None → given base c (gives v s) ≡ gave there c.values (given_by c.lent c.made v there s)
  calls call = ap (λ (filled : Option Oid). gave there c.values (given_at filled c.lent c.made v there s)) call

  pub gives_plain : c.filled ≡ None → c.made ≡ None → given base c (gives v s) ≡ got base c v s
  gives_plain call is = calls call ∙ ap (λ (made : Option Oid). gave there c.values (given_by c.lent made v there s)) is

  pub gives_made : (at : Oid) → c.filled ≡ None → c.made ≡ Some at → is_nil v ≡ true → given base c (gives v s) ≡ got base c (value.Ref at) s
  gives_made at call is nil =
      calls call ∙ ap (λ (made : Option Oid). gave there c.values (given_by c.lent made v there s)) is
      ∙ ap (λ o. gave there c.values (on_value o (λ v s. got_by c.lent v there s))) (made_nil at v s nil)

  pub gives_other : (at : Oid) → c.filled ≡ None → c.made ≡ Some at → is_nil v ≡ false → given base c (gives v s) ≡ gave there c.values (raises TypeError (codes "init") s)
  gives_other at call is other =
      calls call ∙ ap (λ (made : Option Oid). gave there c.values (given_by c.lent made v there s)) is
      ∙ ap (λ o. gave there c.values (on_value o (λ v s. got_by c.lent v there s))) (made_other at v s other)

  -- or for the turns of a comprehension
  pub gives_filled : (at : Oid) → c.filled ≡ Some at → given base c (gives v s) ≡ gave there c.values (gives (value.Ref at) s)
  gives_filled at is = ap (λ (filled : Option Oid). gave there c.values (given_at filled c.lent c.made v there s)) is

-- code is left, which waits for the end of a call

abbrev pub left : Machine → Bool → Option Oid → Caller
left m lent made = record { units = m.units; frame = m.frame; tasks = m.tasks; values = m.values; lent = lent; made = made; filled = None }

abbrev pub dropped : Machine → ℕ → Machine
dropped m n = record m { values = drop n m.values }

-- what the code of a function leaves to be done, by a call from a machine with so many values dropped
abbrev pub Switches : Machine → List Caller → ℕ → Bool → Option Oid → Activation → Code → Runner → Run → State → Type 0
Switches m cs n lent made a code q base s = whole_of base q s ≡ unwound base cs (rest m.tasks (gave (frame_in base m) (drop n m.values)
    (on_value (value_of_code (code_view code) (frame_of (run_of base m.units.now) a) s) (λ v s. given_by lent made v (frame_in base m) s))))

abbrev Begins : Control → Code → Type 0
Begins control code = (base : Run) (c : Caller) (f : Frame) (end : Option OpEnd) (s : State) → resumed base c (begun f control [] end s) ≡ given base c (value_of_code (code_view code) f s)

module _ (m : Machine) (cs : List Caller) (n : ℕ) (lent : Bool) (made : Option Oid) (a : Activation) (code : Code) (control : Control) (q : Runner) where
  -- as it was made
  switched : q.callers.items ≡ cs ++ left (dropped m n) lent made ∷ [] → Begins control code
      → ((base : Run) (s : State) → rest_of base q.machine s ≡ begun (frame_of (run_of base m.units.now) a) control [] m.end s)
      → (base : Run) (s : State) → Switches m cs n lent made a code q base s
  switched more begins law base s =
      ap (λ us. unwound base us (rest_of base q.machine s)) more ∙ unwound_last base cs (left (dropped m n) lent made) (rest_of base q.machine s)
      ∙ ap (λ h. unwound base cs (rest m.tasks (resumed base (left (dropped m n) lent made) h))) (law base s)
      ∙ ap (λ h. unwound base cs (rest m.tasks h)) (begins base (left (dropped m n) lent made) (frame_of (run_of base m.units.now) a) m.end s)

  pub switches : (h g : Machine) (c : Caller) → h ≡ dropped m n → c ≡ left h lent made → g ≡ record h { frame = a; tasks = []; values = [] } → q.callers.items ≡ cs ++ c ∷ [] → Begins control code
      → ((base : Run) (s : State) → rest_of base q.machine s ≡ rest g.tasks (begun (frame_in base g) control g.values g.end s))
      → (base : Run) (s : State) → Switches m cs n lent made a code q base s
  switches h g c drops waits goes more begins law =
      switched (subst (λ (c : Caller). q.callers.items ≡ cs ++ c ∷ []) (waits ∙ ap (λ (h : Machine). left h lent made) drops) more) begins
      (subst (λ (g : Machine). (base : Run) (s : State) → rest_of base q.machine s ≡ rest g.tasks (begun (frame_in base g) control g.values g.end s))
      (goes ∙ ap (λ (h : Machine). record h { frame = a; tasks = []; values = [] }) drops) law)

-- all may go on in the code of the function
pub switch_ready : (m h g : Machine) (us cs : List Caller) (c : Caller) (n : ℕ) (lent : Bool) (made : Option Oid) (a : Activation) (w : World)
    → h ≡ dropped m n → c ≡ left h lent made → g ≡ record h { frame = a; tasks = []; values = [] } → us ≡ cs ++ c ∷ []
    → IsReady m.units.now m.frame m.values w → All (IsWaiting w) cs → IsScopeOf w.store.heap a.side a.scope
    → IfSome made (λ at. IsSound w.store.heap (value.Ref at)) → IsReady g.units.now g.frame g.values w × All (IsWaiting w) us
switch_ready m h g us cs c n lent made a w drops waits goes more ready all scope sound = (
  subst (λ (g : Machine). IsReady g.units.now g.frame g.values w) (sym (goes ∙ ap (λ (h : Machine). record h { frame = a; tasks = []; values = [] }) drops))
      (record { faithful = ready.faithful; scope = scope; fit = All-nil _; indexed = ready.indexed }),
  subst (λ (us : List Caller). All (IsWaiting w) us) (sym (more ∙ ap (λ (c : Caller). cs ++ c ∷ []) (waits ∙ ap (λ (h : Machine). left h lent made) drops)))
      (All-append (IsWaiting w) cs (left (dropped m n) lent made ∷ []) all
      (All-cons (IsWaiting w) (left (dropped m n) lent made) [] (record { ready = drop_ready m.units.now m.frame n m.values w ready; made = sound; filled = tt }) (All-nil (IsWaiting w)))),
)

-- the code that waited gets this, by how the code that it called came to its end
pub resumed_ok : (r : Result (Unit {0}) Halt) (found : Run → Held) (cs : List Caller) (c : Caller) (m : Machine) (s : State) (z : Control) (o : Outcome Value) → m.tasks ≡ [] → m.control ≡ z
    → ((base : Run) → resumed base c (begun (frame_in base m) z m.values m.end s) ≡ given base c o)
    → OnOk r ((base : Run) → found base ≡ unwound base cs (rest c.tasks (given base c o)))
    → OnOk r ((base : Run) → found base ≡ unwound base cs (rest c.tasks (resumed base c (rest_of base m s))))
resumed_ok r found cs c m s z o none is same law =
    on_ok r ((base : Run) → found base ≡ unwound base cs (rest c.tasks (given base c o))) ((base : Run) → found base ≡ unwound base cs (rest c.tasks (resumed base c (rest_of base m s))))
    (λ law base. law base ∙ ap (λ h. unwound base cs (rest c.tasks h)) (sym (resumes base m c s z o none is (same base)))) law

-- at this moment, what holds at any
pub cut_here : (r : Result (Unit {0}) Halt) (p q : Runner) (c : Caller) (s : State)
    → OnOk r ((base : Run) (t : State) → whole_of base p t ≡ unwound base q.callers.items (rest c.tasks (given base c (ends (end_of q.machine.end) t))))
    → OnOk r ((base : Run) → whole_of base p s ≡ unwound base q.callers.items (rest c.tasks (given base c (ends (end_of q.machine.end) s))))
cut_here r p q c s law =
    on_ok r ((base : Run) (t : State) → whole_of base p t ≡ unwound base q.callers.items (rest c.tasks (given base c (ends (end_of q.machine.end) t))))
    ((base : Run) → whole_of base p s ≡ unwound base q.callers.items (rest c.tasks (given base c (ends (end_of q.machine.end) s)))) (λ law base. law base s) law

-- the last caller is taken off, and goes on
pub comes_back : (r : Result (Unit {0}) Halt) (q p : Runner) (w : World) (us : List Caller) (c : Caller) → q.callers.items ≡ us ++ c ∷ []
    → OnOk r ((base : Run) → whole_of base p (state_of w) ≡ unwound base us (rest c.tasks (resumed base c (rest_of base q.machine (state_of w)))))
    → OnOk r (GoesOn q w p w)
comes_back r q p w us c is law =
    on_ok r ((base : Run) → whole_of base p (state_of w) ≡ unwound base us (rest c.tasks (resumed base c (rest_of base q.machine (state_of w))))) (GoesOn q w p w)
    (λ law base. law base ∙ sym (ap (λ us. unwound base us (rest_of base q.machine (state_of w))) is ∙ unwound_last base us c (rest_of base q.machine (state_of w)))) law

module _ (w : World) where
  all_first : (us vs : List Caller) → All (IsWaiting w) (us ++ vs) → All (IsWaiting w) us
  all_first [] vs h = All-nil (IsWaiting w)
  all_first (u ∷ us) vs h = All-cons (IsWaiting w) u us (All-head (IsWaiting w) u (us ++ vs) h) (all_first us vs (All-tail (IsWaiting w) u (us ++ vs) h))

  all_then : (us vs : List Caller) → All (IsWaiting w) (us ++ vs) → All (IsWaiting w) vs
  all_then [] vs h = h
  all_then (u ∷ us) vs h = all_then us vs (All-tail (IsWaiting w) u (us ++ vs) h)

  pub first_waits : (all us : List Caller) (c : Caller) → all ≡ us ++ c ∷ [] → All (IsWaiting w) all → All (IsWaiting w) us
  first_waits all us c is h = all_first us (c ∷ []) (subst (λ (cs : List Caller). All (IsWaiting w) cs) is h)

  pub last_waits : (all us : List Caller) (c : Caller) → all ≡ us ++ c ∷ [] → All (IsWaiting w) all → IsWaiting w c
  last_waits all us c is h = All-head (IsWaiting w) c [] (all_then us (c ∷ []) (subst (λ (cs : List Caller). All (IsWaiting w) cs) is h))

-- all is done
pub whole_left : (base : Run) (r q : Runner) (w v : World) → GoesOn r w q v → r.callers.items ≡ [] → q.callers.items ≡ [] → rest_of base q.machine (state_of v) ≡ rest_of base r.machine (state_of w)
whole_left base r q w v law before after =
    ap (λ cs. unwound base cs (rest_of base q.machine (state_of v))) (sym after) ∙ law base ∙ ap (λ cs. unwound base cs (rest_of base r.machine (state_of w))) before

-- the code of a function begins
blocks_are : (xs : List Stmt) → meaning.block (view_stmts xs) ≡ does.block xs
unfolding does.stmt
blocks_are xs = ap stmt_forms.block (stmts_are xs)

pub begins_def : (ps : Params) (body : List Stmt) (base : Run) (c : Caller) (f : Frame) (s : State)
    → resumed base c (did f [] (does.block body f s)) ≡ given base c (value_of_code (blocks.def (view_params ps) (view_stmts body)) f s)
begins_def ps body base c f s =
    ap (λ (D : Doing). resumed base c (did f [] (D f s))) (sym (blocks_are body))
    ∙ ap (λ o. gave (frame_of (run_of base c.units.now) c.frame) c.values o)
    (sym (then_then (meaning.block (view_stmts body) f s) (λ flow s. gives (value_of flow) s) (λ v s. given_at c.filled c.lent c.made v (frame_of (run_of base c.units.now) c.frame) s)))

pub begins_lambda : (ps : Params) (body : Expr) (base : Run) (c : Caller) (f : Frame) (s : State)
    → resumed base c (gave f [] (does.expr body f s)) ≡ given base c (value_of_code (blocks.lambda (view_params ps) (view_expr body)) f s)
unfolding does.expr
begins_lambda ps body base c f s = refl

-- how the code was left that comes to its end
pub left_at : (base : Run) (m : Machine) (s : State) (z : Control) → m.tasks ≡ [] → m.control ≡ z
    → left_by (rest_of base m s) ≡ left_by (begun (frame_in base m) z m.values m.end s)
left_at base m s z none is =
    ap (λ ts. left_by (rest ts (begun (frame_in base m) m.control m.values m.end s))) none
    ∙ ap (λ z. left_by (begun (frame_in base m) z m.values m.end s)) is

pub came_back : (q z p : Runner) (w : World) (c : Caller) → q.callers.items ≡ z.callers.items ++ c ∷ [] → z.machine ≡ q.machine
    → ((base : Run) → whole_of base p (state_of w) ≡ unwound base z.callers.items (rest c.tasks (resumed base c (rest_of base z.machine (state_of w)))))
    → GoesOn q w p w
came_back q z p w c is same law base =
    law base ∙ ap (λ m. unwound base z.callers.items (rest c.tasks (resumed base c (rest_of base m (state_of w))))) same
    ∙ sym (ap (λ us. unwound base us (rest_of base q.machine (state_of w))) is ∙ unwound_last base z.callers.items c (rest_of base q.machine (state_of w)))

-- no code waits
pub stays : (q z : Runner) (w : World) → z.machine ≡ q.machine → z.callers.items ≡ [] → q.callers.items ≡ [] → GoesOn q w z w
stays q z w same after before base =
    ap (λ us. unwound base us (rest_of base z.machine (state_of w))) (after ∙ sym before) ∙ ap (λ m. unwound base q.callers.items (rest_of base m (state_of w))) same

pub stays_ready : (q z : Runner) (w : World) → z.machine ≡ q.machine → z.callers.items ≡ [] → IsRunnable q w → IsRunnable z w
stays_ready q z w same none h = record {
  machine = subst (λ (m : Machine). IsReady m.units.now m.frame m.values w) (sym same) h.machine;
  callers = subst (λ (cs : List Caller). All (IsWaiting w) cs) (sym none) (All-nil (IsWaiting w));
}
