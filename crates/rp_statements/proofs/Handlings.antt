-- The try statement: what its parts do, as the code does it, is what its form of rp_meaning does.
use Rattle.std.proofs.Common.{◌≡◌, true, false, List, [], ◌∷◌, Option, Some, None, Result, Ok, Err, refl, sym, ap, ◌∙◌, subst}
use Rattle.std.specs.Prelude.{OnOk}
use Rattle.rp_base.specs.declared.value.Name.{Name}
use Rattle.rp_base.specs.declared.value.OpEnd.{OpEnd}
use Rattle.rp_base.specs.declared.value.Raised.{Raised}
use Rattle.rp_base.specs.declared.value.Side.{Side}
use Rattle.rp_base.specs.declared.value.Value.{Value}
use Rattle.rp_frame.specs.Top.{below, top}
use Rattle.rp_frame.specs.declared.activation.Activation.{Activation}
use Rattle.rp_frame.specs.declared.control.Control.{Control}
use Rattle.rp_frame.specs.declared.task.FlowTask.TheVariants as flow
use Rattle.rp_frame.specs.declared.task.StmtTask.{StmtTask}
use Rattle.rp_frame.specs.declared.task.Task.{Task}
use Rattle.rp_frame.specs.declared.task.Task.TheVariants as task
use Rattle.rp_meaning.specs.Exceptions.{Handler, after, finally, handle, handled, matches, otherwise, takes_raised}
use Rattle.rp_meaning.specs.Frame.{Frame, Meaning, Doing, Run}
use Rattle.rp_meaning.specs.State.{State, Outcome, Flow, choose, returned}
use Rattle.rp_meaning.proofs.Laws.{then_then}
use Rattle.rp_ops.specs.Outcome.{End, raised, no_step, no_cell, ends, gives, on_value}
use Rattle.rp_proxy.specs.declared.world.World.{World}
use Rattle.rp_store.specs.Heap.{Owned}
use Rattle.rp_store.specs.Kept.{IsFit}
use Rattle.rp_access.specs.Moment.{state_of}
use Rattle.rp_engine.specs.Does as does
use Rattle.rp_engine.specs.Handling.{caught, finished, handling, handling_value, if_takes, in_handler, is_exception, thrown, thrown_of, without_as}
use Rattle.rp_engine.specs.Law.{Executes, Moves, ResumesStmt, frame_in, rest_of}
use Rattle.rp_engine.specs.Ready.{IsReady}
use Rattle.rp_engine.specs.Rest.{after_stmt, begun, did, rest}
use Rattle.rp_engine.specs.Rest as rests
use Rattle.rp_engine.specs.declared.halt.Halt.{Halt}
use Rattle.rp_engine.specs.declared.machine.Machine.{Machine}
use Rattle.rp_engine.specs.declared.units.Units.{Units}
use Rattle.rp_engine.proofs.AtHand.{below_ready}
use Rattle.rp_engine.proofs.Moves.{on_ok}

-- exceptions at hand

pub handled_back : (o : Option Raised) → thrown_of (handling_value o) ≡ o
handled_back None = refl
handled_back (Some r) = refl

pub thrown_fit : (heap : List Owned) (side : Side) (v : Value) (r : Raised) → v ≡ thrown r → IsFit heap side v
thrown_fit heap side v r is = subst (IsFit heap side) (sym is) (tt, tt)

pub handling_fit : (heap : List Owned) (side : Side) (v : Value) (o : Option Raised) → v ≡ handling_value o → IsFit heap side v
handling_fit heap side v None is = subst (IsFit heap side) (sym is) (tt, tt)
handling_fit heap side v (Some r) is = subst (IsFit heap side) (sym is) (tt, tt)

-- what is handled does not matter to what a machine may run in
pub handling_ready : (units : Units) (a : Activation) (o : Option Raised) (vs : List Value) (w : World) → IsReady units a vs w → IsReady units (record a { handling = o }) vs w
handling_ready units a o vs w h = record { faithful = h.faithful; scope = h.scope; fit = h.fit; indexed = h.indexed }

without_same : (name : Option Name) (o : Option Raised) (f : Frame) → without_as name (handling o f) ≡ without_as name f
without_same None o f = refl
without_same (Some n) o f = refl

-- ends

after_none : (r : Result Flow End) (s : State) → after (record { answer = r; state = s }) (λ s. s) ≡ record { answer = r; state = s }
after_none (Ok f) s = refl
after_none (Err (raised r)) s = refl
after_none (Err no_step) s = refl
after_none (Err no_cell) s = refl

pub after_same : (o : Outcome Flow) → after o (λ s. s) ≡ o
after_same o = after_none o.answer o.state

pub after_raised : (e : End) (s : State) (change : State → State) → is_exception e ≡ true → after (ends e s) change ≡ ends e (change s)
after_raised (raised r) s change is = refl
after_raised no_step s change is = absurd (cc)
after_raised no_cell s change is = absurd (cc)

pub after_stop : (e : End) (s : State) (change : State → State) → is_exception e ≡ false → after (ends e s) change ≡ ends e s
after_stop (raised r) s change is = absurd (cc)
after_stop no_step s change is = refl
after_stop no_cell s change is = refl

pub caught_is : (hs : List Handler) (e : End) (other : State → Outcome Flow) (f : Frame) (s : State)
    → otherwise (ends e s) other (λ r s. handle hs r f s) ≡ caught hs e f s
caught_is hs (raised r) other f s = refl
caught_is hs no_step other f s = refl
caught_is hs no_cell other f s = refl

pub finished_is : (last : Doing) (e : End) (f : Frame) (s : State) → finally (ends e s) (last f) ≡ finished last e f s
finished_is last (raised r) f s = refl
finished_is last no_step f s = refl
finished_is last no_cell f s = refl

pub caught_stop : (hs : List Handler) (e : End) (f : Frame) (s : State) → is_exception e ≡ false → caught hs e f s ≡ ends e s
caught_stop hs (raised r) f s is = absurd (cc)
caught_stop hs no_step f s is = refl
caught_stop hs no_cell f s is = refl

pub finished_stop : (last : Doing) (e : End) (f : Frame) (s : State) → is_exception e ≡ false → finished last e f s ≡ ends e s
finished_stop last (raised r) f s is = absurd (cc)
finished_stop last no_step f s is = refl
finished_stop last no_cell f s is = refl

-- no block of `finally`
finally_nothing : (r : Result Flow End) (s : State) (f : Frame) → finally (record { answer = r; state = s }) (does.block [] f) ≡ record { answer = r; state = s }
finally_nothing (Ok x) s f = refl
finally_nothing (Err (raised r)) s f = refl
finally_nothing (Err no_step) s f = refl
finally_nothing (Err no_cell) s f = refl

pub finally_none : (o : Outcome Flow) (f : Frame) → finally o (does.block [] f) ≡ o
finally_none o f = finally_nothing o.answer o.state f

-- handlers

module _ (h : Handler) (hs : List Handler) (r : Raised) (f : Frame) (s : State) where
  pub handle_any : h.kind ≡ None → handle (h ∷ hs) r f s ≡ handled h.name h.body r f s
  handle_any is = ap (λ k. on_value (takes_raised k r f s) (λ b s. choose b (handled h.name h.body r f) (handle hs r f) s)) is

  pub handle_of : (m : Meaning) → h.kind ≡ Some m → handle (h ∷ hs) r f s ≡ on_value (m f s) (λ v s. if_takes h hs r v f s)
  handle_of m is = ap (λ k. on_value (takes_raised k r f s) (λ b s. choose b (handled h.name h.body r f) (handle hs r f) s)) is
      ∙ then_then (m f s) (λ v s. matches v r s) (λ b s. choose b (handled h.name h.body r f) (handle hs r f) s)

-- laws

-- a task was put upon the others, in any state
module _ (m n : Machine) (r : Result (Unit {0}) Halt) (t : Task) (ts : List Task) where
  pub pushed_any : (D E : Doing) → ts ≡ t ∷ m.tasks
      → ((base : Run) (s : State) → rests.after t (did (frame_in base m) m.values (E (frame_in base m) s)) ≡ did (frame_in base m) m.values (D (frame_in base m) s))
      → OnOk r ((base : Run) (s : State) → rest_of base n s ≡ rest ts (did (frame_in base m) m.values (E (frame_in base m) s)))
      → OnOk r ((w : World) → Executes D m w n w)
  pushed_any D E is same h =
      on_ok r ((base : Run) (s : State) → rest_of base n s ≡ rest ts (did (frame_in base m) m.values (E (frame_in base m) s))) ((w : World) → Executes D m w n w)
      (λ law w base. law base (state_of w) ∙ ap (λ (ts : List Task). rest ts (did (frame_in base m) m.values (E (frame_in base m) (state_of w)))) is
      ∙ ap (rest m.tasks) (same base (state_of w))) h

-- the same law for what means the same
module _ (m n : Machine) (r : Result (Unit {0}) Halt) where
  pub moves_as : (D E : Doing) → ((base : Run) (s : State) → D (frame_in base m) s ≡ E (frame_in base m) s) → OnOk r (Moves E m n) → OnOk r (Moves D m n)
  moves_as D E same h = on_ok r (Moves E m n) (Moves D m n) (λ law base s. law base s ∙ ap (λ o. rest m.tasks (did (frame_in base m) m.values o)) (sym (same base s))) h

-- the last value at hand was taken off
module _ (m p n : Machine) (off : p ≡ record m { values = below m.values }) (w v : World) (r : Result (Unit {0}) Halt) where
  pub resumes_off : (t : StmtTask) (a : Value) (D : Doing)
      → ((base : Run) → after_stmt t (frame_in base m) m.values (gives a (state_of w)) ≡ did (frame_in base m) (below m.values) (D (frame_in base m) (state_of w)))
      → OnOk r (Executes D p w n v) → OnOk r (ResumesStmt t a m w n v)
  resumes_off t a D same h = on_ok r (Executes D p w n v) (ResumesStmt t a m w n v) go h where
    go : Executes D p w n v → ResumesStmt t a m w n v
    go law base =
        subst (λ (z : Machine). rest_of base n (state_of v) ≡ rest z.tasks (did (frame_in base z) z.values (D (frame_in base z) (state_of w)))) off (law base)
        ∙ ap (rest m.tasks) (sym (same base))

module _ (m p n : Machine) (off : p ≡ record m { values = below m.values }) (r : Result (Unit {0}) Halt) where
  pub moves_off : (D : Value → Doing) (a : Value) → a ≡ top m.values → OnOk r (Moves (D a) p n)
      → OnOk r ((base : Run) (s : State) → rest_of base n s ≡ rest m.tasks (did (frame_in base m) (below m.values) (D (top m.values) (frame_in base m) s)))
  moves_off D a is h =
      on_ok r (Moves (D a) p n) ((base : Run) (s : State) → rest_of base n s ≡ rest m.tasks (did (frame_in base m) (below m.values) (D (top m.values) (frame_in base m) s)))
      (λ law base s. subst (λ (z : Machine). rest_of base n s ≡ rest z.tasks (did (frame_in base z) z.values (D a (frame_in base z) s))) off (law base s)
      ∙ ap (λ x. rest m.tasks (did (frame_in base m) (below m.values) (D x (frame_in base m) s))) is) h

-- what is handled was changed, and what was before is at hand
module _ (m p n : Machine) (e : Raised) (changed : p ≡ record m { frame = record m.frame { handling = Some e } }) where
  in_frame : (name : Option Name) (body : Doing) (h : Option Raised) → h ≡ m.frame.handling → (base : Run) (s : State)
      → did (handling h (handling (Some e) (frame_in base m))) m.values (after (body (handling (Some e) (frame_in base m)) s) (without_as name (handling (Some e) (frame_in base m))))
      ≡ did (frame_in base m) m.values (in_handler name body e (frame_in base m) s)
  in_frame name body h is base s =
      ap (λ (x : Option Raised). did (handling x (frame_in base m)) m.values (after (body (handling (Some e) (frame_in base m)) s) (without_as name (handling (Some e) (frame_in base m))))) is
      ∙ ap (λ (change : State → State). did (frame_in base m) m.values (after (body (handling (Some e) (frame_in base m)) s) change)) (without_same name (Some e) (frame_in base m))

  pub entered : (r : Result (Unit {0}) Halt) (name : Option Name) (body : Doing) (x : Value) → x ≡ handling_value m.frame.handling
      → OnOk r ((base : Run) (s : State) → rest_of base n s
      ≡ rest p.tasks (rests.after (task.Flow (flow.Handled name)) (did (frame_in base p) (x ∷ p.values) (body (frame_in base p) s))))
      → OnOk r (Moves (in_handler name body e) m n)
  entered r name body x is h =
      on_ok r ((base : Run) (s : State) → rest_of base n s ≡ rest p.tasks (rests.after (task.Flow (flow.Handled name)) (did (frame_in base p) (x ∷ p.values) (body (frame_in base p) s))))
      (Moves (in_handler name body e) m n)
      (λ law base s.
      subst (λ (z : Machine). rest_of base n s ≡ rest z.tasks (rests.after (task.Flow (flow.Handled name)) (did (frame_in base z) (x ∷ z.values) (body (frame_in base z) s)))) changed (law base s)
      ∙ ap (rest m.tasks) (in_frame name body (thrown_of x) (ap thrown_of is ∙ handled_back m.frame.handling) base s)) h

  pub entered_ready : (w : World) → IsReady m.units.now m.frame m.values w → IsReady p.units.now p.frame p.values w
  entered_ready w h = subst (λ (z : Machine). IsReady z.units.now z.frame z.values w) (sym changed) (handling_ready m.units.now m.frame (Some e) m.values w h)

-- it was changed back
module _ (m p q : Machine) (off : p ≡ record m { values = below m.values }) (o : Option Raised) (is : o ≡ thrown_of (top m.values))
    (changed : q ≡ record p { frame = record p.frame { handling = o } }) where
  pub before_again : q ≡ record m { values = below m.values; frame = record m.frame { handling = thrown_of (top m.values) } }
  before_again = changed ∙ ap (λ (z : Machine). record z { frame = record z.frame { handling = o } }) off
      ∙ ap (λ (o : Option Raised). record m { values = below m.values; frame = record m.frame { handling = o } }) is

module _ (m q : Machine) (back : q ≡ record m { values = below m.values; frame = record m.frame { handling = thrown_of (top m.values) } }) where
  pub ended : (n : Machine) (control : Control) → ((base : Run) (s : State) → rest_of base n s ≡ rest q.tasks (begun (frame_in base q) control q.values q.end s))
      → (base : Run) (s : State) → rest_of base n s ≡ rest m.tasks (begun (handling (thrown_of (top m.values)) (frame_in base m)) control (below m.values) m.end s)
  ended n control law base s = subst (λ (z : Machine). rest_of base n s ≡ rest z.tasks (begun (frame_in base z) control z.values z.end s)) back (law base s)

  pub ended_ready : (w : World) → IsReady m.units.now m.frame m.values w → IsReady q.units.now q.frame q.values w
  ended_ready w h = subst (λ (z : Machine). IsReady z.units.now z.frame z.values w) (sym back)
      (handling_ready m.units.now m.frame (thrown_of (top m.values)) (below m.values) w (below_ready m.units.now m.frame m.values w h))

  pub ended_fit : (w : World) (v : Value) → IsFit w.store.heap m.frame.side v → IsFit w.store.heap q.frame.side v
  ended_fit w v fit = subst (λ (z : Machine). IsFit w.store.heap z.frame.side v) (sym back) fit

  -- by `return`, where a name was unbound before
  pub ended_return : (n : Machine) (r : Result (Unit {0}) Halt) (v : Value) (u : World) (name : Option Name) (w : World)
      → ((base : Run) → state_of u ≡ without_as name (frame_in base m) (state_of w))
      → OnOk r ((base : Run) (s : State) → rest_of base n s ≡ rest q.tasks (did (frame_in base q) q.values (gives (returned v) s)))
      → OnOk r ((base : Run) → rest_of base n (state_of u) ≡ rest m.tasks
      (did (handling (thrown_of (top m.values)) (frame_in base m)) (below m.values) (gives (returned v) (without_as name (frame_in base m) (state_of w)))))
  ended_return n r v u name w unbound h =
      on_ok r ((base : Run) (s : State) → rest_of base n s ≡ rest q.tasks (did (frame_in base q) q.values (gives (returned v) s)))
      ((base : Run) → rest_of base n (state_of u) ≡ rest m.tasks
      (did (handling (thrown_of (top m.values)) (frame_in base m)) (below m.values) (gives (returned v) (without_as name (frame_in base m) (state_of w)))))
      (λ law base. subst (λ (z : Machine). rest_of base n (state_of u) ≡ rest z.tasks (did (frame_in base z) z.values (gives (returned v) (state_of u)))) back (law base (state_of u))
      ∙ ap (λ (s : State). rest m.tasks (did (handling (thrown_of (top m.values)) (frame_in base m)) (below m.values) (gives (returned v) s))) (unbound base)) h

-- the end was taken out of a machine, or kept
module _ (m p n : Machine) (same : p ≡ record m { end = p.end }) where
  pub executes_cut : (D : Doing) (w v : World) → Executes D p w n v → Executes D m w n v
  executes_cut D w v law base = subst (λ (z : Machine). rest_of base n (state_of v) ≡ rest z.tasks (did (frame_in base z) z.values (D (frame_in base z) (state_of w)))) same (law base)

  pub moves_cut : (D : Doing) → Moves D p n → Moves D m n
  moves_cut D law base s = subst (λ (z : Machine). rest_of base n s ≡ rest z.tasks (did (frame_in base z) z.values (D (frame_in base z) s))) same (law base s)

  pub cut_ready : (w : World) → IsReady m.units.now m.frame m.values w → IsReady p.units.now p.frame p.values w
  cut_ready w h = subst (λ (z : Machine). IsReady z.units.now z.frame z.values w) (sym same) h

  pub kept_is : p.end ≡ m.end → p ≡ m
  kept_is kept = same ∙ ap (λ (e : Option OpEnd). record m { end = e }) kept

pub moves_kept : (m p n : Machine) (control : Control) → p ≡ m → ((base : Run) (s : State) → rest_of base n s ≡ rest p.tasks (begun (frame_in base p) control p.values p.end s))
    → (base : Run) (s : State) → rest_of base n s ≡ rest m.tasks (begun (frame_in base m) control m.values m.end s)
moves_kept m p n control is law base s = subst (λ (z : Machine). rest_of base n s ≡ rest z.tasks (begun (frame_in base z) control z.values z.end s)) is (law base s)

pub moves_executes : (m n : Machine) (r : Result (Unit {0}) Halt) (D : Doing) (w : World) → OnOk r (Moves D m n) → OnOk r (Executes D m w n w)
moves_executes m n r D w h = on_ok r (Moves D m n) (Executes D m w n w) (λ law base. law base (state_of w)) h

pub left_executes : (m n : Machine) (r : Result (Unit {0}) Halt) (D : Doing) (w : World)
    → OnOk r ((base : Run) (s : State) → rest_of base n s ≡ rest m.tasks (did (frame_in base m) (below m.values) (D (frame_in base m) s)))
    → OnOk r ((base : Run) → rest_of base n (state_of w) ≡ rest m.tasks (did (frame_in base m) (below m.values) (D (frame_in base m) (state_of w))))
left_executes m n r D w h =
    on_ok r ((base : Run) (s : State) → rest_of base n s ≡ rest m.tasks (did (frame_in base m) (below m.values) (D (frame_in base m) s)))
    ((base : Run) → rest_of base n (state_of w) ≡ rest m.tasks (did (frame_in base m) (below m.values) (D (frame_in base m) (state_of w)))) (λ law base. law base (state_of w)) h
