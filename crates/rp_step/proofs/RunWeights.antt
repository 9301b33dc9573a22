-- What a call, and the end of one, leave of the load of a run.
use Rattle.std.proofs.Common.{◌≡◌, ◌<◌, ◌≤◌, ◌+◌, ℕ, suc, List, [], ◌∷◌, ◌++◌, Result, sym, ap, ◌∙◌, subst, arith}
use Rattle.std.specs.Prelude.{OnOk}
use Rattle.rp_codes.specs.Codes.{code_view}
use Rattle.rp_codes.specs.declared.code.Code.{Code}
use Rattle.rp_codes.specs.declared.code.Code.TheVariants as code
use Rattle.rp_engine.proofs.CodeHeights.{IsLow}
use Rattle.rp_engine.proofs.Moves.{on_ok}
use Rattle.rp_engine.proofs.Weights.{called_least, called_over}
use Rattle.rp_engine.specs.Loads as loads
use Rattle.rp_engine.specs.Loads.{IsUnder, load, next, tasks}
use Rattle.rp_engine.specs.declared.halt.Halt.{Halt}
use Rattle.rp_engine.specs.declared.machine.Machine.{Machine}
use Rattle.rp_frame.specs.declared.control.Control.{Control}
use Rattle.rp_frame.specs.declared.task.Task.{Task}
use Rattle.rp_grammar.specs.Program.{highest}
use Rattle.rp_proxy.specs.declared.world.World.{World}
use Rattle.rp_step.specs.RunLoads.{Falls, Lowers, behind, code_weight, run_load, waits}
use Rattle.rp_step.specs.declared.callers.Caller.{Caller}
use Rattle.rp_step.specs.declared.runner.Runner.{Runner}

-- the code that was put last
waits_last : (cs : List Caller) (c : Caller) → waits (cs ++ c ∷ []) ≡ waits cs + suc (tasks c.tasks)
waits_last [] c = omega arith
waits_last (d ∷ cs) c =
    let rest = waits_last cs c in
    omega arith

-- steps of the machine

pub machine_falls : (r : Runner) (m : Machine) (w v : World) → v.running.meter.left ≤ w.running.meter.left → loads.IsLess r.machine w m v → Falls r w (record r { machine = m }) v
machine_falls r m w v fewer less = (
  fewer,
  λ still.
      let under = less still in
      omega arith,
)

-- a call was entered
pub enter_falls : (r q : Runner) (m : Machine) (w v u : World) → m ≡ r.machine → v.running.meter.left ≤ w.running.meter.left → u.running.meter.left ≤ v.running.meter.left
    → Lowers (next m.control) (record r { machine = m }) v q u → Falls r w q u
enter_falls r q m w v u same first then less = (
  omega arith,
  λ still.
      let under = less (omega arith) in
      let was : load m ≡ load r.machine = ap load same in
      omega arith,
)

-- or one came back
pub back_falls : (r q : Runner) (m : Machine) (w v : World) → load m ≡ load r.machine → v.running.meter.left ≤ w.running.meter.left
    → run_load q < run_load (record r { machine = m }) → Falls r w q v
back_falls r q m w v same fewer less = (fewer, λ still. omega arith)

-- the end of a call

pub came_less : (r z q : Runner) (c : Caller) → r.callers.items ≡ z.callers.items ++ c ∷ [] → z.machine ≡ r.machine
    → run_load q ≤ next z.machine.control + (tasks c.tasks + waits z.callers.items) → run_load q < run_load r
came_less r z q c is same less =
    let all : waits r.callers.items ≡ waits z.callers.items + suc (tasks c.tasks) = ap waits is ∙ waits_last z.callers.items c in
    let stands : next z.machine.control ≡ next r.machine.control = ap (λ (m : Machine). next m.control) same in
    omega arith

pub at_control : (res : Result (Unit {0}) Halt) (n k : ℕ) (y z : Control) → y ≡ z → OnOk res (n ≤ next z + k) → OnOk res (n ≤ next y + k)
at_control res n k y z is h = subst (λ (z : Control). OnOk res (n ≤ next z + k)) (sym is) h

pub at_any : (res : Result (Unit {0}) Halt) (n k : ℕ) (y : Control) → OnOk res (n ≤ k) → OnOk res (n ≤ next y + k)
at_any res n k y h = on_ok res (n ≤ k) (n ≤ next y + k) (λ h. omega arith) h

module _ (res : Result (Unit {0}) Halt) (n h : Machine) (ts : List Task) (k : ℕ) (over : h.tasks ≡ ts) where
  were : tasks h.tasks ≡ tasks ts
  were = ap tasks over

  pub gets_value : OnOk res (load n ≡ 2 + tasks h.tasks) → OnOk res (next n.control + (tasks n.tasks + k) ≤ 2 + (tasks ts + k))
  gets_value is = on_ok res (load n ≡ 2 + tasks h.tasks) (next n.control + (tasks n.tasks + k) ≤ 2 + (tasks ts + k)) (λ is. let had = were in omega arith) is

  pub gets_none : OnOk res (load n ≡ tasks h.tasks) → OnOk res (next n.control + (tasks n.tasks + k) ≤ tasks ts + k)
  gets_none is = on_ok res (load n ≡ tasks h.tasks) (next n.control + (tasks n.tasks + k) ≤ tasks ts + k) (λ is. let had = were in omega arith) is

pub gets_cut : (n h : Machine) (ts : List Task) (k : ℕ) → h.tasks ≡ ts → load n ≡ 0 + tasks h.tasks → next n.control + (tasks n.tasks + k) ≤ tasks ts + k
gets_cut n h ts k over is =
    let had = ap tasks over in
    omega arith

-- the begin of one

pub switch_under : (n g : Machine) (us cs : List Caller) (ts : List Task) (c : Caller) (z : Control) (weight : ℕ) → c.tasks ≡ ts → g.tasks ≡ [] → us ≡ cs ++ c ∷ []
    → load n ≡ next z + tasks g.tasks → next z ≡ weight → next n.control + (tasks n.tasks + waits us) ≤ suc weight + (tasks ts + waits cs)
switch_under n g us cs ts c z weight waiting none more begins is =
    let all : waits us ≡ waits cs + suc (tasks c.tasks) = ap waits more ∙ waits_last cs c in
    let kept : tasks c.tasks ≡ tasks ts = ap tasks waiting in
    let free : tasks g.tasks ≡ 0 = ap tasks none in
    omega arith

pub code_under : (c : Code) → IsLow highest (code_view c) → suc (suc (code_weight c)) ≤ loads.called
code_under (code.Def ps body) low =
    let least = called_least in
    omega arith
code_under (code.Lambda ps body) low =
    let over = called_over body.now low in
    omega arith

pub enters_under : (res : Result (Unit {0}) Halt) (r q : Runner) (w v : World) (c : Code) → IsLow highest (code_view c)
    → OnOk res (run_load q ≤ suc (code_weight c) + behind r) → OnOk res (Lowers loads.called r w q v)
enters_under res r q w v c low less =
    on_ok res (run_load q ≤ suc (code_weight c) + behind r) (Lowers loads.called r w q v)
    (λ less still.
    let under = code_under c low in
    omega arith) less

-- an exception in place of one
pub refuse_under : (res : Result (Unit {0}) Halt) (m n : Machine) (k : ℕ) → OnOk res (IsUnder 0 m n)
    → OnOk res (next n.control + (tasks n.tasks + k) < loads.called + (tasks m.tasks + k))
refuse_under res m n k less =
    on_ok res (IsUnder 0 m n) (next n.control + (tasks n.tasks + k) < loads.called + (tasks m.tasks + k))
    (λ less.
    let least = called_least in
    omega arith) less

pub refused_under : (res : Result (Unit {0}) Halt) (r q : Runner) (w v : World) → OnOk res (run_load q < loads.called + behind r) → OnOk res (Lowers loads.called r w q v)
refused_under res r q w v less = on_ok res (run_load q < loads.called + behind r) (Lowers loads.called r w q v) (λ less still. less) less

-- an instance is given
pub given_under : (res : Result (Unit {0}) Halt) (m h n : Machine) (k : ℕ) → h.tasks ≡ m.tasks → OnOk res (load n ≡ 2 + tasks h.tasks)
    → OnOk res (next n.control + (tasks n.tasks + k) < loads.called + (tasks m.tasks + k))
given_under res m h n k drops is =
    on_ok res (load n ≡ 2 + tasks h.tasks) (next n.control + (tasks n.tasks + k) < loads.called + (tasks m.tasks + k))
    (λ is.
    let least = called_least in
    let had : tasks h.tasks ≡ tasks m.tasks = ap tasks drops in
    omega arith) is

-- what is called from a later world
pub later_under : (res : Result (Unit {0}) Halt) (b : ℕ) (r q : Runner) (w u v : World) → u.running.meter.left ≤ w.running.meter.left → OnOk res (Lowers b r u q v)
    → OnOk res (Lowers b r w q v)
later_under res b r q w u v fewer less = on_ok res (Lowers b r u q v) (Lowers b r w q v) (λ less still. less (omega arith)) less

-- what the machine asks for
pub asked_under : (res : Result (Unit {0}) Halt) (r q : Runner) (w v : World) (z : Control) → r.machine.control ≡ z → OnOk res (Lowers (next z) r w q v)
    → OnOk res (Lowers (next r.machine.control) r w q v)
asked_under res r q w v z is less = subst (λ (z : Control). OnOk res (Lowers (next z) r w q v)) (sym is) less

-- the turns of a comprehension

pub over_under : (res : Result (Unit {0}) Halt) (b : ℕ) (r q : Runner) (m : Machine) (w v : World) → m.tasks ≡ r.machine.tasks → OnOk res (Lowers b (record r { machine = m }) w q v)
    → OnOk res (Lowers b r w q v)
over_under res b r q m w v same less =
    on_ok res (Lowers b (record r { machine = m }) w q v) (Lowers b r w q v)
    (λ less still.
    let under = less still in
    let were : tasks m.tasks ≡ tasks r.machine.tasks = ap tasks same in
    omega arith) less

pub turns_under : (res : Result (Unit {0}) Halt) (n g : Machine) (us cs : List Caller) (ts : List Task) (c : Caller) (w v : World) → c.tasks ≡ ts → g.tasks ≡ [] → us ≡ cs ++ c ∷ []
    → OnOk res (loads.Lowers 2 g w n v)
    → OnOk res (w.running.meter.left ≤ v.running.meter.left → next n.control + (tasks n.tasks + waits us) < 4 + (tasks ts + waits cs))
turns_under res n g us cs ts c w v waiting none more less =
    on_ok res (loads.Lowers 2 g w n v) (w.running.meter.left ≤ v.running.meter.left → next n.control + (tasks n.tasks + waits us) < 4 + (tasks ts + waits cs))
    (λ less still.
    let under = less still in
    let all : waits us ≡ waits cs + suc (tasks c.tasks) = ap waits more ∙ waits_last cs c in
    let kept : tasks c.tasks ≡ tasks ts = ap tasks waiting in
    let free : tasks g.tasks ≡ 0 = ap tasks none in
    omega arith) less

-- no value in place of them
pub none_under : (res : Result (Unit {0}) Halt) (m n : Machine) (k : ℕ) (w v : World) → OnOk res (load n ≡ tasks m.tasks)
    → OnOk res (w.running.meter.left ≤ v.running.meter.left → next n.control + (tasks n.tasks + k) < 4 + (tasks m.tasks + k))
none_under res m n k w v is =
    on_ok res (load n ≡ tasks m.tasks) (w.running.meter.left ≤ v.running.meter.left → next n.control + (tasks n.tasks + k) < 4 + (tasks m.tasks + k)) (λ is still. omega arith) is
