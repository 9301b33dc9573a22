-- What a run of code still has to do, where code waits for the ends of calls that it made.
use Rattle.std.specs.Prelude.{◌≡◌, ℕ, suc, All, Bool, IfSome, List, [], ◌∷◌, Option, Some, drop, reverse, take}
use Rattle.rp_base.specs.declared.value.Name.{Name}
use Rattle.rp_base.specs.declared.value.Oid.{Oid}
use Rattle.rp_base.specs.declared.value.Side.{Side}
use Rattle.rp_base.specs.declared.value.Value.{Value}
use Rattle.rp_base.specs.declared.value.Value.TheVariants as value
use Rattle.rp_frame.specs.Top.{top}
use Rattle.rp_meaning.specs.Binding.{Arguments, behind}
use Rattle.rp_meaning.specs.BuiltIn.{not_called}
use Rattle.rp_meaning.specs.Calls.{made_instance}
use Rattle.rp_meaning.specs.Frame.{Meaning, Run}
use Rattle.rp_meaning.specs.Running.{calls_within, value_of}
use Rattle.rp_meaning.specs.Special.{Special, on_special}
use Rattle.rp_meaning.specs.State.{State, Outcome}
use Rattle.rp_ops.specs.Outcome.{on_value}
use Rattle.rp_proxy.specs.declared.world.World.{World}
use Rattle.rp_store.specs.Kept.{IsFit, IsSound}
use Rattle.rp_step.specs.Callables.{given_at, given_by}
use Rattle.rp_engine.specs.ArgumentSteps.{sum_of}
use Rattle.rp_engine.specs.DefinitionSteps.{called, called_by, got_by}
use Rattle.rp_engine.specs.HandSteps.{held_by, size_of}
use Rattle.rp_engine.specs.Law.{frame_in, rest_of}
use Rattle.rp_engine.specs.Moment.{frame_of, run_of}
use Rattle.rp_engine.specs.Ready.{IsReady}
use Rattle.rp_engine.specs.Rest.{Held, gave, did, rest}
use Rattle.rp_engine.specs.SpecialSteps.{special_called}
use Rattle.rp_step.specs.declared.callers.Caller.{Caller}
use Rattle.rp_engine.specs.declared.calling.Hand.{Hand}
use Rattle.rp_step.specs.declared.runner.Runner.{Runner}
use Rattle.rp_access.specs.Moment.{state_of}

-- what a caller gets of the end of the code that it called, or of the turns of a comprehension
abbrev pub given : Run → Caller → Outcome Value → Held
given base c o = gave (frame_of (run_of base c.units.now) c.frame) c.values (on_value o (λ v s. given_at c.filled c.lent c.made v (frame_of (run_of base c.units.now) c.frame) s))

-- what it gets of a value, where it made no instance and waits for no turns
abbrev pub got : Run → Caller → Value → State → Held
got base c v s = gave (frame_of (run_of base c.units.now) c.frame) c.values (got_by c.lent v (frame_of (run_of base c.units.now) c.frame) s)

abbrev pub resumed : Run → Caller → Held → Held
resumed base c (gave f vs o) = given base c o
resumed base c (did f vs o) = gave (frame_of (run_of base c.units.now) c.frame) c.values
    (on_value o (λ flow s. given_at c.filled c.lent c.made (value_of flow) (frame_of (run_of base c.units.now) c.frame) s))

-- what the callers do once the code that was called last has come to an end; the first of them called first
abbrev pub unwound : Run → List Caller → Held → Held
unwound base [] h = h
unwound base (c ∷ cs) h = rest c.tasks (resumed base c (unwound base cs h))

-- the end that all comes to, and the state then
abbrev pub whole_of : Run → Runner → State → Held
whole_of base r s = unwound base r.callers.items (rest_of base r.machine s)

-- what a step leaves to be done is what was to be done
abbrev pub GoesOn : Runner → World → Runner → World → Type 0
GoesOn r w q v = (base : Run) → whole_of base q (state_of v) ≡ whole_of base r (state_of w)

-- when all code may run in a world
pub record IsWaiting (w : World) (c : Caller) : Type 0 where
  pub ready : IsReady c.units.now c.frame c.values w
  pub made : IfSome c.made (λ at. IsSound w.store.heap (value.Ref at))
  pub filled : IfSome c.filled (λ at. IsFit w.store.heap c.frame.side (value.Ref at))

pub record IsRunnable (r : Runner) (w : World) : Type 0 where
  pub machine : IsReady r.machine.units.now r.machine.frame r.machine.values w
  pub callers : All (IsWaiting w) r.callers.items

-- what is left to be done, where what was at hand comes to what this means; what the control was does not matter
abbrev pub Gets : Meaning → Runner → World → Runner → World → Type 0
Gets does r w q v = (base : Run) → whole_of base q (state_of v)
    ≡ unwound base r.callers.items (rest r.machine.tasks (gave (frame_in base r.machine) r.machine.values (does (frame_in base r.machine) (state_of w))))

-- what a call leaves to be done that gives this, where so many values and what is called are at hand
abbrev pub Gives : ℕ → (Run → State → Outcome Value) → Runner → World → Runner → World → Type 0
Gives size found r w q v = (base : Run) → whole_of base q (state_of v)
    ≡ unwound base r.callers.items (rest r.machine.tasks (gave (frame_in base r.machine) (drop (suc size) r.machine.values) (found base (state_of w))))

-- of what is at hand; what the control was does not matter
abbrev pub Makes : Hand → Runner → World → Runner → World → Type 0
Makes h r w q v = Gives (size_of h) (λ base s. called (top (drop (size_of h) r.machine.values)) (held_by h r.machine.values) (frame_in base r.machine) s) r w q v

-- of the special method of this name of what is at hand under so many arguments, which have no names
abbrev pub MakesSpecial : Name → ℕ → Runner → World → Runner → World → Type 0
MakesSpecial name n r w q v = Gives (sum_of n 0) (λ base s.
    special_called name (top (drop (sum_of n 0) r.machine.values)) (reverse (take n r.machine.values)) (frame_in base r.machine) s) r w q v

-- of a special method that was found, through a proxy or not
abbrev pub CallsMethod : Hand → Option Special → Bool → Runner → World → Runner → World → Type 0
CallsMethod h m lent r w q v = Gives (size_of h) (λ base s.
    on_value (on_special m (λ m. (frame_in base r.machine).calls m.function (behind m.of (held_by h r.machine.values))) not_called s)
    (λ x s. got_by lent x (frame_in base r.machine) s)) r w q v

-- of the function at a place
abbrev pub Enters : Hand → Oid → Arguments → Bool → Option Oid → Runner → World → Runner → World → Type 0
Enters h at a lent made r w q v = Gives (size_of h) (λ base s.
    on_value (calls_within (run_of base r.machine.units.now) r.machine.frame.calls at a s) (λ x s. given_by lent made x (frame_in base r.machine) s)) r w q v

-- of the object at a place
abbrev pub CallsAt : Hand → Oid → Bool → Runner → World → Runner → World → Type 0
CallsAt h at lent r w q v = Gives (size_of h) (λ base s. called_by (Some (at, lent)) (held_by h r.machine.values) (frame_in base r.machine) s) r w q v

-- of a class of an owner, with this function for `__init__`
abbrev pub Instances : Hand → Side → Oid → Option Oid → Bool → Runner → World → Runner → World → Type 0
Instances h owner class init lent r w q v = Gives (size_of h) (λ base s.
    on_value (made_instance owner class init (held_by h r.machine.values) (frame_in base r.machine) s) (λ x s. got_by lent x (frame_in base r.machine) s)) r w q v
