-- What the machine asks for is what is done next.
use Rattle.std.specs.Prelude.{◌≡◌}
use Rattle.rp_access.specs.Moment.{state_of}
use Rattle.rp_access.specs.Spots.{cursor_at}
use Rattle.rp_engine.specs.ComprehensionSteps.{comprehension_over, does_made}
use Rattle.rp_engine.specs.Does as does
use Rattle.rp_engine.specs.Law.{frame_in}
use Rattle.rp_engine.specs.Rest.{Held, begun, gave, rest}
use Rattle.rp_engine.specs.declared.calling.Hand.{Hand}
use Rattle.rp_frame.specs.Top.{below, top}
use Rattle.rp_frame.specs.declared.control.Control.TheVariants as control
use Rattle.rp_frame.specs.declared.spot.Spot.{Spot}
use Rattle.rp_meaning.specs.Frame.{Run}
use Rattle.rp_proxy.specs.declared.world.World.{World}
use Rattle.rp_step.specs.Running.{Makes, unwound, whole_of}
use Rattle.rp_step.specs.declared.runner.Runner.{Runner}
use Rattle.rp_targets.specs.declared.comprehensions.ComprehensionParts.{ComprehensionParts}

-- a call under these arguments
pub call_asked : (r : Runner) (w v : World) (q : Runner) (h : Hand) → Makes h r w q v → (base : Run) → whole_of base q (state_of v)
    ≡ unwound base r.callers.items (rest r.machine.tasks (begun (frame_in base r.machine) (control.Call h.plain h.named) r.machine.values r.machine.end (state_of w)))
call_asked r w v q h law base = law base

-- the turns of a comprehension
abbrev pub turned : Run → Runner → World → ComprehensionParts → Spot → Held
turned base r w e p = unwound base r.callers.items (rest r.machine.tasks (gave (frame_in base r.machine) (below r.machine.values)
    (comprehension_over e.block (does.clause e.first.now) (does.clauses e.behind.now) (does_made e.made) (cursor_at (top r.machine.values) p)
    (frame_in base r.machine) (state_of w))))

pub turns_asked : (r : Runner) (w v : World) (q : Runner) (e : ComprehensionParts) (p : Spot)
    → ((base : Run) → whole_of base q (state_of v) ≡ turned base r w e p)
    → (base : Run) → whole_of base q (state_of v) ≡ unwound base r.callers.items (rest r.machine.tasks
    (begun (frame_in base r.machine) (control.Comprehension e.block e.first e.behind e.made p) r.machine.values r.machine.end (state_of w)))
turns_asked r w v q e p law base = law base
