-- The state for which a world stands, and the runs and frames in which operations are decided.
use Rattle.rp_decl.specs.View.{declarations_view}
use Rattle.rp_meaning.specs.Frame.{Frame, Run}
use Rattle.rp_meaning.specs.State.{State}
use Rattle.rp_meaning.specs.Unmonitored.{monitored}
use Rattle.rp_ops.specs.Outcome as plain
use Rattle.rp_policy.specs.Forbidden.{is_forbidden_attribute}
use Rattle.rp_proxy.specs.declared.world.World.{World}
use Rattle.rp_trail.specs.View.{trail_view}
use Rattle.rp_access.specs.Natives.{is_attribute_word, natives}

abbrev pub state_of : World → State
state_of w = record {
  plain = plain.state_of w.store w.running.meter.left;
  log = trail_view w.names w.decl.permissions w.trail;
  session = w.running.session;
  who = w.running.interaction.ids;
  printed = w.running.printed;
  names = w.names;
  declarations = declarations_view w.names w.decl;
}

-- a run whose operations are decided, with the built-in functions and methods, of which `getattr` and `setattr` take the words that the policy of names lets
-- pass (RestrictedPython, attribute policy)
abbrev pub decided_run : Run → Run
decided_run run = record (monitored run) { natives = natives; is_identifier = is_attribute_word; is_forbidden = is_forbidden_attribute }

-- code of such a run
abbrev pub decided_frame : Frame → Frame
decided_frame frame = record frame { run = decided_run frame.run }
