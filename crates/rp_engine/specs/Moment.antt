-- What the code of a machine sees that stays the same in a run.
use Rattle.std.specs.Prelude.{◌-◌, nat_eq, if◌then◌else◌, List, slice_get}
use Rattle.std.specs.Option.{option_map_or}
use Rattle.rp_base.specs.declared.value.Side.{Side}
use Rattle.rp_frame.specs.declared.activation.Activation.{Activation}
use Rattle.rp_meaning.specs.Frame.{Frame, Program, Run, program_of}
use Rattle.rp_meaning.specs.Running.{calls_within}
use Rattle.rp_meaning.specs.Scopes as scopes
use Rattle.rp_scope.specs.Scopes.{Scope, found_from, locals_of}
use Rattle.rp_scope.specs.declared.place.Place2.{Place2}
use Rattle.rp_scope.specs.declared.place.Place2.TheVariants as place
use Rattle.rp_access.specs.Moment.{decided_run}
use Rattle.rp_engine.specs.declared.units.Program.{Program as CodeProgram}
use Rattle.rp_engine.specs.declared.units.Units.{Units}
use Rattle.rp_tree.specs.StatementViews.{view_tree}

abbrev pub place_view : Place2 → scopes.Place
place_view (place.Local i) = scopes.local i
place_view (place.Outer n i) = scopes.outer n i
place_view place.Global = scopes.global

abbrev pub layouts_view : List Scope → scopes.Layouts
layouts_view table = record { locals = locals_of table; place = λ block name. place_view (found_from table block name) }

abbrev pub program_view : CodeProgram → Program
program_view u = program_of (view_tree u.tree.now) (layouts_view u.layouts)

-- the unit of a side
abbrev pub program_at : Units → Side → CodeProgram
program_at units side = if nat_eq side.0 0 then units.module else option_map_or (λ u. u) (slice_get units.scripts.items (side.0 - 1)) units.module

-- a run of these units, whose operations are decided, with the built-in functions and methods
abbrev pub run_of : Run → Units → Run
run_of base units = record (decided_run base) { programs = λ side. program_view (program_at units side) }

abbrev pub frame_of : Run → Activation → Frame
frame_of run a = record {
  run = run;
  calls = λ at x s. calls_within run a.calls at x s;
  side = a.side;
  block = a.block;
  scope = a.scope;
  handling = a.handling;
}
