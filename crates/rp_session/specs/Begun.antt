-- What a session begins with.
use Rattle.std.specs.Prelude.{length, Some, None}
use Rattle.rp_meaning.specs.Expressions.{empty_slots}
use Rattle.rp_meaning.specs.Load.{locals_of}
use Rattle.rp_store.specs.Object as object
use Rattle.rp_store.specs.Object.{Content}
use Rattle.rp_engine.specs.Moment.{program_view}
use Rattle.rp_engine.specs.declared.units.Program.{Program}

-- the global scope of a program, where none of its names is bound
abbrev pub globals_of : Program → Content
globals_of program = object.scope (Some 0) None (empty_slots (length (locals_of (program_view program))))
