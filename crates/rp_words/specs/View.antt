-- Commands as the code has them.
use Rattle.std.specs.Prelude.{map}
use Rattle.rp_words.specs.Command as words
use Rattle.rp_words.specs.declared.command.Command.{Command}
use Rattle.rp_words.specs.declared.command.Command.TheVariants as command
use Rattle.rp_words.specs.declared.command.May.{May}
use Rattle.rp_words.specs.declared.command.Pair.{Pair}
use Rattle.rp_words.specs.declared.command.Run.{Run}

abbrev pub pair_view : Pair → words.Pair
pair_view p = record { who = p.who; ids = p.ids.items; path = p.path }

abbrev pub run_view : Run → words.Run
run_view r = record {
  declarations = r.declarations;
  pairs = map pair_view r.pairs.items;
  steps = r.steps;
  cells = r.cells;
  turns = r.turns.items;
  trail = r.trail;
}

abbrev pub may_view : May → words.May
may_view m = record { declarations = m.declarations; ids = m.ids.items; permission = m.permission }

abbrev pub command_view : Command → words.Command
command_view (command.Run r) = words.run (run_view r)
command_view (command.Script question path) = words.script question path
command_view (command.May m) = words.may (may_view m)
command_view (command.Large n) = words.large n
