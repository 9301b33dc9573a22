use Rattle.std.proofs.Common.{◌≡◌, ◌++◌, length, map}
use Rattle.std.specs.List.{AllZip}
use Rattle.std.specs.Vec.Iter.{into_iter_items, into_iter_len}
use Rattle.rp_session.specs.Programs.{IsResolved}
use Rattle.rp_session.proofs.trees.parts_of.Given as goal

-- the trees and the tables of the scripts so far, and the scripts that are left
abbrev pub invariant-loop-script : goal.invariant-loop-script
invariant-loop-script l = record {
  yielded : l.yielded ++ into_iter_items l.script-iterator ≡ into_iter_items l.initial.script-iterator;
  left : into_iter_len l.script-iterator ≡ length (into_iter_items l.script-iterator);
  trees : l.trees.items ≡ map (λ script. script.rewritten) l.yielded;
  resolved : AllZip IsResolved l.trees.items l.tables.items;
}
