use Rattle.std.proofs.Common.{◌≡◌}
use Rattle.toml.specs.View.{members_view}
use Rattle.rp_decl.specs.Order.{least, lesser_of}
use Rattle.rp_decl.specs.Path.{path_of}
use Rattle.rp_decl.specs.Shape.{all_members, entry_member}
use Rattle.rp_decl.proofs.shape.each_entry_fault.Given as goal

abbrev pub invariant-loop-key : goal.invariant-loop-key
invariant-loop-key g l =
    let faults = entry_member (g.E.Entry.admits l.entry) (g.E.Entry.faults l.entry) (path_of l.path) in
    lesser_of l.least (least (all_members faults (members_view l.key-iterator))) ≡ least (all_members faults (members_view l.table.entries))
