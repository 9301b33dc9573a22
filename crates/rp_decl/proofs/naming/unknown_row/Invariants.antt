use Rattle.std.proofs.Common.{◌≡◌}
use Rattle.toml.specs.View.{members_view}
use Rattle.rp_decl.specs.Consistency.{needed, unknown}
use Rattle.rp_decl.specs.Document.{each_member, row_of}
use Rattle.rp_decl.specs.Order.{least, lesser_of}
use Rattle.rp_decl.proofs.naming.unknown_row.Given as goal

abbrev pub invariant-loop-name : goal.invariant-loop-name
invariant-loop-name l =
    lesser_of l.least (least (unknown l.known (needed (each_member row_of (members_view l._name-iterator))))) ≡ least (unknown l.known (needed (each_member row_of (members_view l.rows.entries))))
