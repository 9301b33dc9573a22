use Rattle.std.proofs.Common.{◌≡◌}
use Rattle.toml.specs.View.{members_view}
use Rattle.rp_decl.specs.Consistency.{unknown}
use Rattle.rp_decl.specs.Naming.{each_named}
use Rattle.rp_decl.specs.Order.{least, lesser_of}
use Rattle.rp_decl.proofs.naming.each_unknown.Given as goal

abbrev pub invariant-loop-key : goal.invariant-loop-key
invariant-loop-key g l =
    let named = g.N.Naming.named l.naming in
    lesser_of l.least (least (unknown l.known (each_named named (members_view l._key-iterator)))) ≡ least (unknown l.known (each_named named (members_view l.table.entries)))
