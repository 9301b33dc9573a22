use Rattle.std.proofs.Common.{◌≡◌, ◌++◌, map}
use Rattle.toml.specs.View.{members_view}
use Rattle.rp_decl.specs.Consistency.{unknown}
use Rattle.rp_decl.specs.Document.{class_of, each_member}
use Rattle.rp_decl.specs.Naming.{each_named, like_named}
use Rattle.rp_decl.specs.Order.{least, lesser_of}
use Rattle.rp_decl.specs.Ring.{like_place}
use Rattle.rp_decl.proofs.likes.Likes.each.Given as goal

abbrev pub invariant-loop-name : goal.invariant-loop-name
invariant-loop-name l = record {
  places : l.places.items ++ map (like_place l.classes) (each_member class_of (members_view l._name-iterator))
      ≡ map (like_place l.classes) (each_member class_of (members_view l.table.entries));
  unknown : lesser_of l.unknown (least (unknown l.classes (each_named like_named (members_view l._name-iterator))))
      ≡ least (unknown l.classes (each_named like_named (members_view l.table.entries)));
}
