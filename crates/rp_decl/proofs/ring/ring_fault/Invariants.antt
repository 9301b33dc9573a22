use Rattle.std.proofs.Common.{◌≡◌, drop, filter}
use Rattle.rp_decl.specs.Consistency.{class_names, is_on_ring}
use Rattle.rp_decl.specs.Order.{least, lesser_of}
use Rattle.rp_decl.specs.Records.{Declarations}
use Rattle.rp_decl.proofs.Rings.{likes_of}
use Rattle.rp_decl.proofs.ring.ring_fault.Given as goal

abbrev pub invariant-loop-place : goal.invariant-loop-place
invariant-loop-place l =
    (d : Declarations) → l.classes ≡ class_names d → l.likes ≡ likes_of d
    → lesser_of l.least (least (filter (is_on_ring d) (drop l.place (class_names d))))
    ≡ least (filter (is_on_ring d) (class_names d))
