use Rattle.std.proofs.Common.{◌≡◌, ◌++◌, map, drop}
use Rattle.rp_expr.proofs.distinct.name_places.Given as goal

abbrev pub invariant-names : goal.invariant-names
invariant-names l = l.places.items ++ map (λ n. n.0) (drop l.name-index l.names) ≡ map (λ n. n.0) l.names
