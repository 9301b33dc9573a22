use Rattle.std.proofs.Common.{◌≡◌, ◌-◌, length}
use Rattle.rp_scope.specs.Scopes.{found, found_from}
use Rattle.rp_scope.proofs.scopes.Scopes.place.Given as goal

abbrev pub invariant-blocks-2 : goal.invariant-blocks-2
invariant-blocks-2 l = found (length l.self - l.outwards) l.self l.outwards l.number l.name ≡ found_from l.self l.block l.name
