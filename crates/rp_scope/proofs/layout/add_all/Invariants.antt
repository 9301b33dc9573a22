use Rattle.std.proofs.Common.{◌≡◌, drop}
use Rattle.indexmap.specs.IndexSet.{insert_all}
use Rattle.rp_scope.specs.Scopes.{same_name}
use Rattle.rp_scope.proofs.layout.add_all.Given as goal

abbrev pub invariant-names : goal.invariant-names
invariant-names l = insert_all same_name l.names.keys ((drop l.name-index l.more)) ≡ insert_all same_name l.initial.names.keys (l.more)
