use Rattle.std.proofs.Common.{◌≡◌, map, drop}
use Rattle.indexmap.specs.IndexSet.{insert_all}
use Rattle.rp_scope.specs.Bindings.{mentioned_name}
use Rattle.rp_scope.specs.Scopes.{same_name}
use Rattle.rp_scope.proofs.layout.add_all_mentioned.Given as goal

abbrev pub invariant-mentions : goal.invariant-mentions
invariant-mentions l = insert_all same_name l.names.keys (map mentioned_name (drop l.mention-index l.mentions)) ≡ insert_all same_name l.initial.names.keys (map mentioned_name l.mentions)
