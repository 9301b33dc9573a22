use Rattle.std.proofs.Common.{◌≡◌, drop}
use Rattle.std.specs.List.{filter_map}
use Rattle.indexmap.specs.IndexSet.{insert_all}
use Rattle.rp_scope.specs.Bindings.{global_name}
use Rattle.rp_scope.specs.Scopes.{same_name}
use Rattle.rp_scope.proofs.layout.add_globals.Given as goal

abbrev pub invariant-mentions : goal.invariant-mentions
invariant-mentions l = insert_all same_name l.names.keys (filter_map global_name (drop l.mention-index l.mentions)) ≡ insert_all same_name l.initial.names.keys (filter_map global_name l.mentions)
