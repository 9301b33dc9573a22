use Rattle.std.proofs.Common.{◌≡◌, drop}
use Rattle.std.specs.List.{filter_map}
use Rattle.indexmap.specs.IndexSet.{insert_all}
use Rattle.rp_scope.specs.Bindings.{bound_name}
use Rattle.rp_scope.specs.MentionSteps.{unlisted}
use Rattle.rp_scope.specs.Scopes.{same_name}
use Rattle.rp_scope.proofs.layout.add_locals.Given as goal

abbrev pub invariant-mentions : goal.invariant-mentions
invariant-mentions l = insert_all same_name l.names.keys (unlisted same_name l.globals.keys (filter_map bound_name (drop l.mention-index l.mentions))) ≡ insert_all same_name l.initial.names.keys (unlisted same_name l.globals.keys (filter_map bound_name l.mentions))
