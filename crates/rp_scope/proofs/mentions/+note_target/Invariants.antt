use Rattle.std.proofs.Common.{◌≡◌, ◌++◌, map, drop}
use Rattle.rp_tree.specs.ExpressionViews as views
use Rattle.rp_scope.specs.Bindings as bindings
use Rattle.rp_scope.specs.Bindings.{all_bound}
use Rattle.rp_scope.specs.MentionSteps.{listed}
use Rattle.rp_scope.proofs.mentions.+note_target.Given as goal

abbrev pub invariant-note_targets-targets : goal.invariant-note_targets-targets
invariant-note_targets-targets l = l.list.items ++ listed l.listing (all_bound (bindings.targets_names (views.targets_of (map views.view_target (drop l.target-index l.targets))))) ≡ l.initial.list.items ++ listed l.listing (all_bound (bindings.targets_names (views.targets_of (map views.view_target l.targets))))
