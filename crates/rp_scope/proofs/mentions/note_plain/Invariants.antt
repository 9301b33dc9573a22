use Rattle.std.proofs.Common.{◌≡◌, ◌++◌, map, drop}
use Rattle.rp_tree.specs.ExpressionViews as views
use Rattle.rp_scope.specs.Bindings as bindings
use Rattle.rp_scope.specs.Bindings.{all_bound}
use Rattle.rp_scope.specs.MentionSteps.{listed}
use Rattle.rp_scope.proofs.mentions.note_plain.Given as goal

abbrev pub invariant-plain : goal.invariant-plain
invariant-plain l = l.list.items ++ listed l.listing (all_bound (bindings.plain_names (views.plain_of (map views.view_plain (drop l.param-index l.plain))))) ≡ l.initial.list.items ++ listed l.listing (all_bound (bindings.plain_names (views.plain_of (map views.view_plain l.plain))))
