use Rattle.std.proofs.Common.{◌≡◌, ◌++◌, map, drop}
use Rattle.rp_scope.specs.declared.mentions.Mention.TheVariants.{Global}
use Rattle.rp_scope.specs.MentionSteps.{listed}
use Rattle.rp_scope.proofs.mentions.note_globals.Given as goal

abbrev pub invariant-names : goal.invariant-names
invariant-names l = l.list.items ++ listed l.listing (map (λ n. Global n.name) (drop l.named-index l.names)) ≡ l.initial.list.items ++ listed l.listing (map (λ n. Global n.name) l.names)
