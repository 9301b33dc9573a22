use Rattle.std.proofs.Common.{◌≡◌, take}
use Rattle.rp_interact.proofs.Naming.{AreNamed}
use Rattle.rp_interact.proofs.interaction.Interaction.new.Given as goal

abbrev pub invariant-loop-id : goal.invariant-loop-id
invariant-loop-id l = (l.ids.items ≡ take l.id-index l.who) × AreNamed l.decl (take l.id-index l.who) l.reasons.items
