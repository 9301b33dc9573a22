use Rattle.std.proofs.Common.{◌≡◌, [], length}
use Rattle.rp_parse.specs.Visits.{Handed}
use Rattle.rp_parse.proofs.script.program.Given as goal

-- the statements of the tokens before those that are left are handed on, and none waits
abbrev pub invariant-parts : goal.invariant-parts
invariant-parts g l = record {
  handed : Handed g.V.Visitor.takes l.fn.visitor l.fn.tokens.items l.visitor l.on_line l.left;
  none : l.found.items ≡ [];
}

abbrev pub decreases-parts : goal.decreases-parts
decreases-parts g l = length l.left
