use Rattle.std.proofs.Common.{chars, length}
use denote.Text.{Utf8}
use denote.Shadow.{shadow}
use Rattle.rp_more.specs.RunSteps.{passes}
use Rattle.rp_token.proofs.Texts.{Passed}
use Rattle.rp_more.proofs.letters.Run.split.Given as goal

-- the characters before the rest pass the test
abbrev pub invariant-run : goal.invariant-run
invariant-run l = shadow (Utf8 l.rest) × Passed (passes l.self) (chars l.text) (chars l.rest)

abbrev pub decreases-run : goal.decreases-run
decreases-run l = length (chars l.rest)
