use Rattle.std.proofs.Common.{◌≡◌, ◌++◌, chars, length}
use denote.Text.{Utf8}
use denote.Shadow.{shadow}
use Rattle.rp_show.specs.Shown.{escaped_all}
use Rattle.rp_show.proofs.rock_texts.Line.add_escaped.Given as goal

-- what is added so far, and the escapes of what is left
abbrev pub invariant-runs : goal.invariant-runs
invariant-runs l = shadow (Utf8 l.rest) × (l.self ++ escaped_all l.quote (chars l.rest) ≡ l.initial.self ++ escaped_all l.quote (chars l.text))

abbrev pub decreases-runs : goal.decreases-runs
decreases-runs l = length (chars l.rest)
