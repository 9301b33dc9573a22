use Rattle.std.proofs.Common.{◌≡◌, chars, find, nat_eq}
use Rattle.std.specs.List.{starts_with}
use Rattle.rp_token.specs.Form.{marks}
use Rattle.rp_token.proofs.Places.{mark_from}
use Rattle.rp_token.proofs.spelling.mark.Given as goal

-- the text begins with none of the marks before the place
abbrev pub invariant-loop-place : goal.invariant-loop-place
invariant-loop-place l = mark_from (chars l.text) l.place ≡ find (starts_with nat_eq (chars l.text)) marks
