use Rattle.std.proofs.Common.{◌≡◌, chars}
use Rattle.rp_base.specs.Keyword.{is_keyword}
use Rattle.rp_token.proofs.Places.{is_among}
use Rattle.rp_token.proofs.spelling.keyword.Given as goal

-- the word is none of those before the place
abbrev pub invariant-loop-place : goal.invariant-loop-place
invariant-loop-place l = is_among (chars l.word) l.place ≡ is_keyword (chars l.word)
