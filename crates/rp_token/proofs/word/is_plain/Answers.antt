use Rattle.std.proofs.Common.{◌≤◌, length}
use Rattle.std.specs.Str.{IsAscii}
use Rattle.std.proofs.lemmas.Bool.{leb-true}
use Rattle.rp_token.proofs.Words.{IsIdentifier-plain}
use Rattle.rp_token.proofs.word.is_plain.Goals as goal

pub returns-then-is_ascii : goal.returns-then-is_ascii
returns-then-is_ascii c = λ plain.
    let word = c.args.word.now in
    let ascii : IsAscii word = rw c.if-is_ascii.true at c.is_ascii.ensures.cases in
    let few : length word ≤ 255 = leb-true (length word) 255 plain in
    IsIdentifier-plain word ascii few c.requires
