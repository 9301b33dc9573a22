-- Which characters a run goes on over.
use Rattle.std.specs.Prelude.{ℕ, Bool}
use Rattle.unicode_ident.specs.Ident.{is_xid_continue}
use Rattle.rp_token.specs.declared.text.Run.{Run}
use Rattle.rp_token.specs.declared.text.Run.TheVariants as run
use Rattle.rp_token.specs.Characters.{is_blank, is_comment, is_numeral}

-- the test of a run's characters
abbrev pub passes : Run → ℕ → Bool
passes run.Blanks c = is_blank c
passes run.Comment c = is_comment c
passes run.Word c = is_xid_continue c
passes run.Number c = is_numeral c
