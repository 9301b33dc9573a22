-- Which characters a run goes on over.
use Rattle.std.specs.Prelude.{ℕ, Bool, ◌==◌, not}
use Rattle.rp_token.specs.Characters.{is_blank}
use Rattle.rp_more.specs.declared.letters.Run.{Run}
use Rattle.rp_more.specs.declared.letters.Run.TheVariants as run

-- the test of a run's characters
abbrev pub passes : Run → ℕ → Bool
passes run.Blanks c = is_blank c
passes run.Enclosed c = not (c == 125)
