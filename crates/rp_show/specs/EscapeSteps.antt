-- Which characters have an escape, as one test on the bytes of a text.
use Rattle.std.specs.Prelude.{ℕ, Bool, ◌==◌, ◌||◌}
use Rattle.rp_show.specs.Shown.{backslash, is_control}

-- whether a character is shown by an escape, in a quote
abbrev pub has_escape : ℕ → ℕ → Bool
has_escape q c = is_control c || (c == backslash) || (c == q)
