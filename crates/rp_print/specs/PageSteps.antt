-- How a page grows while the code writes it.
use Rattle.std.specs.Prelude.{ℕ, Bool, true, false, List, [], ◌++◌, codes, if◌then◌else◌}

-- the page with a text behind it
unfoldable pub written : List ℕ → List ℕ → List ℕ
written page t = page ++ t

-- what stands before the next part of a list
unfoldable pub gap : List ℕ → Bool → List ℕ
gap separator true = []
gap separator false = separator

-- the end of how a value is dealt out, where a list stands among the targets, and where none does
unfoldable pub spec_end : Bool → List ℕ
spec_end nested = if nested then codes ")" else codes ",)"
