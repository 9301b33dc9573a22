-- The line of a decision in a run's output.
use Rattle.std.specs.Prelude.{ℕ, ◌+◌, List, [], ◌∷◌, ◌++◌, codes, Option, unwrap_or}
use Rattle.std.specs.Fmt.{decimal}
use Rattle.std.specs.List.{join_with_byte}
use Rattle.rp_trail.specs.Entry.{Verdict, allowed, denied, forbidden, Entry}

-- the permission of the row that allowed the operation, or `default` where it has none
abbrev pub reason : Option (List ℕ) → List ℕ
reason permission = unwrap_or permission (codes "default")

-- the words that tell a verdict on an operation at a target
abbrev pub verdict_words : Verdict → List ℕ → List ℕ → List (List ℕ)
verdict_words (allowed permission) op target = codes "allow" ∷ op ∷ target ∷ reason permission ∷ []
verdict_words (denied permission) op target = codes "deny" ∷ op ∷ target ∷ permission ∷ []
verdict_words forbidden op target = codes "forbid" ∷ op ∷ target ∷ []

-- the number of the entry from 1, that of the session, and who it is of; then the verdict
abbrev pub words : ℕ → List ℕ → Entry → List (List ℕ)
words i who e = decimal (i + 1) ∷ decimal e.session ∷ who ∷ verdict_words e.verdict e.op (e.class ++ 46 ∷ e.name)

-- the line of the entry at the place i: its words, joined by blanks, and a line end
abbrev pub line_of : ℕ → List ℕ → Entry → List ℕ
line_of i who e = join_with_byte 32 (words i who e) ++ 10 ∷ []
