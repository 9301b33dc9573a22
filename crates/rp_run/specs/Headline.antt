-- What the program promises of its files and of what it writes.
use Rattle.std.specs.Prelude.{◌≡◌, ◌≢◌, ◌<◌, ◌≤◌, ◌⊎◌, ℕ, zero, suc, List, [], ◌∷◌, ◌++◌, length, map, slice_get, take}
use Rattle.std.specs.Prelude.{encode_utf8_all, Option, Some, None, option_map, IfSome}
use Rattle.rp_decl.specs.Records.{Declarations}
use Rattle.rp_meaning.specs.Sessions.{World}
use Rattle.rp_tree.specs.Statements.{Stmts}
use Rattle.rp_run.specs.Told.{Told, IsAdmitted, first_too_long}
use Rattle.rp_words.specs.Command.{Command, Pair, run, script, may, large}

-- a status of a run in which nothing failed
abbrev pub IsAnswer : ℕ → Type 0
IsAnswer status = (status ≢ 6) × (status ≢ 7) × (status ≢ 8)

-- every status of the program
abbrev pub IsStatus : ℕ → Type 0
IsStatus status = status ≤ 9

-- the text was written behind what stood there, as UTF-8
abbrev pub Writes : List ℕ → Option (List ℕ) → Option (List ℕ) → Type 0
Writes text old new = new ≡ option_map (λ before. before ++ encode_utf8_all text) old

-- a front of it was written, and not the whole
abbrev pub WritesFront : List ℕ → Option (List ℕ) → Option (List ℕ) → Type 0
WritesFront text old new =
    (n : ℕ) × ((n < length (encode_utf8_all text))
    × (new ≡ option_map (λ before. before ++ take n (encode_utf8_all text)) old))

-- the whole of what is told to the contents was written
abbrev pub TellsWhole : List (List ℕ) → ℕ → (List ℕ → List ℕ) → Option (List ℕ) → Option (List ℕ) → Type 0
TellsWhole words status contents old new = (text : List ℕ) × (Told words contents text status × Writes text old new)

-- a front of what is told to the contents was written
abbrev pub TellsFront : List (List ℕ) → (List ℕ → List ℕ) → Option (List ℕ) → Option (List ℕ) → Type 0
TellsFront words contents old new = (text : List ℕ)
    × ((status : ℕ) × (Told words contents text status × WritesFront text old new))

-- the paths of the files that a command names, in the order of its steps
abbrev pub files_of : Command → List (List ℕ)
files_of (run r) = r.declarations ∷ map (λ (p : Pair). p.path) r.pairs
files_of (script q path) = path ∷ []
files_of (may m) = m.declarations ∷ []
files_of (large n) = []

-- so many files were begun, and the last of them is the one behind k others
abbrev pub BeginsFile : Command → ℕ → ℕ → List ℕ → Type 0
BeginsFile c k begun last_path = (begun ≡ suc k) × (slice_get (files_of c) k ≡ Some last_path)

-- no file was begun but those that the command names, each once, in the order of its steps
abbrev pub BeginsNamed : Option Command → ℕ → List ℕ → Type 0
BeginsNamed None begun last_path = begun ≡ 0
BeginsNamed (Some c) begun last_path = (begun ≡ 0) ⊎ ((k : ℕ) × BeginsFile c k begun last_path)

-- Nothing refuses before the file behind k others: it is the first, or the declarations are read, are loaded and have
-- the principals, and none of the scripts before it is too long.
abbrev pub ComesToFile : Command → ℕ → (List ℕ → List ℕ) → Type 0
ComesToFile c zero contents = Unit {0}
ComesToFile (run r) (suc k) contents = (d : Declarations)
    × ((body : Stmts) × ((w : World)
    × (IsAdmitted r contents d body w × (first_too_long contents (take k r.pairs) ≡ None))))
ComesToFile (script q path) (suc k) contents = ⊥
ComesToFile (may m) (suc k) contents = ⊥
ComesToFile (large n) (suc k) contents = ⊥

-- The file at which reading failed is one that the command names, and nothing before it refused. Each file that is begun
-- may fail, so each was the next one of these.
abbrev pub FailsAtNamed : Option Command → Option (List ℕ → List ℕ) → ℕ → List ℕ → Type 0
FailsAtNamed None contents begun last_path = ⊥
FailsAtNamed (Some c) contents begun last_path = (k : ℕ)
    × (BeginsFile c k begun last_path × IfSome contents (ComesToFile c k))
