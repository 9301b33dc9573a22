-- What is read of a file.
use Rattle.std.specs.Prelude.{◌≡◌, ℕ, List}
use Rattle.rp_run.specs.declared.reading.Contents.{Contents}
use Rattle.rp_run.specs.declared.reading.Contents.TheVariants.{Whole, TooLong}
use Rattle.rp_run.specs.Told.{IsShort, IsTooLong}

-- all bytes of a file that is short enough, or else the fact that it is too long
abbrev pub Holds : Contents → List ℕ → Type 0
Holds (Whole bytes) file = (bytes.items ≡ file) × IsShort file
Holds TooLong file = IsTooLong file
