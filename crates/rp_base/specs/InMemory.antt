-- Files and sinks that are held in memory, and the calls that they are told to fail.
use Rattle.std.specs.Prelude.{ℕ, ◌+◌, ◌-◌, ◌^◌, min, Bool, List, [], Option, find, Contains, Vec}
use Rattle.std.specs.Option.{option_map_or}
use Rattle.std.specs.declared.alloc.Global.{Global}
use Rattle.rp_base.specs.Same.{same_text}

-- the first file that is listed at a path
abbrev pub file_at : List (List ℕ × Vec ℕ Global) → List ℕ → Option (List ℕ × Vec ℕ Global)
file_at files path = find (λ file. same_text file.0 path) files

-- the bytes of the first file that is listed at a path, none where there is no such file
abbrev pub bytes_at : List (List ℕ × Vec ℕ Global) → List ℕ → List ℕ
bytes_at files path = option_map_or (λ file. file.1.items) (file_at files path) []

-- the bytes of the file that was begun last
abbrev pub last_bytes : List (List ℕ × Vec ℕ Global) → Option (List ℕ) → List ℕ
last_bytes files last = option_map_or (bytes_at files) last []

-- the listed files, and what is left of the one that was begun last
pub record HeldFiles : Type 0 where
  pub listed : List (List ℕ × Vec ℕ Global)
  pub last_path : List ℕ
  pub left : List ℕ
  pub is_open : Bool
  pub begun : ℕ

-- the files once the one at a path was begun, and opened or left closed
abbrev pub begun_at : HeldFiles → List ℕ → Bool → HeldFiles
begun_at files path is_open =
    record {
      listed = files.listed;
      last_path = path;
      left = bytes_at files.listed path;
      is_open = is_open;
      begun = files.begun + 1;
    }

-- the numbers of the calls that fail, how many calls were made, and how many have failed
pub record PlannedCalls : Type 0 where
  pub failing : List ℕ
  pub made : ℕ
  pub faults : ℕ

-- the plan before any call
abbrev pub new_plan : List ℕ → PlannedCalls
new_plan failing = record { failing = failing; made = 0; faults = 0 }

-- the number of the next call, from 1; a count stands still at the end of its type
abbrev pub next_number : PlannedCalls → ℕ
next_number calls = min (calls.made + 1) (2 ^ 64 - 1)

-- the plan after a call that did its work
abbrev pub after_work : PlannedCalls → PlannedCalls
after_work calls = record calls { made = next_number calls }

-- the plan after a call that failed
abbrev pub after_fault : PlannedCalls → PlannedCalls
after_fault calls = record calls { made = next_number calls; faults = calls.faults + 1 }

-- the next call is one of those that fail
abbrev pub FailsNext : PlannedCalls → Type 0
FailsNext calls = Contains calls.failing (next_number calls)

-- listed files, how many bytes a read hands out at most, and the calls that fail
pub record FailingFiles : Type 0 where
  pub held : HeldFiles
  pub most : ℕ
  pub plan : PlannedCalls

-- the bytes that a sink has taken, how many more it has room for, how many a write takes at most,
-- and the calls that fail
pub record FailingSink : Type 0 where
  pub taken : List ℕ
  pub room : ℕ
  pub most : ℕ
  pub plan : PlannedCalls
