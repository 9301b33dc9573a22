-- Why bytes are no script that may run, and the lines that tell it.
use Rattle.std.specs.Prelude.{◌≡◌, ◌≢◌, ℕ, List, [], ◌++◌, map, codes}
use Rattle.std.specs.List.{flat_map}
use Rattle.rp_base.specs.Names.{word_of}
use Rattle.rp_base.specs.declared.value.Name.{Name}
use Rattle.rp_policy.specs.declared.offence.Offence.{Offence}
use Rattle.rp_policy.specs.Offences.{offence_named, offence_text, offences}
use Rattle.rp_program.specs.declared.fault.ProgramFault.{ProgramFault}
use Rattle.rp_program.specs.declared.fault.ProgramFault.TheVariants as fault
use Rattle.rp_program.specs.Fault.{IsFault, fault_text}
use Rattle.rp_program.specs.Program.{IsProgram}
use Rattle.rp_tree.specs.StatementTrees.{Stmts}
use Rattle.rp_script.specs.declared.refusal.Refusal.{Refusal}
use Rattle.rp_script.specs.declared.refusal.Refusal.TheVariants as refusal

-- The bytes are a program against which the policy of names has nothing.
pub record IsLawful (bytes : List ℕ) : Type 0 where
  pub tree : Stmts (List ℕ)
  pub program : IsProgram bytes tree
  pub none : offences tree ≡ []

-- These are all offences of the tree of the bytes, by the words that their names stand for, and there is one at least.
pub record HasOffences (words : List (List ℕ)) (bytes : List ℕ) (found : List (Offence Name)) : Type 0 where
  pub tree : Stmts (List ℕ)
  pub program : IsProgram bytes tree
  pub all : map (offence_named (word_of words)) found ≡ offences tree
  pub some : found ≢ []

-- The first check that the bytes don't pass: they are a program, and else at fault; the program has no offence, and
-- else they are these. Bytes are never refused for want of memory.
abbrev pub IsRefused : List (List ℕ) → List ℕ → Refusal → Type 0
IsRefused words bytes (refusal.NotUtf8 n) = IsFault bytes (fault.NotUtf8 n)
IsRefused words bytes (refusal.Token f) = IsFault bytes (fault.Token f)
IsRefused words bytes (refusal.Format line) = IsFault bytes (fault.Format line)
IsRefused words bytes (refusal.Syntax line) = IsFault bytes (fault.Syntax line)
IsRefused words bytes (refusal.Offences found) = HasOffences words bytes found.items
IsRefused words bytes refusal.Memory = ⊥

-- the refusal for bytes that are no program
abbrev pub from_program : ProgramFault → Refusal
from_program (fault.NotUtf8 n) = refusal.NotUtf8 n
from_program (fault.Token f) = refusal.Token f
from_program (fault.Format line) = refusal.Format line
from_program (fault.Syntax line) = refusal.Syntax line
from_program fault.Memory = refusal.Memory

-- a line behind a prefix
abbrev pub line : List ℕ → List ℕ → List ℕ
line prefix text = prefix ++ text ++ codes "\n"

-- the line of an offence, by the words that its name stands for
abbrev pub offence_line : List (List ℕ) → List ℕ → Offence Name → List ℕ
offence_line words prefix offence = line prefix (offence_text (offence_named (word_of words) offence))

-- the lines of a refusal: one for each offence, and one for all else
abbrev pub refusal_lines : List (List ℕ) → List ℕ → Refusal → List ℕ
refusal_lines words prefix (refusal.NotUtf8 n) = line prefix (fault_text (fault.NotUtf8 n))
refusal_lines words prefix (refusal.Token f) = line prefix (fault_text (fault.Token f))
refusal_lines words prefix (refusal.Format at) = line prefix (fault_text (fault.Format at))
refusal_lines words prefix (refusal.Syntax at) = line prefix (fault_text (fault.Syntax at))
refusal_lines words prefix (refusal.Offences found) = flat_map (offence_line words prefix) found.items
refusal_lines words prefix refusal.Memory = line prefix (fault_text fault.Memory)
