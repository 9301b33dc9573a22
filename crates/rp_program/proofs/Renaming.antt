-- What spells a tree under some names spells one under others.
use Rattle.std.proofs.Common.{◌≡◌, ℕ, ◌+◌, length, refl, Ok, Err, sym, ap, ◌∙◌, arith}
use Rattle.rp_base.specs.declared.value.Name.{Name}
use Rattle.rp_tree.specs.Statements.{Stmts}
use Rattle.rp_grammar.specs.Kinds.{Tokens}
use Rattle.rp_grammar.specs.ExpressionReading as reading
use Rattle.rp_grammar.specs.Program.{Spells}
use Rattle.rp_grammar.specs.StatementReading as stmt_reading
use Rattle.rp_grammar.specs.StatementReading.{Found}
use Rattle.rp_grammar.proofs.Founds.{ok_is}
use Rattle.rp_grammar.proofs.Low.{always_shallow}
use Rattle.rp_grammar.proofs.Renamed.{IsInjective, renamed_found, renamed_stmts, renamed_tokens}
use Rattle.rp_grammar.proofs.Renaming.{program_renamed}
use Rattle.rp_grammar.proofs.StatementComplete.{program_complete}
use Rattle.rp_grammar.proofs.StatementSound.{program_spells}

module _ (f : Name → Name) (injective : IsInjective f) where
  pub spells_there : (tree : Stmts) (ts : Tokens) → Spells tree ts → Spells (renamed_stmts f tree) (renamed_tokens f ts)
  spells_there tree ts spelled =
      let most = length ts in
      let shallow = always_shallow 0 ts most (omega arith) in
      program_spells (most + 200) (renamed_tokens f ts) (renamed_stmts f tree, renamed_tokens f spelled.rest)
      (program_renamed f injective (most + 200) 199 ts ∙ ap (renamed_found f) (program_complete most (most + 200) (omega arith) spelled shallow))

  before : (d : ℕ) (ts : Tokens) (tree : Stmts) (rest : Tokens) (found : Found Stmts) → stmt_reading.program_at (reading.readers d) 199 ts ≡ found → renamed_found f found ≡ Ok (tree, rest)
      → (first : Stmts) × Spells first ts × (tree ≡ renamed_stmts f first)
  before d ts tree rest (Ok x) is same = (x.0, program_spells d ts x is, sym (ap (λ (y : Stmts × Tokens). y.0) (ok_is same)))
  before d ts tree rest (Err place) is same = absurd cc

  pub spells_before : (tree : Stmts) (ts : Tokens) → Spells tree (renamed_tokens f ts) → (first : Stmts) × Spells first ts × (tree ≡ renamed_stmts f first)
  spells_before tree ts spelled =
      let most = length (renamed_tokens f ts) in
      let shallow = always_shallow 0 (renamed_tokens f ts) most (omega arith) in
      before (most + 200) ts tree spelled.rest (stmt_reading.program_at (reading.readers (most + 200)) 199 ts) refl
      (sym (program_renamed f injective (most + 200) 199 ts) ∙ program_complete most (most + 200) (omega arith) spelled shallow)
