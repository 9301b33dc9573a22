-- The offences of statements that are looked at one after another.
use Rattle.std.specs.Prelude.{◌≡◌, ℕ, List, ◌++◌}
use Rattle.rp_base.specs.Names.{word_of}
use Rattle.rp_base.specs.declared.value.Name.{Name}
use Rattle.rp_policy.specs.declared.offence.Offence.{Offence}
use Rattle.rp_policy.specs.Offences.{offences_by}
use Rattle.rp_tree.specs.Statements.{Stmts}

-- the words that names stand for, and the offences so far
pub record Reviewed : Type 0 where
  pub words : List (List ℕ)
  pub found : List (Offence Name)

-- the offences of these statements are found behind those before
pub record Reviews (before : Reviewed) (stmts : Stmts) (after : Reviewed) : Type 0 where
  pub words : after.words ≡ before.words
  pub found : after.found ≡ before.found ++ offences_by (word_of before.words) stmts
