-- The decisions of the trail, as texts.
use Rattle.std.specs.Prelude.{ℕ, List, Option}

-- What was decided (zope.security, checkers): allowed by a row, which has this permission or none; denied, for want of this
-- permission; or forbidden, as there is no row.
pub data Verdict : Type 0 where
  allowed : Option (List ℕ) → Verdict
  denied : List ℕ → Verdict
  forbidden : Verdict

-- one decision
pub record Entry : Type 0 where
  -- the number of the session that ran
  pub session : ℕ
  -- `get` or `set`
  pub op : List ℕ
  -- the class of the object
  pub class : List ℕ
  -- the name that was to be read or set
  pub name : List ℕ
  pub verdict : Verdict
