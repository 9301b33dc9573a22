-- When a world answers as its declarations say.
use Rattle.std.specs.Prelude.{List, ℕ, length}
use Rattle.std.specs.List.{All}
use Rattle.rp_base.specs.Names.{HoldsEachOnce}
use Rattle.rp_checker.specs.Answers.{AnswersAs as AnswerRows, AreRowsWithin, IsReadWith}
use Rattle.rp_decl.specs.InOrder.{AreInOrder}
use Rattle.rp_decl.specs.Places.{GrowsTo}
use Rattle.rp_decl.specs.View.{declarations_view}
use Rattle.rp_interact.specs.Answers.{AnswersAs as AnswerGrants}
use Rattle.rp_trail.specs.View.{IsEntryHeld}
use Rattle.rp_proxy.specs.Held.{AreNamed}
use Rattle.rp_proxy.specs.declared.world.World.{World}

-- what a program's names may grow to: each keeps its place, and each word is held once
pub record MayGrowTo (names later : List (List ℕ)) : Type 0 where
  pub grown : GrowsTo names later
  pub distinct : HoldsEachOnce later

pub record IsFaithful (w : World) : Type 0 where
  -- the names are those that the declarations were read into
  pub read : IsReadWith w.names w.decl
  pub ordered : AreInOrder (declarations_view w.names w.decl)
  -- the checkers and the interaction answer as the declarations say, whatever names come later
  pub rows : (later : List (List ℕ)) → MayGrowTo w.names later → AnswerRows later w.decl w.checkers
  pub rows_within : AreRowsWithin (length w.decl.permissions) w.checkers
  pub grants : (later : List (List ℕ)) → MayGrowTo w.names later → AnswerGrants later w.decl w.running.interaction
  -- the names of classes in the store, and of what the trail tells, are among the names
  pub classes : AreNamed w.names w.store.heap
  pub entries : All (IsEntryHeld w.names w.decl.permissions) w.trail
