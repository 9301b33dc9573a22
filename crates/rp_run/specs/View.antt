-- Trees, names and principals as the program has them.
use Rattle.std.specs.Prelude.{ℕ, List}
use Rattle.rp_base.specs.Names.{first_words}
use Rattle.rp_decl.specs.Consistency.{IsConsistent}
use Rattle.rp_decl.specs.InOrder.{AreInOrder}
use Rattle.rp_decl.specs.Places.{GrowsTo, IsHeldBy}
use Rattle.rp_decl.specs.View.{Placed, declarations_view}
use Rattle.rp_interact.specs.Answers.{AnswersAs}
use Rattle.rp_interact.specs.Interacting.{Interacting}

-- the names are those that the declarations were read into
pub record IsReadInto (names : List (List ℕ)) (d : Placed) : Type 0 where
  pub first : GrowsTo first_words names
  pub held : IsHeldBy names d
  pub consistent : IsConsistent (declarations_view names d)
  pub ordered : AreInOrder (declarations_view names d)

-- the interaction answers as the declarations say, whatever the names
abbrev pub AnswersInAll : Placed → Interacting → Type 0
AnswersInAll d i = (names : List (List ℕ)) → AreInOrder (declarations_view names d) → AnswersAs names d i
