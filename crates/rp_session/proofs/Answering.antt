-- The interactions of a run answer in its world.
use Rattle.std.proofs.Common.{◌≡◌, ℕ, List, get_or, sym, subst}
use Rattle.std.specs.List.{All}
use Rattle.rp_decl.specs.InOrder.{AreInOrder}
use Rattle.rp_decl.specs.Places.{IsHeldBy}
use Rattle.rp_decl.specs.View.{Placed, declarations_view}
use Rattle.rp_interact.specs.Answers.{AnswersAs}
use Rattle.rp_interact.specs.Interacting.{Interacting}
use Rattle.rp_proxy.specs.Faithful.{MayGrowTo}
use Rattle.rp_proxy.specs.declared.world.World.{World}
use Rattle.rp_session.specs.Ready.{AnswersIn}
use Rattle.rp_proxy.proofs.LaterRecords.{declarations-later}

-- it answers as the declarations, by whatever names
abbrev Answers : Placed → Interacting → Type 0
Answers d who = (all : List (List ℕ)) → AreInOrder (declarations_view all d) → AnswersAs all d who

answers-in : (names : List (List ℕ)) (d : Placed) (w : World) (who : Interacting) → w.names ≡ names → w.decl ≡ d → IsHeldBy names d → AreInOrder (declarations_view names d) → Answers d who → AnswersIn w who
answers-in names d w who same-names same-decl held ordered answers later grows =
    let grown : MayGrowTo names later = subst (λ ns. MayGrowTo ns later) same-names grows in
    let there : AreInOrder (declarations_view later d) = subst AreInOrder (sym (declarations-later names later grown.grown d held)) ordered in
    subst (λ (d : Placed). AnswersAs later d who) (sym same-decl) (answers later there)

pub all-answer : (names : List (List ℕ)) (d : Placed) (w : World) (whos : List Interacting) → w.names ≡ names → w.decl ≡ d → IsHeldBy names d → AreInOrder (declarations_view names d)
    → All (λ who. (all : List (List ℕ)) → AreInOrder (declarations_view all d) → AnswersAs all d who) whos → All (AnswersIn w) whos
all-answer names d w whos same-names same-decl held ordered answer i who inside =
    answers-in names d w (get_or whos i who) same-names same-decl held ordered (answer i who inside)

-- and in every world with the same names and declarations
pub still-answer : (w v : World) (whos : List Interacting) → v.names ≡ w.names → v.decl ≡ w.decl → All (AnswersIn w) whos → All (AnswersIn v) whos
still-answer w v whos same-names same-decl answer i who inside later grows =
    subst (λ (d : Placed). AnswersAs later d (get_or whos i who)) (sym same-decl) (answer i who inside later (subst (λ ns. MayGrowTo ns later) same-names grows))
