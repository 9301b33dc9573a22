-- When sessions may take turns in a world.
use Rattle.std.specs.Prelude.{◌≡◌, ◌<◌, ◌≤◌, ◌^◌, ℕ, suc, List, [], ◌∷◌, length}
use Rattle.std.specs.List.{All}
use Rattle.rp_base.specs.declared.value.Side.{Side}
use Rattle.rp_interact.specs.Answers.{AnswersAs}
use Rattle.rp_interact.specs.Interacting.{Interacting}
use Rattle.rp_proxy.specs.Faithful.{IsFaithful, MayGrowTo}
use Rattle.rp_proxy.specs.declared.world.World.{World}
use Rattle.rp_store.specs.Kept.{IsScopeOf}
use Rattle.rp_engine.specs.Codes.{IsIndexed}
use Rattle.rp_engine.specs.Moment.{program_at}
use Rattle.rp_engine.specs.declared.units.Program.{Program}
use Rattle.rp_engine.specs.declared.units.Units.{Units}
use Rattle.rp_session.specs.declared.session.Session.{Session}
use Rattle.rp_session.specs.declared.sessions.Sessions.{Sessions}

-- the interaction answers as the declarations say, whatever names come later
abbrev pub AnswersIn : World → Interacting → Type 0
AnswersIn w i = (later : List (List ℕ)) → MayGrowTo w.names later → AnswersAs later w.decl i

-- its global scope is one of its side, its principals are granted and denied what the declarations say, and no more
-- steps are left to it than it was given
pub record IsAtHome (w : World) (k : Session) : Type 0 where
  pub scope : IsScopeOf w.store.heap (record { 0 = k.running.session }) k.globals
  pub grants : AnswersIn w k.running.interaction
  pub steps : k.running.meter.left ≤ k.given

-- numbered one after another from there on
abbrev pub AreNumberedFrom : ℕ → List Session → Type 0
AreNumberedFrom n [] = Unit {0}
AreNumberedFrom n (k ∷ ks) = (k.running.session ≡ n) × AreNumberedFrom (suc n) ks

pub record AreReady (x : Sessions) : Type 0 where
  pub faithful : IsFaithful x.world
  pub numbered : AreNumberedFrom 1 x.list.items
  pub home : All (IsAtHome x.world) x.list.items
  -- their numbers fit the code's
  pub few : length x.list.items < 2 ^ 32

-- it has the layout of its own block, and the table of its functions
pub record IsLaidOut (p : Program) : Type 0 where
  pub block : 0 < length p.layouts
  pub indexed : IsIndexed p

abbrev pub AreLaidOut : Units → Type 0
AreLaidOut units = (side : Side) → IsLaidOut (program_at units side)
