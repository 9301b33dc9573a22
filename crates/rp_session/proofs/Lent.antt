-- A session ran statements in the world, to which it had lent what it runs with.
use Rattle.std.proofs.Common.{◌≡◌, refl, sym, ap, subst, ◌∙◌, ◌+◌, ◌≤◌, Bool, List, Option, Result}
use Rattle.std.proofs.Math.Nat.{le_trans}
use Rattle.rp_access.specs.Comes.{Comes}
use Rattle.rp_access.specs.Moment.{state_of}
use Rattle.rp_base.specs.declared.value.OpEnd.{OpEnd}
use Rattle.rp_meaning.specs.Frame.{Run}
use Rattle.rp_meaning.specs.Running.{program_frame}
use Rattle.rp_meaning.specs.State.{State, Outcome, Flow}
use Rattle.rp_proxy.specs.Faithful.{IsFaithful}
use Rattle.rp_proxy.specs.declared.world.Running.{Running}
use Rattle.rp_proxy.specs.declared.world.World.{World}
use Rattle.rp_engine.specs.Does as does
use Rattle.rp_step.specs.Left.{flows}
use Rattle.rp_engine.specs.Moment.{run_of}
use Rattle.rp_engine.specs.declared.units.Units.{Units}
use Rattle.rp_step.specs.declared.unwinding.Left.{Left}
use Rattle.rp_store.specs.Kept.{IsScopeOf}
use Rattle.rp_store.specs.Shape.{KeepsShape}
use Rattle.rp_tree.specs.declared.stmt.Stmt.{Stmt}
use Rattle.rp_session_laws.specs.Setting.{Stays, setting_of}
use Rattle.rp_session.specs.Ready.{IsAtHome}
use Rattle.rp_session.specs.Turns.{Runs, comes_of, moment}
use Rattle.rp_session.specs.View.{EndsSo, session_view}
use Rattle.rp_session.specs.declared.session.Session.{Session}
use Rattle.rp_session.specs.declared.session_end.SessionEnd.{SessionEnd}
use Rattle.rp_session.proofs.Lasting.{GoesOn, answers-last, faithful-with, home-last}
use Rattle.rp_session.proofs.Settled.{settled, some_run}
use Rattle.rp_session.proofs.Spent.{spent}

-- what has come of it
pub record Ran (units : Units) (xs : List Stmt) (is_last : Bool) (w : World) (k : Session) (v : World) (j : Session) : Type 0 where
  pub runs : (base : Run) → Runs (run_of base units) xs is_last w k v j
  pub faithful : IsFaithful v
  pub home : IsAtHome v j
  pub others : (o : Session) → IsAtHome w o → IsAtHome v o

-- the session behind it
abbrev pub behind : Session → Running → Option SessionEnd → Session
behind k running end = record { running = running; globals = k.globals; next = k.next + 1; end = end; given = k.given }

ran-so : (units : Units) (w : World) (k : Session) (xs : List Stmt) (is_last : Bool) (u : World) (end : Option SessionEnd)
    → ((base : Run) → EndsSo end is_last (state_of u) (comes_of (run_of base units) xs w k))
    → IsFaithful w → IsAtHome w k → IsFaithful u → KeepsShape w.store.heap u.store.heap
    → Ran units xs is_last w k (record u { running = w.running }) (behind k u.running end)
ran-so units w k xs is_last u end ends before home after shape =
    let stays : Stays (setting_of (moment w k)) (setting_of (state_of u)) =
    settled (run_of some_run units) xs is_last end w k (state_of u) (ends some_run) in
    let on : GoesOn w u = record { declarations = stays.declarations; names = stays.names } in
    let left : u.running.meter.left ≤ k.given =
    le_trans (spent some_run units xs (session_view k).side k.globals (moment w k) (state_of u) (ends some_run).0)
    home.steps in
    record {
      runs = λ base. record {
        ends = ends base;
        side = ap (λ n. record { 0 = n }) stays.session;
        who = stays.who;
        globals = refl;
        next = refl;
        declarations = stays.declarations;
      };
      faithful = faithful-with u w.running after (answers-last w u w.running.interaction before after on before.grants);
      home = record {
        scope = subst (λ n. IsScopeOf u.store.heap (record { 0 = n }) k.globals) (sym stays.session)
            (shape.scope (record { 0 = k.running.session }) k.globals home.scope);
        grants = after.grants;
        steps = left;
      };
      others = λ o there. let h = home-last w u o before after on shape there in record { scope = h.scope; grants = h.grants; steps = h.steps };
    }

-- What the session runs with was exchanged for what the world held, and back.
pub ran : (units : Units) (w : World) (k : Session) (xs : List Stmt) (is_last : Bool) (lent held : Running) (u : World) (back kept : Running)
    (came : Result Left OpEnd) (end : Option SessionEnd)
    → lent ≡ k.running → held ≡ w.running → back ≡ held → kept ≡ u.running
    → ((base : Run) → Comes (flows came) (state_of u)
    (does.block xs (program_frame (run_of base units) (record { 0 = lent.session }) k.globals) (state_of (record w { running = lent }))))
    → ((s : State) (o : Outcome Flow) → Comes (flows came) s o → EndsSo end is_last s o)
    → IsFaithful w → IsAtHome w k → IsFaithful u → KeepsShape w.store.heap u.store.heap
    → Ran units xs is_last w k (record u { running = back }) (behind k kept end)
ran units w k xs is_last lent held u back kept came end p q r t law ended before home after shape =
    let comes : (base : Run) → Comes (flows came) (state_of u) (comes_of (run_of base units) xs w k) = λ base.
    subst (λ (lent : Running). Comes (flows came) (state_of u)
    (does.block xs (program_frame (run_of base units) (record { 0 = lent.session }) k.globals) (state_of (record w { running = lent })))) p (law base) in
    let so = ran-so units w k xs is_last u end (λ base. ended (state_of u) (comes_of (run_of base units) xs w k) (comes base)) before home after shape in
    let there = subst (λ (back : Running). Ran units xs is_last w k (record u { running = back }) (behind k u.running end)) (sym (r ∙ q)) so in
    subst (λ (kept : Running). Ran units xs is_last w k (record u { running = back }) (behind k kept end)) (sym t) there

-- what the world needs to run it
pub lent-faithful : (w : World) (k : Session) (lent : Running) → lent ≡ k.running → IsFaithful w → IsAtHome w k → IsFaithful (record w { running = lent })
lent-faithful w k lent p faithful home =
    subst (λ (lent : Running). IsFaithful (record w { running = lent })) (sym p) (faithful-with w k.running faithful home.grants)
