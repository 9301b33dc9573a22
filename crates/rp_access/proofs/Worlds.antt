-- What stays where a world goes on.
use Rattle.std.proofs.Common.{◌≡◌, suc, Result, Ok, Err, refl, sym, subst}
use Rattle.std.specs.Prelude.{OnOk, OnErr, IfErr}
use Rattle.rp_base.specs.declared.meter.Meter.{Meter}
use Rattle.rp_base.specs.declared.value.OpEnd.{OpEnd}
use Rattle.rp_base.specs.declared.value.OpEnd.TheVariants as end
use Rattle.rp_meaning.specs.State.{State}
use Rattle.rp_ops.specs.Outcome.{gives, ends, no_step}
use Rattle.rp_proxy.specs.Faithful.{IsFaithful}
use Rattle.rp_proxy.specs.declared.world.World.{World}
use Rattle.rp_access.specs.Comes.{Comes}
use Rattle.rp_access.specs.Moment.{state_of}
use Rattle.rp_access.specs.Parts.{step_end}

-- the world with another meter
abbrev pub metered : World → Meter → World
metered w m = record w { running = record w.running { meter = m } }

pub IsFaithful-metered : (w : World) (m : Meter) → IsFaithful w → IsFaithful (metered w m)
IsFaithful-metered w m h = record {
  read = h.read;
  ordered = h.ordered;
  rows = h.rows;
  rows_within = h.rows_within;
  grants = h.grants;
  classes = h.classes;
  entries = h.entries;
}

pub taken_step : (w : World) (m : Meter) → w.running.meter.left ≡ suc m.left → step_end (state_of w) ≡ gives (tt {0}) (state_of (metered w m))
taken_step w m e = rw e refl

none_left : (s : State) → s.plain.steps ≡ 0 → step_end s ≡ ends no_step s
none_left s e = rw e refl

pub no_step_left : (w : World) → w.running.meter.left ≡ 0 → step_end (state_of w) ≡ ends no_step (state_of w)
no_step_left w e = none_left (state_of w) e

pub step_comes : (w : World) (m : Meter) (r : Result (Unit {0}) OpEnd) → OnOk r (w.running.meter.left ≡ suc m.left) → OnErr r (w.running.meter.left ≡ 0)
    → IfErr r (λ e. e ≡ end.StopSteps) → OnErr r (m ≡ w.running.meter) → Comes r (state_of (metered w m)) (step_end (state_of w))
step_comes w m (Ok x) taken none is same = taken_step w m taken
step_comes w m (Err e) taken none is same =
    subst (λ (e : OpEnd). Comes (Err e) (state_of (metered w m)) (step_end (state_of w))) (sym is)
    (subst (λ (m : Meter). step_end (state_of w) ≡ ends no_step (state_of (metered w m))) (sym same) (no_step_left w none))

pub ruleset metered_faithful = (IsFaithful-metered)
