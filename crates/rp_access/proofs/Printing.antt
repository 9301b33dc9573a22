-- A world in which more was printed.
use Rattle.std.proofs.Common.{ℕ, List}
use Rattle.rp_proxy.specs.Faithful.{IsFaithful}
use Rattle.rp_proxy.specs.declared.world.World.{World}

abbrev pub with_printed : World → List ℕ → World
with_printed w text = record w { running = record w.running { printed = text } }

pub IsFaithful-printed : (w : World) (text : List ℕ) → IsFaithful w → IsFaithful (with_printed w text)
IsFaithful-printed w text h = record {
  read = h.read;
  ordered = h.ordered;
  rows = h.rows;
  rows_within = h.rows_within;
  grants = h.grants;
  classes = h.classes;
  entries = h.entries;
}

pub ruleset printed_faithful = (IsFaithful-printed)
