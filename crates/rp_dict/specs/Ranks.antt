-- How many pairs stand before a place of a hash table, and what is known of it without a walk from the front.
use Rattle.std.specs.Prelude.{◌≡◌, ℕ, ◌<◌, ◌≤◌, ◌+◌, ◌*◌, List, get_or, length, take}
use Rattle.std.specs.Prelude.{Option}
use Rattle.rp_dict.specs.declared.slot.Slot.{Slot}
use Rattle.rp_dict.specs.Places.{AreKept, dead_count, live}

module _ {K V : Type 0} where
  -- the number of pairs before a place
  abbrev pub rank : List (Slot K × Option V) → ℕ → ℕ
  rank es place = length (live (take place es))

  -- each count is the number of the pairs in a block of 1,024 places; those behind the last block are not counted
  pub record AreBlocks (counts : List ℕ) (es : List (Slot K × Option V)) : Type 0 where
    pub within : length counts * 1024 ≤ length es
    pub counted : (m : ℕ) → m < length counts → rank es (m * 1024) + get_or counts m 0 ≡ rank es (m * 1024 + 1024)

  -- a place that is kept, with the number of the pairs before it
  pub record IsPlace (index place : ℕ) (es : List (Slot K × Option V)) : Type 0 where
    pub within : place ≤ length es
    pub ranked : rank es place ≡ index

  -- what is true of a table
  pub record IsTable (next dead : ℕ) (counts : List ℕ) (index place : ℕ) (es : List (Slot K × Option V)) : Type 0 where
    pub kept : AreKept next es
    pub counted : dead ≡ dead_count es
    pub blocks : AreBlocks counts es
    pub stand : IsPlace index place es
