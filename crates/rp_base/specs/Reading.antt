-- What a read of n bytes gives.
use Rattle.std.specs.Prelude.{◌≡◌, ℕ, ◌≤◌, List, [], length, take, drop, Option, Some}

-- the first n bytes of what was left are the front of the buffer, the others are left,
-- and there are none of either only at the end
pub record ReadsFront (n : ℕ) (left buffer : List ℕ) (after : Option (List ℕ)) : Type 0 where
  pub within : n ≤ length left
  pub front : take n buffer ≡ take n left
  pub rest : after ≡ Some (drop n left)
  pub ended : n ≡ 0 → left ≡ []
