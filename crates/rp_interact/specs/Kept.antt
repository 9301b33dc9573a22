-- The answers that an interaction keeps, the latest used first.
use Rattle.std.specs.Prelude.{◌≡◌, ℕ, ◌≤◌, ◌⊎◌, Bool, nat_eq, if◌then◌else◌, List, [], ◌∷◌, length, take, Option, Some, None}
use Rattle.std.specs.List.{All}
use Rattle.rp_decl.specs.declared.records.Perm.{Perm}
use Rattle.lru.specs.LruCache.{promoted}
use Rattle.rp_interact.specs.Interacting.{Interacting, has_in}

abbrev pub is_perm : Perm → Perm → Bool
is_perm a b = nat_eq a.0 b.0

-- the answer in front, where it is the permission's
abbrev pub latest : List (Perm × Bool) → Perm → Option Bool
latest [] permission = None
latest (e ∷ es) permission = if is_perm permission e.0 then Some e.1 else None

-- with the answer for the permission in front
abbrev pub used : Interacting → Perm → Interacting
used i permission = record i { kept = promoted (is_perm permission) i.kept }

-- with the new answer in front, and no more than the most that are kept
abbrev pub keeping : ℕ → Interacting → Perm → Interacting
keeping most i permission = record i { kept = take most ((permission, has_in i permission) ∷ i.kept) }

-- the most answers that are kept
abbrev pub most_kept : ℕ
most_kept = 64

-- the new answer is kept, or there was no memory for it
abbrev pub IsKeptOrNot : Interacting → Perm → Interacting → Type 0
IsKeptOrNot i permission new = (new ≡ keeping most_kept i permission) ⊎ (new ≡ i)

-- each principal has its reasons, and each kept answer is what `has` answers
pub record IsSound (i : Interacting) (room : ℕ) : Type 0 where
  pub as_many : length i.ids ≡ length i.reasons
  pub right : All (λ e. e.1 ≡ has_in i e.0) i.kept
  pub few : length i.kept ≤ most_kept
  pub room_is : room ≡ most_kept
