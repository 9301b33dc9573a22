-- What stands under a number beyond a program's code blocks: no local name, and each name is a global one.
use Rattle.std.proofs.Common.{◌≡◌, ◌≤◌, ◌+◌, ◌==◌, ℕ, zero, suc, Bool, true, false, List, [], length, Option, None, slice_get, if◌then◌else◌, refl, ap}
use Rattle.std.specs.Option.{option_map_or}
use Rattle.std.proofs.lemmas.Option.{slice_get_past}
use Rattle.rp_base.specs.declared.value.Name.{Name}
use Rattle.rp_scope.specs.Scopes.{Scope, around_of, block_at, found, found_from, found_in, locals_of}
use Rattle.rp_scope.specs.declared.place.Place2.TheVariants.{Global}

module _ (table : List Scope) (block : ℕ) (past : length table ≤ block) where
  none_either : (b : Bool) (x : Option Scope) → x ≡ None → (if b then None else x) ≡ None
  none_either true x is = refl
  none_either false x is = is

  no_block : block_at table block ≡ None
  no_block = none_either (block == 0) (slice_get table block) (slice_get_past table block past)

  pub no_locals : locals_of table block ≡ []
  no_locals = ap (λ (x : Option Scope). option_map_or (λ scope. scope.locals) x []) (slice_get_past table block past)

  found_past : (steps : ℕ) (name : Name) → found steps table 0 block name ≡ Global
  found_past zero name = refl
  found_past (suc steps) name = ap (λ (x : Option Scope). found_in x 0 name (found steps table (0 + 1) (around_of x) name)) no_block

  pub no_place : (name : Name) → found_from table block name ≡ Global
  no_place name = found_past (length table) name
