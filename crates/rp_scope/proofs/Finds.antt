-- One step outwards in a table of scopes.
use Rattle.std.proofs.Common.{◌≡◌, ℕ, zero, suc, ◌+◌, ◌-◌, ◌<◌, List, Option, Some, None, unwrap_or, ap, ◌∙◌, refl, arith}
use Rattle.rp_base.specs.declared.value.Name.{Name}
use Rattle.rp_scope.specs.declared.place.Place2.{Place2}
use Rattle.rp_scope.specs.declared.place.Place2.TheVariants.{Global}
use Rattle.rp_scope.specs.Scopes.{Scope, block_at, scope_place, found_in, around_of, found}

abbrev inwards : ℕ → List Scope → ℕ → Name → Option Scope → Place2
inwards steps table n name scope = found_in scope n name (found steps table (n + 1) (around_of scope) name)

pub found_none : (steps : ℕ) (table : List Scope) (n block : ℕ) (name : Name) → block_at table block ≡ None → found steps table n block name ≡ Global
found_none zero table n block name e = refl
found_none (suc steps) table n block name e = ap (inwards steps table n name) e

pub found_some : (steps : ℕ) (table : List Scope) (n block : ℕ) (name : Name) (scope : Scope) (place : Place2) → 0 < steps → block_at table block ≡ Some scope → scope_place scope n name ≡ Some place → found steps table n block name ≡ place
found_some zero table n block name scope place more e f = absurd (omega arith)
found_some (suc steps) table n block name scope place more e f =
    ap (inwards steps table n name) e ∙ ap (λ o. unwrap_or o (found steps table (n + 1) scope.around name)) f

pub found_next : (steps : ℕ) (table : List Scope) (n block : ℕ) (name : Name) (scope : Scope) → 0 < steps → block_at table block ≡ Some scope → scope_place scope n name ≡ None → found steps table n block name ≡ found (steps - 1) table (n + 1) scope.around name
found_next zero table n block name scope more e f = absurd (omega arith)
found_next (suc steps) table n block name scope more e f =
    ap (inwards steps table n name) e ∙ (ap (λ o. unwrap_or o (found steps table (n + 1) scope.around name)) f ∙ ap (λ m. found m table (n + 1) scope.around name) (one_less steps))
  where
    one_less : (m : ℕ) → m ≡ suc m - 1
    one_less m = omega arith
