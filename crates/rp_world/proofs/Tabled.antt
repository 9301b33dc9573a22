-- A table of names with their places, to which a place is added.
use Rattle.std.proofs.Common.{◌≡◌, ◌∙◌, ℕ, Bool, true, false, cond, List, [], ◌∷◌, Some, None, refl, sym, ap, arith}
use Rattle.std.proofs.lemmas.Bool.Decides.{nat_tests}
use Rattle.std.proofs.lemmas.Option.{none-some}
use Rattle.std.specs.Map.{lookup}
use Rattle.std.specs.Option.{option_or}
use Rattle.rp_base.specs.declared.value.Name.{Name}
use Rattle.rp_dict.specs.Dict.{insert_entry}
use Rattle.rp_store.specs.Key.{same_name}
use Rattle.rp_world.proofs.Places.{option_or-None}

one_name : (a b : Name) → same_name a b ≡ true → a ≡ b
one_name a b h = let one : a.0 ≡ b.0 = grind (arith, nat_tests) in λ k. record { 0 = one k }

-- a name that has a place keeps it
pub place-kept : (name : Name) (place held : ℕ) (table : List (Name × ℕ)) → lookup (same_name name) table ≡ Some held
    → (other : Name) → lookup (same_name other) table ≡ option_or (lookup (same_name other) table) (cond (same_name other name) (Some place) None)
place-kept name place held table here other = by (same_name other name) refl
  where
    by : (b : Bool) → same_name other name ≡ b → lookup (same_name other) table ≡ option_or (lookup (same_name other) table) (cond b (Some place) None)
    by false e = option_or-None (lookup (same_name other) table)
    by true e =
        let there : lookup (same_name other) table ≡ Some held = ap (λ (n : Name). lookup (same_name n) table) (one_name other name e) ∙ here in
        there ∙ ap (λ o. option_or o (Some place)) (sym there)

-- a name that has none gets this one
pub place-added : (name : Name) (place : ℕ) (table : List (Name × ℕ)) → lookup (same_name name) table ≡ None
    → (other : Name) → lookup (same_name other) (insert_entry same_name table name place) ≡ option_or (lookup (same_name other) table) (cond (same_name other name) (Some place) None)
place-added name place [] none other = refl
place-added name place (e ∷ es) none other = first (same_name name e.0) none (λ missing. place-added name place es missing other)
  where
    last : (b : Bool) → lookup (same_name other) (insert_entry same_name es name place) ≡ option_or (lookup (same_name other) es) (cond (same_name other name) (Some place) None)
        → cond b (Some e.1) (lookup (same_name other) (insert_entry same_name es name place)) ≡ option_or (cond b (Some e.1) (lookup (same_name other) es)) (cond (same_name other name) (Some place) None)
    last true rest = refl
    last false rest = rest

    first : (b : Bool) → cond b (Some e.1) (lookup (same_name name) es) ≡ None
        → (lookup (same_name name) es ≡ None → lookup (same_name other) (insert_entry same_name es name place) ≡ option_or (lookup (same_name other) es) (cond (same_name other name) (Some place) None))
        → lookup (same_name other) (cond b ((e.0, place) ∷ es) (e ∷ insert_entry same_name es name place)) ≡ option_or (cond (same_name other e.0) (Some e.1) (lookup (same_name other) es)) (cond (same_name other name) (Some place) None)
    first true none rest = absurd (none-some e.1 (sym none))
    first false none rest = last (same_name other e.0) (rest none)
