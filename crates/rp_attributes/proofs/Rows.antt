-- Rows of a table: what stands in the first row that passes.
use Rattle.std.proofs.Common.{◌≡◌, Bool, true, false, cond, List, [], ◌∷◌, Some, refl}
use Rattle.std.specs.Prelude.{find}
use Rattle.std.specs.Map.{lookup}
use Rattle.std.specs.Option.{option_map}

found : {K X : Type 0} (test : K → Bool) (e : K × X) (es : List (K × X)) (b : Bool)
    → option_map (λ e. e.1) (find (λ e. test e.0) es) ≡ lookup test es
    → option_map (λ e. e.1) (cond b (Some e) (find (λ e. test e.0) es)) ≡ cond b (Some e.1) (lookup test es)
found test e es true rest = refl
found test e es false rest = rest

-- to look up a key is to take the value of the first row whose key passes
pub lookup-find : {K X : Type 0} (test : K → Bool) (es : List (K × X))
    → option_map (λ e. e.1) (find (λ e. test e.0) es) ≡ lookup test es
lookup-find test [] = refl
lookup-find test (e ∷ es) = found test e es (test e.0) (lookup-find test es)
