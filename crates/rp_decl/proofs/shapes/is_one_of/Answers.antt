use Rattle.std.proofs.Common.{◌≡◌, Bool, ◌||◌, List, [], ◌∷◌, map, refl, ap, rules, tests, ◌∙◌, sym}
use Rattle.std.specs.List.{list_any}
use Rattle.std.proofs.lemmas.Iterator.{YieldsList-from_slice}
use Rattle.std.proofs.lemmas.Iterator.Search.{any_from_yields_List}
use Rattle.toml.specs.Data.{same_key}
use Rattle.rp_decl.proofs.shapes.is_one_of.Goals as goal

list_any-map : {X Y : Type 0} (p : X → Bool) (h : Y → X) (ys : List Y) → list_any p (map h ys) ≡ list_any (λ y. p (h y)) ys
list_any-map p h [] = refl
list_any-map p h (y ∷ ys) = ap (λ rest. p (h y) || rest) (list_any-map p h ys)

pub returns : goal.returns
returns c =
    let key = c.args.key.now in
    let keys = c.args.keys.now in
    any_from_yields_List (λ k. same_key key k.now) _ _ _ c.any.ensures.ran (YieldsList-from_slice keys cc) (λ x b q k. search (rules, tests))
    ∙ sym (list_any-map (same_key key) (λ k. k.now) keys)
