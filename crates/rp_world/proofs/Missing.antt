-- The least exposed name that has no value, found by one name after another.
use Rattle.std.proofs.Common.{◌≡◌, ℕ, ◌+◌, ◌<◌, true, false, List, ◌∷◌, [], length, map, drop, get_or, Option, Some, None, option_map, refl, sym, ap, ◌∙◌}
use Rattle.std.specs.Option.{is_some}
use Rattle.std.proofs.lemmas.List.{drop_more}
use Rattle.rp_base.specs.declared.value.Name.{Name}
use Rattle.rp_base.specs.declared.value.Value.{Value}
use Rattle.rp_decl.specs.Order.{least, lesser_of}
use Rattle.rp_decl.specs.View.{name_text}
use Rattle.rp_decl.proofs.Orders.{least-step}
use Rattle.rp_meaning.specs.Load.{unbound}

has-one : (word : List ℕ) (v : Option Value) (words : List (List ℕ)) (vs : List (Option Value)) → is_some v ≡ true → unbound (word ∷ words) (v ∷ vs) ≡ unbound words vs
has-one word (Some v) words vs e = refl
has-one word None words vs e = absurd (cc)

has-none : (word : List ℕ) (v : Option Value) (words : List (List ℕ)) (vs : List (Option Value)) → is_some v ≡ false → unbound (word ∷ words) (v ∷ vs) ≡ word ∷ unbound words vs
has-none word None words vs e = refl
has-none word (Some v) words vs e = absurd (cc)

module _ (names : List (List ℕ)) (value : Name → Option Value) where
  -- those of some names
  abbrev pub missing : List Name → List (List ℕ)
  missing xs = unbound (map (name_text names) xs) (map value xs)

  -- one name more, which has a value
  pub bound-step : (found : Option Name) (xs : List Name) (i : ℕ) (d : Name) → i < length xs → is_some (value (get_or xs i d)) ≡ true
      → lesser_of (option_map (name_text names) found) (least (missing (drop (i + 1) xs))) ≡ lesser_of (option_map (name_text names) found) (least (missing (drop i xs)))
  bound-step found xs i d within bound =
      let x = get_or xs i d in
      let rest = drop (i + 1) xs in
      let front : missing (drop i xs) ≡ missing rest =
      ap missing (drop_more xs i d within) ∙ has-one (name_text names x) (value x) (map (name_text names) rest) (map value rest) bound in
      ap (λ l. lesser_of (option_map (name_text names) found) (least l)) (sym front)

  -- one more, which has none
  pub unbound-step : (found : Option Name) (next : Name) (xs : List Name) (i : ℕ) (d : Name) → i < length xs → is_some (value (get_or xs i d)) ≡ false
      → Some (name_text names next) ≡ lesser_of (option_map (name_text names) found) (Some (name_text names (get_or xs i d)))
      → lesser_of (Some (name_text names next)) (least (missing (drop (i + 1) xs))) ≡ lesser_of (option_map (name_text names) found) (least (missing (drop i xs)))
  unbound-step found next xs i d within none lesser =
      let x = get_or xs i d in
      let word = name_text names x in
      let rest = drop (i + 1) xs in
      let tail = missing rest in
      let front : missing (drop i xs) ≡ word ∷ tail =
      ap missing (drop_more xs i d within) ∙ has-none word (value x) (map (name_text names) rest) (map value rest) none in
      ap (λ o. lesser_of o (least tail)) lesser
      ∙ sym (ap (λ l. lesser_of (option_map (name_text names) found) (least l)) front ∙ least-step (option_map (name_text names) found) (word ∷ []) tail)
