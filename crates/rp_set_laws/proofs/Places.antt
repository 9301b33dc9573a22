-- Tokens that are written out, from a place on.
use Rattle.std.proofs.Common.{◌≡◌, refl, ap, ◌∙◌, ℕ, List, [], ◌∷◌, ◌++◌, map, drop}
use Rattle.rp_grammar.specs.Kinds.{Tokens, first, skip}
use Rattle.rp_more.specs.Sets.{first_form}
use Rattle.rp_token.specs.Form.{Item}
use Rattle.rp_token.specs.View.{form_view, item_view}
use Rattle.rp_set_laws.specs.Spelled.{Are}

-- the first, or another where there is none
abbrev front : Item → List Item → Item
front i [] = i
front i (j ∷ js) = j

module _ (words : List (List ℕ)) where
  -- the first token, and those behind it
  pub form_at : (i : Item) (is : List Item) (ts : Tokens) → Are words (i ∷ is) ts → form_view words (first ts) ≡ i.form
  form_at i is [] h = absurd (cc)
  form_at i is (t ∷ ts) h = ap first_form h

  pub behind : (i : Item) (is : List Item) (ts : Tokens) → Are words (i ∷ is) ts → Are words is (skip ts)
  behind i is [] h = absurd (cc)
  behind i is (t ∷ ts) h = ap (drop 1) h

  abbrev pub Parts : List Item → List Item → Tokens → Type 0
  Parts is js ts = (us : Tokens) × (vs : Tokens) × (us ++ vs ≡ ts) × Are words is us × Are words js vs

  pub parts : (is js : List Item) (ts : Tokens) → Are words (is ++ js) ts → Parts is js ts
  parts [] js ts h = ([], ts, refl, refl, h)
  parts (i ∷ is) js [] h = absurd (cc)
  parts (i ∷ is) js (t ∷ ts) h =
      let rest = parts is js ts (ap (drop 1) h) in (
        t ∷ rest.0,
        rest.1,
        ap (λ ts. t ∷ ts) rest.2,
        ap (λ j. j ∷ map (item_view words) rest.0) (ap (front i) h) ∙ ap (λ js. i ∷ js) rest.3,
        rest.4,
      )
