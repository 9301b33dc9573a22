use Rattle.std.proofs.Common.{◌≡◌, ◌∙◌, ◌<◌, ◌==◌, ◌&&◌, ◌∷◌, [], ℕ, Bool, List, length, get_or, ap, sym, arith}
use Rattle.std.proofs.lemmas.List.{nil_from_length}
use Rattle.rp_token.specs.declared.token.Token.{Token}
use Rattle.rp_token.specs.View.{form_view}
use Rattle.rp_more.specs.Forms.{is_literal}
use Rattle.rp_more.specs.Literals.{has_text_at}
use Rattle.rp_more.specs.LiteralSteps.{items_of}
use Rattle.rp_more.proofs.literals.has_text_at.Goals as goal

abbrev is_text_there : ℕ → List (List ℕ) → Token → Bool
is_text_there place names t = is_literal (form_view names t.kind) && (t.from == place)

first-text : (place : ℕ) (names : List (List ℕ)) (ts : List Token) (t : Token) → 0 < length ts → t ≡ get_or ts 0 t → is_text_there place names t ≡ has_text_at place (items_of names ts)
first-text place names [] t some is = absurd (omega arith)
first-text place names (u ∷ us) t some is = ap (is_text_there place names) is

pub returns-in-None : goal.returns-in-None
returns-in-None c =
    let ts = c.args.tokens.now.items in
    let none : ts ≡ [] = nil_from_length ts (omega (arith, c.in-None.ensures.item.3)) in
    λ names. ap (λ (us : List Token). has_text_at c.args.place (items_of names us)) (sym none)

pub returns-in-Some : goal.returns-in-Some
returns-in-Some c = λ names.
    c.is_text_at.ensures names ∙ first-text c.args.place names c.args.tokens.now.items c.in-Some.token.now c.in-Some.ensures.item.3.0 c.in-Some.ensures.lookup
