-- Tokens in which no f-literal and no set begins are what they become.
use Rattle.std.proofs.Common.{◌≡◌, ◌∙◌, refl, sym, ap, ℕ, Bool, true, false, not, ◌&&◌, ◌||◌, if◌then◌else◌, List, [], ◌∷◌, ◌++◌, drop, codes, Ok}
use Rattle.std.specs.List.{list_any}
use Rattle.rp_token.specs.Form.{Form, Item}
use Rattle.rp_token.specs.declared.token.Token.{Token}
use Rattle.rp_more.specs.Forms.{ends_operand, is_mark, is_keyword, opens, closes}
use Rattle.rp_more.specs.KindSteps.{is_left_brace}
use Rattle.rp_more.specs.LiteralSteps.{items_of}
use Rattle.rp_more.specs.Literals.{begins, has_text_at, is_prefix, literals, with_front}
use Rattle.rp_more.specs.Sets.{Group, group_of, innermost, is_asked, is_set, none_at, opened_behind, other, own, past, sets}
use Rattle.rp_more.proofs.KindForms.{form-left_brace}

first_false : (b c : Bool) → b || c ≡ false → b ≡ false
first_false false c e = refl
first_false true c e = e

rest_false : (b c : Bool) → b || c ≡ false → c ≡ false
rest_false false c e = e
rest_false true c e = cc

not_both : (operand there : Bool) → (not operand && (false && there)) ≡ false
not_both true there = refl
not_both false there = refl

-- no f-literal begins at a token that is not its name
no_begin : (operand : Bool) (t : Item) (ts : List Item) → is_prefix t ≡ false → begins operand t ts ≡ false
no_begin operand t ts e = (λ k. not operand && (e k && has_text_at t.to ts)) ∙ not_both operand (has_text_at t.to ts)

-- tokens none of which is the name of an f-literal
pub no_literals : (operand : Bool) (ts : List Item) → list_any is_prefix ts ≡ false → literals operand false ts ≡ Ok ts
no_literals operand [] e = refl
no_literals operand (t ∷ ts) e =
    (λ k. if no_begin operand t ts (first_false (is_prefix t) (list_any is_prefix ts) e) k then literals true true ts else with_front (t ∷ []) (literals (ends_operand t.form) false ts))
    ∙ ap (with_front (t ∷ [])) (no_literals (ends_operand t.form) ts (rest_false (is_prefix t) (list_any is_prefix ts) e))

abbrev pub is_brace : Item → Bool
is_brace t = is_mark (codes "{") t.form

-- brackets of which none is a set
abbrev pub AreOther : List Group → Type 0
AreOther [] = Unit
AreOther (g ∷ gs) = (g ≡ other) × AreOther gs

innermost-other : (opened : List Group) → AreOther opened → innermost opened ≡ other
innermost-other [] all = refl
innermost-other (g ∷ gs) all = all.0

drop-other : (opened : List Group) → AreOther opened → AreOther (drop 1 opened)
drop-other [] all = all
drop-other (g ∷ gs) all = all.1

no_group : (is_in brace set has_for : Bool) → brace ≡ false → (if is_in && (brace && set) then (if has_for then Group.comprehension else Group.display) else other) ≡ other
no_group true false set has_for e = refl
no_group false false set has_for e = refl
no_group is_in true set has_for e = cc

opened-other : (opened : List Group) (before : Form) (t : Item) (ts : List Item) → AreOther opened → is_brace t ≡ false → AreOther (opened_behind opened before t.form ts)
opened-other opened before t ts all e = by (opens t.form) (closes t.form) where
  group : group_of before t.form ts ≡ other
  group = no_group (is_keyword (codes "in") before) (is_mark (codes "{") t.form) (is_set ts) (list_any (is_keyword (codes "for")) (own 0 ts)) e

  asked : is_asked (innermost opened) before t.form ≡ false
  asked = ap (λ g. is_asked g before t.form) (innermost-other opened all)

  by : (opening closing : Bool) → AreOther (if opening then group_of before t.form ts ∷ opened else if closing then drop 1 opened
      else if is_asked (innermost opened) before t.form then past (innermost opened) opened else opened)
  by true closing = (group, all)
  by false true = drop-other opened all
  by false false = rw asked all

-- tokens without a brace
pub no_sets : (opened : List Group) (before : Form) (ts : List Item) → AreOther opened → list_any is_brace ts ≡ false → sets opened before ts ≡ ts
no_sets opened before [] all e = refl
no_sets opened before (t ∷ ts) all e =
    (λ k. (if is_asked (innermost-other opened all k) before t.form then none_at t else []) ++ t ∷ sets (opened_behind opened before t.form ts) t.form ts)
    ∙ ap (λ more. t ∷ more) (no_sets (opened_behind opened before t.form ts) t.form ts
    (opened-other opened before t ts all (first_false (is_brace t) (list_any is_brace ts) e)) (rest_false (is_brace t) (list_any is_brace ts) e))

-- the braces are those of the code's tokens
pub braces-same : (names : List (List ℕ)) (ts : List Token) → list_any (λ t. is_left_brace t.kind) ts ≡ list_any is_brace (items_of names ts)
braces-same names [] = refl
braces-same names (t ∷ ts) = (λ k. sym (form-left_brace names t.kind) k || braces-same names ts k)

pub no_sets-tokens : (names : List (List ℕ)) (ts : List Token) → list_any (λ t. is_left_brace t.kind) ts ≡ false → sets [] Form.newline (items_of names ts) ≡ items_of names ts
no_sets-tokens names ts e = no_sets [] Form.newline (items_of names ts) tt (sym (braces-same names ts) ∙ e)
