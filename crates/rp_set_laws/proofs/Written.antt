-- Tokens whose brackets match are written out as some.
use Rattle.std.proofs.Common.{◌≡◌, refl, sym, ap, ◌∙◌, true≢false, suc, Bool, true, false, if◌then◌else◌, List, []}
use Rattle.std.proofs.Common.{◌∷◌, ◌++◌, append_assoc, arith, drop, length}
use Rattle.std.proofs.lemmas.Bool.{eqb-true}
use Rattle.rp_more.specs.Forms.{closes, opens}
use Rattle.rp_more.specs.Sets.{Group, comprehension, display, group_of, innermost, is_asked, none_at, other, past}
use Rattle.rp_more.specs.Sets.{sets}
use Rattle.rp_token.specs.Form.{Form, Item}
use Rattle.rp_set_laws.specs.Spelled.{EachBalancedIsWritten, is_balanced, last_form, with_one_less}

module _ (g : Group) (keeps : (gs : List Group) → past g gs ≡ gs) (opened : List Group) where
  -- brackets that were opened within
  abbrev behind : List Group → List Group
  behind inner = inner ++ g ∷ opened

  abbrev Kept : List Group → List Item → Type 0
  Kept gs ts = (inner : List Group) × (gs ≡ behind inner) × (is_balanced (length inner) ts ≡ true)

  kept : (new : Group) (ts : List Item) (o c a : Bool) (inner : List Group)
      → (if o then is_balanced (suc (length inner)) ts
      else if c then with_one_less (length inner) (λ n. is_balanced n ts) else is_balanced (length inner) ts) ≡ true
      → Kept (if o then new ∷ behind inner else if c then drop 1 (behind inner)
      else if a then past (innermost (behind inner)) (behind inner) else behind inner) ts
  kept new ts true c a inner h = (new ∷ inner, refl, h)
  kept new ts false true a [] h = absurd (true≢false (sym h))
  kept new ts false true a (i ∷ is) h = (is, refl, h)
  kept new ts false false false inner h = (inner, refl, h)
  kept new ts false false true [] h = ([], keeps (g ∷ opened), h)
  kept new ts false false true (comprehension ∷ is) h = (other ∷ is, refl, h)
  kept new ts false false true (display ∷ is) h = (display ∷ is, refl, h)
  kept new ts false false true (other ∷ is) h = (other ∷ is, refl, h)

  pub written : (items rest : List Item) (inner : List Group) (before : Form)
      → is_balanced (length inner) items ≡ true
      → (ws : List Item)
      × (sets (behind inner) before (items ++ rest) ≡ ws ++ sets (g ∷ opened) (last_form before items) rest)
  written [] rest [] before h = ([], refl)
  written [] rest (i ∷ is) before h =
      let none : length (i ∷ is) ≡ 0 = eqb-true (length (i ∷ is)) 0 h in absurd (omega arith)
  written (t ∷ ts) rest inner before h =
      let asked = is_asked (innermost (behind inner)) before t.form in
      let more = kept (group_of before t.form (ts ++ rest)) ts (opens t.form) (closes t.form) asked inner h in
      let further = written ts rest more.0 t.form more.2 in
      let value = if asked then none_at t else [] in (
        value ++ t ∷ further.0,
        ap (λ gs. value ++ t ∷ sets gs t.form (ts ++ rest)) more.1
            ∙ ap (λ us. value ++ t ∷ us) further.1
            ∙ sym (append_assoc value (t ∷ further.0) (sets (g ∷ opened) (last_form t.form ts) rest)),
      )

pub each_is_written : EachBalancedIsWritten
each_is_written opened before items rest h = (
  written display (λ gs. refl) opened items rest [] before h,
  written other (λ gs. refl) opened items rest [] before h,
)
