-- A set that is written as a dict opens no further bracket, and leaves END where it is.
use Rattle.std.proofs.Common.{◌≡◌, refl, ◌∙◌, ℕ, ◌≤◌, ◌==◌, Bool, true, false, if◌then◌else◌, List, [], ◌∷◌, ◌++◌, length, arith}
use Rattle.std.proofs.lemmas.Bool.{eqb-true}
use Rattle.rp_token.specs.Form.{Form, Item}
use Rattle.rp_token.proofs.LawsItems.{Within, open_behind_form}
use Rattle.rp_more.specs.Forms.{is_end}
use Rattle.rp_more.specs.Sets.{Group, innermost, is_asked, none_at, opened_behind, sets}
use Rattle.rp_more.proofs.Ends.{items_end}

pub sets-within : (limit n : ℕ) (opened : List Group) (before : Form) (items : List Item) → Within limit n items → Within limit n (sets opened before items)
sets-within limit n opened before [] within = within
sets-within limit n opened before (t ∷ ts) within =
    by (sets-within limit (open_behind_form n t.form) (opened_behind opened before t.form ts) t.form ts within.1) within.0 (is_asked (innermost opened) before t.form)
  where
    more : List Item
    more = sets (opened_behind opened before t.form ts) t.form ts

    by : Within limit (open_behind_form n t.form) more → n ≤ limit → (b : Bool) → Within limit n ((if b then none_at t else []) ++ t ∷ more)
    by further here true = (here, (here, (here, further)))
    by further here false = (here, further)

pub sets-end : (opened : List Group) (before : Form) (items : List Item) → items_end items ≡ true → items_end (sets opened before items) ≡ true
sets-end opened before [] ends = ends
sets-end opened before (t ∷ ts) ends =
    asked (is_asked (innermost opened) before t.form) ∙ by (is_end t.form) refl ts ends (λ rest. sets-end (opened_behind opened before t.form ts) t.form ts rest)
  where
    more : List Item
    more = sets (opened_behind opened before t.form ts) t.form ts

    asked : (b : Bool) → items_end ((if b then none_at t else []) ++ t ∷ more) ≡ items_end (t ∷ more)
    asked true = refl
    asked false = refl

    by : (e : Bool) → is_end t.form ≡ e → (us : List Item) → (if e then length us == 0 else items_end us) ≡ true
        → (items_end us ≡ true → items_end (sets (opened_behind opened before t.form us) t.form us) ≡ true)
        → (if e then length (sets (opened_behind opened before t.form us) t.form us) == 0 else items_end (sets (opened_behind opened before t.form us) t.form us)) ≡ true
    by true e [] rest further = refl
    by true e (u ∷ us) rest further = let none : length (u ∷ us) ≡ 0 = eqb-true (length (u ∷ us)) 0 rest in absurd (omega arith)
    by false e us rest further = further rest
