-- Tokens that are taken over one by one.
use Rattle.std.proofs.Common.{◌≡◌, ◌∙◌, refl, sym, ap, cond, Bool, true, false, not, ◌||◌, List, [], ◌∷◌, ◌++◌, append_assoc, map}
use Rattle.std.proofs.lemmas.List.{append-nil, map-append}
use Rattle.rp_token.specs.Form.{Item}
use Rattle.rp_token.specs.declared.token.Token.{Token}
use Rattle.rp_more.specs.declared.groups.Group.{Group}
use Rattle.rp_more.specs.Expression.{kept}
use Rattle.rp_more.specs.Forms.{is_end, is_newline, placed}
use Rattle.rp_more.specs.KindSteps.{is_comma, is_in, is_left_brace}
use Rattle.rp_more.specs.SetSteps.{groups_behind, none_before, opened_behind, set_tokens}

kept-more : (i : Item) (is : List Item) → kept (i ∷ is) ≡ kept (i ∷ []) ++ kept is
kept-more i is = by (not (is_newline i.form || is_end i.form))
  where
    by : (b : Bool) → cond b (i.form ∷ kept is) (kept is) ≡ cond b (i.form ∷ []) [] ++ kept is
    by true = refl
    by false = refl

-- one more is taken over
pub kept-turn : (t : Item) (w v : List Item) (i : Item) (is all total : List Item) → v ≡ w ++ map (placed t) (kept (i ∷ [])) → all ≡ i ∷ is
    → w ++ map (placed t) (kept all) ≡ total → v ++ map (placed t) (kept is) ≡ total
kept-turn t w v i is all total e f before =
    ap (λ items. items ++ map (placed t) (kept is)) e ∙ append_assoc w (map (placed t) (kept (i ∷ []))) (map (placed t) (kept is))
    ∙ ap (λ items. w ++ items) (sym (ap (λ items. map (placed t) (kept items)) f ∙ ap (map (placed t)) (kept-more i is) ∙ map-append (placed t) (kept (i ∷ [])) (kept is)))
    ∙ before

pub kept-all : (t : Item) (w : List Item) (rest total : List Item) → rest ≡ [] → w ++ map (placed t) (kept rest) ≡ total → w ≡ total
kept-all t w rest total none before = sym (append-nil w) ∙ ap (λ items. w ++ map (placed t) (kept items)) (sym none) ∙ before

-- one more is taken, with `: None` before it
pub set-turn : (w v : List Token) (coming opened coming2 opened2 : List Group) (separated behind_in separated2 behind_in2 : Bool) (t : Token) (rest all total : List Token)
    → v ≡ w ++ (none_before opened separated t ++ t ∷ []) → opened2 ≡ opened_behind coming opened behind_in t.kind → coming2 ≡ groups_behind t.kind coming
    → separated2 ≡ (is_comma t.kind || is_left_brace t.kind) → behind_in2 ≡ is_in t.kind → all ≡ t ∷ rest
    → w ++ set_tokens coming opened separated behind_in all ≡ total → v ++ set_tokens coming2 opened2 separated2 behind_in2 rest ≡ total
set-turn w v coming opened coming2 opened2 separated behind_in separated2 behind_in2 t rest all total e f g h i j before =
    (λ k. e k ++ set_tokens (g k) (f k) (h k) (i k) rest)
    ∙ append_assoc w (none_before opened separated t ++ t ∷ []) (set_tokens (groups_behind t.kind coming) (opened_behind coming opened behind_in t.kind) (is_comma t.kind || is_left_brace t.kind) (is_in t.kind) rest)
    ∙ ap (λ ts. w ++ set_tokens coming opened separated behind_in ts) (sym j) ∙ before

pub set-all : (w : List Token) (coming opened : List Group) (separated behind_in : Bool) (rest total : List Token) → rest ≡ [] → w ++ set_tokens coming opened separated behind_in rest ≡ total → w ≡ total
set-all w coming opened separated behind_in rest total none before =
    sym (append-nil w) ∙ ap (λ ts. w ++ set_tokens coming opened separated behind_in ts) (sym none) ∙ before

-- what was taken of a list, and what is left of it
pub one-yielded : (yielded all rest whole : List Token) (t : Token) → all ≡ t ∷ rest → yielded ++ all ≡ whole → (yielded ++ t ∷ []) ++ rest ≡ whole
one-yielded yielded all rest whole t e before = append_assoc yielded (t ∷ []) rest ∙ ap (λ ts. yielded ++ ts) (sym e) ∙ before
