-- The tokens with each set as a dict are the items of the definition.
use Rattle.std.proofs.Common.{◌≡◌, ◌∙◌, refl, sym, ap, ℕ, Bool, true, false, ◌&&◌, ◌||◌, not, if◌then◌else◌, List, [], ◌∷◌, ◌++◌, drop, map, codes, append_assoc}
use Rattle.std.proofs.lemmas.List.{map-append}
use Rattle.rp_token.specs.Form.{Form, Item}
use Rattle.rp_token.specs.Laws.{opens, closes}
use Rattle.rp_token.specs.View.{form_view, item_view}
use Rattle.rp_token.specs.declared.token.Token.{Token}
use Rattle.rp_token.specs.declared.token.TokenKind.{TokenKind}
use Rattle.rp_more.specs.declared.groups.Group.{Group}
use Rattle.rp_more.specs.declared.groups.Group.TheVariants as group
use Rattle.rp_more.specs.Forms as form
use Rattle.rp_more.specs.KindSteps.{is_comma, is_for, is_in, is_left_brace}
use Rattle.rp_more.specs.LiteralSteps.{items_of}
use Rattle.rp_more.specs.Sets as of
use Rattle.rp_more.specs.SetSteps.{aheads, asked, asks, group_behind, group_here, group_seen, groups_ahead, groups_behind, innermost, none_before, none_tokens, opened_behind, past_for, set_tokens}
use Rattle.rp_more.proofs.Closings.{group-same}
use Rattle.rp_more.proofs.KindForms.{form-closes, form-comma, form-is_for, form-is_in, form-left_brace, form-opens}

abbrev seen : List Group → List of.Group
seen gs = map group_seen gs

innermost-seen : (gs : List Group) → of.innermost (seen gs) ≡ group_seen (innermost gs)
innermost-seen [] = refl
innermost-seen (g ∷ gs) = refl

drop-seen : (gs : List Group) → seen (drop 1 gs) ≡ drop 1 (seen gs)
drop-seen [] = refl
drop-seen (g ∷ gs) = refl

-- what is asked before a token
asked-seen : (names : List (List ℕ)) (g : Group) (before : Form) (separated : Bool) (k : TokenKind) → form.is_one_mark (codes "," ∷ codes "{" ∷ []) before ≡ separated
    → of.is_asked (group_seen g) before (form_view names k) ≡ asked g separated k
asked-seen names group.Comprehension before separated k e = form-is_for names k
asked-seen names group.Display before separated k e = λ j. (form-comma names k j || form-closes names k j) && not (e j)
asked-seen names group.Other before separated k e = refl

none-before : (names : List (List ℕ)) (opened : List Group) (before : Form) (separated : Bool) (t : Token) → form.is_one_mark (codes "," ∷ codes "{" ∷ []) before ≡ separated
    → items_of names (none_before opened separated t) ≡ (if of.is_asked (of.innermost (seen opened)) before (form_view names t.kind) then of.none_at (item_view names t) else [])
none-before names opened before separated t e =
    by (asks opened separated t.kind)
    ∙ (λ j. if sym ((λ k. of.is_asked (innermost-seen opened k) before (form_view names t.kind)) ∙ asked-seen names (innermost opened) before separated t.kind e) j then of.none_at (item_view names t) else [])
  where
    by : (b : Bool) → items_of names (if b then none_tokens (record { from = t.from; line = t.line }) else []) ≡ (if b then of.none_at (item_view names t) else [])
    by true = refl
    by false = refl

same_each : (b c : Bool) (os : List of.Group) (gs : List Group) → seen gs ≡ os → seen (if b then gs else gs) ≡ (if c then os else os)
same_each true true os gs h = h
same_each true false os gs h = h
same_each false true os gs h = h
same_each false false os gs h = h

-- the brackets that are open behind a token
opened-seen : (names : List (List ℕ)) (opened : List Group) (before : Form) (separated behind_in : Bool) (t : Token) (ts : List Token)
    → form.is_one_mark (codes "," ∷ codes "{" ∷ []) before ≡ separated → form.is_keyword (codes "in") before ≡ behind_in
    → seen (opened_behind (groups_ahead (t ∷ ts)) opened behind_in t.kind) ≡ of.opened_behind (seen opened) before (form_view names t.kind) (items_of names ts)
opened-seen names opened before separated behind_in t ts e f = by (opens t.kind) (closes t.kind) (form-opens names t.kind) (form-closes names t.kind)
  where
    k : TokenKind
    k = t.kind

    past : (gs : List Group) (b : Bool) → form.is_keyword (codes "for") (form_view names k) ≡ b
        → seen (if b then past_for gs else gs) ≡ (if of.is_asked (of.innermost (seen gs)) before (form_view names k) then of.past (of.innermost (seen gs)) (seen gs) else seen gs)
    past [] true g = refl
    past [] false g = refl
    past (group.Comprehension ∷ gs) true g = rw g refl
    past (group.Comprehension ∷ gs) false g = rw g refl
    past (group.Display ∷ gs) b g = same_each b (of.is_asked of.display before (form_view names k)) (of.display ∷ seen gs) (group.Display ∷ gs) refl
    past (group.Other ∷ gs) true g = refl
    past (group.Other ∷ gs) false g = refl

    by : (o c : Bool) → form.opens (form_view names k) ≡ o → form.closes (form_view names k) ≡ c
        → seen (if o then group_here behind_in k (if o then group_behind ts (aheads ts) ∷ groups_ahead ts else groups_ahead ts) ∷ opened else if c then drop 1 opened else if is_for k then past_for opened else opened)
        ≡ of.opened_behind (seen opened) before (form_view names k) (items_of names ts)
    by true c g h = rw g (ap (λ (first : of.Group). first ∷ seen opened) (group-same names before behind_in t ts f))
    by false true g h = rw (g, h) (drop-seen opened)
    by false false g h = rw (g, h) (past opened (is_for k) (form-is_for names k))

coming-behind : (t : Token) (ts : List Token) → groups_behind t.kind (groups_ahead (t ∷ ts)) ≡ groups_ahead ts
coming-behind t ts = by (opens t.kind)
  where
    by : (o : Bool) → (if o then drop 1 (if o then group_behind ts (aheads ts) ∷ groups_ahead ts else groups_ahead ts) else (if o then group_behind ts (aheads ts) ∷ groups_ahead ts else groups_ahead ts)) ≡ groups_ahead ts
    by true = refl
    by false = refl

-- a comma and `{`
separated-same : (names : List (List ℕ)) (k : TokenKind) → form.is_one_mark (codes "," ∷ codes "{" ∷ []) (form_view names k) ≡ (is_comma k || is_left_brace k)
separated-same names k = λ j. form-comma names k j || or_false (form-left_brace names k j) j
  where
    or_false : (b : Bool) → (b || false) ≡ b
    or_false true = refl
    or_false false = refl

pub set_items : (names : List (List ℕ)) (opened : List Group) (before : Form) (separated behind_in : Bool) (ts : List Token)
    → form.is_one_mark (codes "," ∷ codes "{" ∷ []) before ≡ separated → form.is_keyword (codes "in") before ≡ behind_in
    → items_of names (set_tokens (groups_ahead ts) opened separated behind_in ts) ≡ of.sets (seen opened) before (items_of names ts)
set_items names opened before separated behind_in [] e f = refl
set_items names opened before separated behind_in (t ∷ ts) e f =
    let further = opened_behind (groups_ahead (t ∷ ts)) opened behind_in t.kind in
    let none = none_before opened separated t in
    let asked_items : List Item = (if of.is_asked (of.innermost (seen opened)) before (form_view names t.kind) then of.none_at (item_view names t) else []) in
    let rest = set_items names further (form_view names t.kind) (is_comma t.kind || is_left_brace t.kind) (is_in t.kind) ts (separated-same names t.kind) (form-is_in names t.kind) in
    map-append (item_view names) (none ++ t ∷ []) (set_tokens (groups_behind t.kind (groups_ahead (t ∷ ts))) further (is_comma t.kind || is_left_brace t.kind) (is_in t.kind) ts)
    ∙ (λ j. map-append (item_view names) none (t ∷ []) j ++ items_of names (set_tokens (coming-behind t ts j) further (is_comma t.kind || is_left_brace t.kind) (is_in t.kind) ts))
    ∙ (λ j. (none-before names opened before separated t e j ++ item_view names t ∷ []) ++ rest j)
    ∙ (λ j. (asked_items ++ item_view names t ∷ []) ++ of.sets (opened-seen names opened before separated behind_in t ts e f j) (form_view names t.kind) (items_of names ts))
    ∙ append_assoc asked_items (item_view names t ∷ []) (of.sets (of.opened_behind (seen opened) before (form_view names t.kind) (items_of names ts)) (form_view names t.kind) (items_of names ts))
