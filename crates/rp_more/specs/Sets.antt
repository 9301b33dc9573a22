-- Sets that are tested by `in` or walked (Python Language Reference, set displays): each is written as a dict of its elements, whose values
-- are None.
use Rattle.std.specs.Prelude.{ℕ, ◌+◌, ◌-◌, ◌==◌, Bool, false, not, ◌&&◌, ◌||◌, if◌then◌else◌, List, [], ◌∷◌, ◌++◌, drop, codes}
use Rattle.std.specs.List.{list_any}
use Rattle.rp_token.specs.Form.{Form, newline, keyword, mark, Item}
use Rattle.rp_more.specs.Forms.{opens, closes, is_mark, is_keyword, is_one_mark, is_one_keyword, is_newline, placed}

-- what the form of the first token is, a line end where there is none
abbrev pub first_form : List Item → Form
first_form [] = newline
first_form (t ∷ ts) = t.form

-- from the bracket on that closes what was opened before, of whatever kind, where so many more are open
abbrev pub from_closing : ℕ → List Item → List Item
from_closing n [] = []
from_closing n (t ∷ ts) = from_bracket n (from_closing (n - 1) ts) (from_closing (n + 1) ts) (from_closing n ts) t ts
  where
    from_bracket : ℕ → List Item → List Item → List Item → Item → List Item → List Item
    from_bracket n less more as_many t ts =
        if closes t.form then (if n == 0 then t ∷ ts else less) else if opens t.form then more else as_many

-- the same tokens up to there, without those within further brackets
abbrev pub own : ℕ → List Item → List Form
own n [] = []
own n (t ∷ ts) =
    if closes t.form then (if n == 0 then [] else own (n - 1) ts) else if opens t.form then own (n + 1) ts
    else (if n == 0 then t.form ∷ own n ts else own n ts)

-- what may follow a set
abbrev pub may_follow : Form → Bool
may_follow f =
    is_newline f || (is_one_mark (codes ")" ∷ codes "]" ∷ codes "}" ∷ codes ":" ∷ codes ";" ∷ []) f
    || is_one_keyword (codes "if" ∷ codes "else" ∷ codes "and" ∷ codes "or" ∷ codes "for" ∷ []) f)

-- a bracket: elements of a set, a comprehension of a set, or any other
pub data Group : Type 0 where
  display : Group
  comprehension : Group
  other : Group

-- the first token may follow a set
abbrev pub is_followed : List Item → Bool
is_followed [] = false
is_followed (t ∷ ts) = may_follow t.form

-- the tokens behind `in {` are those of a set: one at least, no `:` of its own, `}` and what may follow
abbrev pub is_set : List Item → Bool
is_set ts =
    let closing = from_closing 0 ts in
    (not (closes (first_form ts)) && not (list_any (is_mark (codes ":")) (own 0 ts))) && (is_mark (codes "}") (first_form closing) && is_followed (drop 1 closing))

-- what a bracket opens, by the token before it and those behind it
abbrev pub group_of : Form → Form → List Item → Group
group_of before t ts =
    if is_keyword (codes "in") before && (is_mark (codes "{") t && is_set ts) then (if list_any (is_keyword (codes "for")) (own 0 ts) then comprehension else display)
    else other

-- `: None` comes before a token at a group's own depth: before the first `for`; before each `,` and the `}`, but not behind
-- `,` or `{`
abbrev pub is_asked : Group → Form → Form → Bool
is_asked comprehension before t = is_keyword (codes "for") t
is_asked display before t = (is_mark (codes ",") t || closes t) && not (is_one_mark (codes "," ∷ codes "{" ∷ []) before)
is_asked other before t = false

abbrev pub innermost : List Group → Group
innermost [] = other
innermost (g ∷ gs) = g

-- a comprehension asks for nothing behind its first `for`
abbrev pub past : Group → List Group → List Group
past comprehension opened = other ∷ drop 1 opened
past g opened = opened

-- the open brackets behind a token, the innermost first
abbrev pub opened_behind : List Group → Form → Form → List Item → List Group
opened_behind opened before t ts =
    if opens t then group_of before t ts ∷ opened else if closes t then drop 1 opened
    else if is_asked (innermost opened) before t then past (innermost opened) opened else opened

-- `: None` in the place of a token
abbrev pub none_at : Item → List Item
none_at t = placed t (mark (codes ":")) ∷ placed t (keyword (codes "None")) ∷ []

-- The tokens with each set as a dict, behind open brackets and a token.
abbrev pub sets : List Group → Form → List Item → List Item
sets opened before [] = []
sets opened before (t ∷ ts) =
    (if is_asked (innermost opened) before t.form then none_at t else []) ++ t ∷ sets (opened_behind opened before t.form ts) t.form ts
