-- The names follow the tokens that are written.
use Rattle.std.proofs.Common.{◌≡◌, ◌∙◌, refl, sym, ap, ℕ, Bool, true, false, if◌then◌else◌, List, [], ◌∷◌, ◌++◌, flat_map, get_or, IsTrue, Some, slice_get}
use Rattle.std.proofs.lemmas.Grind.{flat_map-append}
use Rattle.std.proofs.lemmas.List.{append-nil, map-append}
use Rattle.std.proofs.lemmas.List.Folds.{flat_map-map}
use Rattle.std.proofs.lemmas.Option.{get_or_from_slice_get, slice_get_within}
use Rattle.std.specs.List.{All}
use Rattle.std.specs.Prelude.{pos, negsuc}
use Rattle.rp_base.specs.Names.{GrowsTo, is_held, with_word, with_words}
use Rattle.rp_base.proofs.CallerLemmas.{is_held-at, with_word-held, with_words-append, with_words-then}
use Rattle.rp_token.specs.Form.{Form, Item, literal, name}
use Rattle.rp_token.specs.NameWords.{name_words, word_in}
use Rattle.rp_token.specs.View.{IsHeld, IsHeldKind, form_view, item_view}
use Rattle.rp_token.specs.declared.token.Token.{Token}
use Rattle.rp_token.specs.declared.token.TokenKind.{TokenKind}
use Rattle.rp_token.specs.declared.token.TokenKind.TheVariants as kind
use Rattle.rp_more.specs.declared.place.Place.{Place}
use Rattle.rp_more.specs.Expression.{kept}
use Rattle.rp_more.specs.Forms.{placed}
use Rattle.rp_more.specs.LiteralSteps.{comma_before, items_of, place_item}
use Rattle.rp_more.specs.NameSteps.{Follow}
use Rattle.rp_more.specs.Sets.{Group, innermost, is_asked, none_at, opened_behind, sets}
use Rattle.rp_more.proofs.Growth.{grown-at}
use Rattle.rp_more.proofs.Held.{All-first, All-rest, form-later, items-later}
use Rattle.rp_more.proofs.Leading.{at_place}

pub Follow-refl : (names : List (List ℕ)) (ts : List Token) → Follow names names ts ts
Follow-refl names ts = λ start more so_far. so_far

-- one after another
pub Follow-then : (old mid new : List (List ℕ)) (before between after : List Token) → GrowsTo mid new → Follow old mid before between → Follow mid new between after → Follow old new before after
Follow-then old mid new before between after grown one other = λ start more so_far.
    let P = λ (names : List (List ℕ)). old ≡ with_words start (name_words (items_of names before)) → mid ≡ with_words start (name_words (items_of names between)) in
    other start more (grown-at mid new more P grown (one start) so_far)

-- one after another, where no more names come
pub Follow-on : (old new : List (List ℕ)) (before between after : List Token) → Follow old new before between → Follow new new between after → Follow old new before after
Follow-on old new before between after one other = λ start more so_far. other start more (one start more so_far)

-- forms that are written, in a place, with the names of their words
pub Follow-words : (p : Place) (fs : List Form) (words old new : List (List ℕ)) (before after : List Token)
    → ((more : List (List ℕ)) → items_of (new ++ more) after ≡ items_of (new ++ more) before ++ at_place p fs)
    → flat_map word_in fs ≡ words → new ≡ with_words old words → Follow old new before after
Follow-words p fs words old new before after items said grown = λ start more so_far.
    let w = items_of (new ++ more) before in
    let added : name_words (items_of (new ++ more) after) ≡ name_words w ++ words =
    ap name_words (items more) ∙ flat_map-append (λ (t : Item). word_in t.form) w (at_place p fs)
    ∙ ap (λ ws. name_words w ++ ws) (flat_map-map (λ (t : Item). word_in t.form) (placed (place_item p)) fs ∙ said) in
    with_words-then start old new (name_words w) words so_far grown ∙ ap (with_words start) (sym added)

-- a text, in a place
pub Follow-text : (p : Place) (t : List ℕ) (names : List (List ℕ)) (before after : List Token)
    → ((ns : List (List ℕ)) → items_of ns after ≡ items_of ns before ++ placed (place_item p) (literal t) ∷ []) → Follow names names before after
Follow-text p t names before after items = Follow-words p (literal t ∷ []) [] names names before after (λ more. items (names ++ more)) refl refl

pub comma-words : (first : Bool) → flat_map word_in (comma_before first) ≡ []
comma-words true = refl
comma-words false = refl

-- a word that is held is no new one
pub with_word-at : (names : List (List ℕ)) (i : ℕ) (w : List ℕ) → slice_get names i ≡ Some w → names ≡ with_word names w
with_word-at names i w at =
    let held : IsTrue (is_held names w) =
    (λ k. is_held (sym (append-nil names) k) (sym (get_or_from_slice_get names i w [] at) k)) ∙ is_held-at names [] i (slice_get_within names i w at) in
    sym (with_word-held names w held)

-- the word of a name that is held is no new one
held-form : (names : List (List ℕ)) (k : TokenKind) → IsHeldKind names k → with_words names (word_in (form_view names k)) ≡ names
held-form names (kind.Name n) held = with_word-held names (get_or names n.0 []) ((λ i. is_held (sym (append-nil names) i) (get_or names n.0 [])) ∙ is_held-at names [] n.0 held)
held-form names (kind.Int (pos n)) held = refl
held-form names (kind.Int (negsuc n)) held = refl
held-form names k held = refl

-- a token more whose name is held
pub Follow-held : (names : List (List ℕ)) (before after : List Token) (t : Token) → IsHeld names t → after ≡ before ++ t ∷ [] → Follow names names before after
Follow-held names before after t held is = λ start more so_far.
    let ns = names ++ more in
    let w = items_of ns before in
    let form = form-later names more t.kind held in
    let added : name_words (items_of ns after) ≡ name_words w ++ word_in (form_view names t.kind) =
    ap (λ ts. name_words (items_of ns ts)) is ∙ ap name_words (map-append (item_view ns) before (t ∷ []))
    ∙ flat_map-append (λ (u : Item). word_in u.form) w (item_view ns t ∷ [])
    ∙ ap (λ ws. name_words w ++ ws) (append-nil (word_in (form_view ns t.kind)) ∙ ap word_in form) in
    sym (held-form names t.kind held) ∙ with_words-then start names (with_words names (word_in (form_view names t.kind))) (name_words w) (word_in (form_view names t.kind)) so_far refl ∙ ap (with_words start) (sym added)

-- the words of names that are held are no new ones
held-words : (names more : List (List ℕ)) (ts : List Token) → All (IsHeld names) ts → with_words names (name_words (items_of (names ++ more) ts)) ≡ names
held-words names more [] held = refl
held-words names more (t ∷ ts) held =
    let here : with_words names (word_in (form_view (names ++ more) t.kind)) ≡ names =
    ap (λ f. with_words names (word_in f)) (form-later names more t.kind (All-first (IsHeld names) t ts held)) ∙ held-form names t.kind (All-first (IsHeld names) t ts held) in
    let rest = name_words (items_of (names ++ more) ts) in
    sym (with_words-append names (word_in (form_view (names ++ more) t.kind)) rest) ∙ ap (λ ns. with_words ns rest) here ∙ held-words names more ts (All-rest (IsHeld names) t ts held)

-- all tokens as they are, where their names are held
pub Follow-all : (names : List (List ℕ)) (ts : List Token) → All (IsHeld names) ts → Follow names names [] ts
Follow-all names ts held = λ start more so_far.
    sym (held-words names more ts held) ∙ ap (λ ns. with_words ns (name_words (items_of (names ++ more) ts))) so_far

-- no name is left out with the ends of lines and of the text
pub kept-words : (items : List Item) → flat_map word_in (kept items) ≡ name_words items
kept-words [] = refl
kept-words (t ∷ ts) = one t.form ts ∙ ap (λ ws. word_in t.form ++ ws) (kept-words ts)
  where
    one : (f : Form) (ts : List Item) → flat_map word_in (kept (record { form = f; from = 0; to = 0; line = 0 } ∷ ts)) ≡ word_in f ++ flat_map word_in (kept ts)
    one (name w) ts = refl
    one f ts = refl

-- the tokens of an expression, with the names of their words
pub Follow-tokens : (p : Place) (old new : List (List ℕ)) (before after found : List Token) → All (IsHeld new) found
    → ((names : List (List ℕ)) → items_of names after ≡ items_of names before ++ at_place p (kept (items_of names found)))
    → new ≡ with_words old (name_words (items_of new found)) → Follow old new before after
Follow-tokens p old new before after found held items grown =
    let same = λ (more : List (List ℕ)). items (new ++ more) ∙ (λ k. items_of (new ++ more) before ++ at_place p (kept (items-later new more found held k))) in
    Follow-words p (kept (items_of new found)) (name_words (items_of new found)) old new before after same (kept-words (items_of new found)) grown

-- a set that is written as a dict has the same names
pub sets-words : (opened : List Group) (before : Form) (items : List Item) → name_words (sets opened before items) ≡ name_words items
sets-words opened before [] = refl
sets-words opened before (t ∷ ts) =
    by (is_asked (innermost opened) before t.form) ∙ ap (λ ws. word_in t.form ++ ws) (sets-words (opened_behind opened before t.form ts) t.form ts)
  where
    more : List Item
    more = sets (opened_behind opened before t.form ts) t.form ts

    by : (b : Bool) → name_words ((if b then none_at t else []) ++ t ∷ more) ≡ word_in t.form ++ name_words more
    by true = refl
    by false = refl
