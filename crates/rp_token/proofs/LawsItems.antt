-- The laws of tokens, as laws of the definition's items, and what a further item keeps of them.
use Rattle.std.proofs.Common.{◌≡◌, refl, sym, ap, ◌∙◌, subst, cond, ℕ, ◌+◌, ◌-◌, ◌≤◌, Bool, true, false, not, if◌then◌else◌, List, [], ◌∷◌, ◌++◌, length, take, drop, fold, encode_utf8_all, arith}
use Rattle.std.specs.List.{count_by, list_all}
use Rattle.std.proofs.lemmas.List.{take-append-drop, length-append}
use Rattle.std.proofs.lemmas.List.Folds.{list_all-append}
use Rattle.std.proofs.lemmas.List.Sums.{sum_by-append, fold-append}
use Rattle.std.proofs.lemmas.Str.{encodes-append}
use Rattle.rp_token.specs.Characters.{first}
use Rattle.rp_token.specs.Form.{Form, Item, mark, indent, dedent, end_of_text}
use Rattle.rp_token.specs.Tokens.{is_closing, is_opening, most_brackets, place}
use Rattle.rp_token.proofs.Steps.{IsBehind, behind-behind}

abbrev pub is_end_form : Form → Bool
is_end_form end_of_text = true
is_end_form _ = false

abbrev pub is_indent_form : Form → Bool
is_indent_form indent = true
is_indent_form _ = false

abbrev pub is_dedent_form : Form → Bool
is_dedent_form dedent = true
is_dedent_form _ = false

abbrev pub opens_form : Form → Bool
opens_form (mark m) = is_opening (first m)
opens_form _ = false

abbrev pub closes_form : Form → Bool
closes_form (mark m) = is_closing (first m)
closes_form _ = false

abbrev pub open_behind_form : ℕ → Form → ℕ
open_behind_form n f = if opens_form f then n + 1 else if closes_form f then n - 1 else n

-- the bytes of some characters at the front of the text
pub record IsPlace (text : List ℕ) (p : ℕ) : Type 0 where
  pub count : ℕ
  pub is : p ≡ length (encode_utf8_all (take count text))

-- the items lie one behind another between two places
abbrev pub Lie : List ℕ → ℕ → ℕ → List Item → Type 0
Lie text least most [] = least ≤ most
Lie text least most (i ∷ is) = (least ≤ i.from) × (i.from ≤ i.to) × IsPlace text i.from × IsPlace text i.to × Lie text i.to most is

abbrev pub Within : ℕ → ℕ → List Item → Type 0
Within limit n [] = n ≤ limit
Within limit n (i ∷ is) = (n ≤ limit) × Within limit (open_behind_form n i.form) is

abbrev pub open_after : ℕ → List Item → ℕ
open_after n is = fold (λ n (i : Item). open_behind_form n i.form) n is

abbrev pub ends_not : List Item → Bool
ends_not is = list_all (λ (i : Item). not (is_end_form i.form)) is

abbrev pub indents : List Item → ℕ
indents is = count_by (λ (i : Item). is_indent_form i.form) is

abbrev pub dedents : List Item → ℕ
dedents is = count_by (λ (i : Item). is_dedent_form i.form) is

pub Lie-more : (text : List ℕ) (least most further : ℕ) (is : List Item) → most ≤ further → Lie text least most is → Lie text least further is
Lie-more text least most further [] more lie = omega arith
Lie-more text least most further (i ∷ is) more lie = (lie.0, lie.1, lie.2, lie.3, Lie-more text i.to most further is more lie.4)

pub Lie-push : (text : List ℕ) (least most : ℕ) (is : List Item) (i : Item) → Lie text least most is → most ≤ i.from → i.from ≤ i.to → IsPlace text i.from → IsPlace text i.to → Lie text least i.to (is ++ i ∷ [])
Lie-push text least most [] i lie from to there here = (omega arith, to, there, here, omega arith)
Lie-push text least most (j ∷ js) i lie from to there here = (lie.0, lie.1, lie.2, lie.3, Lie-push text j.to most js i lie.4 from to there here)

pub Within-push : (limit n : ℕ) (is : List Item) (i : Item) → Within limit n is → open_behind_form (open_after n is) i.form ≤ limit → Within limit n (is ++ i ∷ [])
Within-push limit n [] i within few = (within, few)
Within-push limit n (j ∷ js) i within few = (within.0, Within-push limit (open_behind_form n j.form) js i within.1 few)

-- the place of a rest of the text
abbrev pub place_of : List ℕ → List ℕ → ℕ
place_of text rest = place (length (encode_utf8_all text)) rest

cut : (n : ℕ) (cs : List ℕ) → length (encode_utf8_all (take n cs)) + length (encode_utf8_all (drop n cs)) ≡ length (encode_utf8_all cs)
cut n cs =
    sym (length-append (encode_utf8_all (take n cs)) (encode_utf8_all (drop n cs))) ∙ ap length (sym (encodes-append (take n cs) (drop n cs)))
    ∙ ap (λ ds. length (encode_utf8_all ds)) (take-append-drop n cs)

-- a rest of a rest
pub behind-on : (text rest further : List ℕ) → IsBehind 0 text rest → IsBehind 0 rest further → IsBehind 0 text further
behind-on text rest further less more = behind-behind 0 less.count text further (omega arith) (subst (λ cs. IsBehind 0 cs further) less.is more)

-- a rest of a rest stands at the same place or behind it
pub place-le : (text rest further : List ℕ) → IsBehind 0 rest further → place_of text rest ≤ place_of text further
place-le text rest further less =
    let both = cut less.count rest in
    let same = ap (λ ds. length (encode_utf8_all ds)) less.is in
    omega arith

pub IsPlace-rest : (text rest : List ℕ) → IsBehind 0 text rest → IsPlace text (place_of text rest)
IsPlace-rest text rest less =
    let both = cut less.count text in
    let same = ap (λ ds. length (encode_utf8_all ds)) less.is in
    record { count = less.count; is = omega arith }

-- The items so far obey the laws, where the next lies at a rest of the text or behind it, and so many columns and brackets are open.
pub record Lawful (text rest : List ℕ) (items : List Item) (columns brackets : ℕ) : Type 0 where
  pub behind : IsBehind 0 text rest
  pub lie : Lie text 0 (place_of text rest) items
  pub blocks : indents items ≡ dedents items + columns
  pub opened : open_after 0 items ≡ brackets
  pub within : Within most_brackets 0 items

Within-last : (limit n : ℕ) (is : List Item) → Within limit n is → open_after n is ≤ limit
Within-last limit n [] within = within
Within-last limit n (i ∷ is) within = Within-last limit (open_behind_form n i.form) is within.1

-- no more brackets are open than the most
pub Lawful-few : (text rest : List ℕ) (items : List Item) (columns brackets : ℕ) → Lawful text rest items columns brackets → brackets ≤ most_brackets
Lawful-few text rest items columns brackets so_far = subst (λ n. n ≤ most_brackets) so_far.opened (Within-last most_brackets 0 items so_far.within)

-- further on in the text
pub Lawful-on : (text rest further : List ℕ) (items : List Item) (columns brackets : ℕ) → IsBehind 0 rest further → Lawful text rest items columns brackets → Lawful text further items columns brackets
Lawful-on text rest further items columns brackets less so_far =
    record {
      behind = behind-on text rest further so_far.behind less;
      lie = Lie-more text 0 (place_of text rest) (place_of text further) items (place-le text rest further less) so_far.lie;
      blocks = so_far.blocks;
      opened = so_far.opened;
      within = so_far.within;
    }

-- an item more that is not the end
pub ends_not-push : (items : List Item) (i : Item) → ends_not items ≡ true → is_end_form i.form ≡ false → ends_not (items ++ i ∷ []) ≡ true
ends_not-push items i none other = list_all-append (λ (j : Item). not (is_end_form j.form)) items (i ∷ []) ∙ rw (none, other) refl

-- an item more, between two rests of the text
pub Lawful-push : (text rest from to : List ℕ) (items : List Item) (columns brackets more : ℕ) (form : Form) (line : ℕ) → Lawful text rest items columns brackets → IsBehind 0 rest from → IsBehind 0 from to
    → cond (is_indent_form form) 1 0 + columns ≡ cond (is_dedent_form form) 1 0 + more → open_behind_form brackets form ≤ most_brackets
    → Lawful text to (items ++ record { form = form; from = place_of text from; to = place_of text to; line = line } ∷ []) more (open_behind_form brackets form)
Lawful-push text rest from to items columns brackets more form line so_far less longer count few =
    let i : Item = record { form = form; from = place_of text from; to = place_of text to; line = line } in
    let there = behind-on text rest from so_far.behind less in
    let here = behind-on text from to there longer in
    let opened = ap (λ n. open_behind_form n form) so_far.opened in
    let begun = sum_by-append (λ (j : Item). cond (is_indent_form j.form) 1 0) items (i ∷ []) in
    let ended = sum_by-append (λ (j : Item). cond (is_dedent_form j.form) 1 0) items (i ∷ []) in
    let before = so_far.blocks in
    record {
      behind = here;
      lie = Lie-push text 0 (place_of text rest) items i so_far.lie (place-le text rest from less) (place-le text from to longer) (IsPlace-rest text from there) (IsPlace-rest text to here);
      blocks = omega arith;
      opened = fold-append (λ n (j : Item). open_behind_form n j.form) 0 items (i ∷ []) ∙ opened;
      within = Within-push most_brackets 0 items i so_far.within (subst (λ n. n ≤ most_brackets) (sym opened) few);
    }
