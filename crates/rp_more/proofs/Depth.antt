-- How many brackets are open within what is written out.
use Rattle.std.proofs.Common.{◌≡◌, refl, sym, ap, ◌∙◌, subst, cond, ℕ, ◌+◌, ◌-◌, ◌≤◌, ◌==◌, Bool, true, false, ◌&&◌, ◌||◌, not, nat_lt, if◌then◌else◌, filter, List, [], ◌∷◌, ◌++◌, map, codes, Option, Some, None, Result, Ok, Err, arith}
use Rattle.std.specs.Option.{option_map, option_and_then, option_map_or}
use Rattle.std.specs.Prelude.{pos, negsuc}
use Rattle.std.proofs.lemmas.Bool.{and_parts, ltb-true}
use Rattle.rp_token.specs.Form.{Form, Item, name, number, literal, keyword, mark, newline, indent, dedent, end_of_text}
use Rattle.rp_token.specs.Tokens.{at_line, tokens_of}
use Rattle.rp_token.specs.View.{form_view, item_view}
use Rattle.rp_token.specs.declared.fault.TokenFault.{TokenFault}
use Rattle.rp_token.specs.declared.token.Token.{Token}
use Rattle.rp_token.specs.declared.token.TokenKind.{TokenKind}
use Rattle.rp_token.specs.declared.token.TokenKind.TheVariants as kind
use Rattle.rp_token.proofs.LawsItems.{Within, open_after, open_behind_form, opens_form, closes_form}
use Rattle.rp_more.specs.declared.fault.MoreFault.{MoreFault}
use Rattle.rp_more.specs.declared.fault.MoreFault.TheVariants as fault
use Rattle.rp_more.specs.Expression.{closes_own, kept, own_forms, trimmed}
use Rattle.rp_more.specs.Forms.{closes, ends_operand, is_end, is_literal, is_newline, opens, placed, text_of}
use Rattle.rp_more.specs.Literals.{begins, elements, has_text_at, is_f, is_prefix, join_call, joined, literal_forms, literal_items, literals, piece_forms, str_call, with_front}
use Rattle.rp_more.specs.Pieces.{Piece, run, part, pieces_of}
use Rattle.rp_more.specs.Sets.{first_form}
use Rattle.rp_more.proofs.Balanced.{AllBalanced, of_text}

-- a form whose spelling and first character say the same of brackets
pub record IsPlain (f : Form) : Type 0 where
  pub opening : opens f ≡ opens_form f
  pub closing : closes f ≡ closes_form f
  pub apart : (opens_form f && closes_form f) ≡ false

pub plain-view : (names : List (List ℕ)) (k : TokenKind) → IsPlain (form_view names k)
plain-view names (kind.Int (pos n)) = record { opening = refl; closing = refl; apart = refl }
plain-view names (kind.Int (negsuc n)) = record { opening = refl; closing = refl; apart = refl }
plain-view names k = record { opening = refl; closing = refl; apart = refl }

abbrev pub ArePlain : List Form → Type 0
ArePlain [] = Unit {0}
ArePlain (f ∷ fs) = IsPlain f × ArePlain fs

abbrev pub forms_of : List Item → List Form
forms_of items = map (λ (i : Item). i.form) items

pub plain-items : (names : List (List ℕ)) (ts : List Token) → ArePlain (forms_of (map (item_view names) ts))
plain-items names [] = tt
plain-items names (t ∷ ts) = (plain-view names t.kind, plain-items names ts)

plain-front : (xs ys : List Form) → ArePlain (xs ++ ys) → ArePlain xs
plain-front [] ys all = tt
plain-front (x ∷ xs) ys all = (all.0, plain-front xs ys all.1)

plain-rest : (xs ys : List Form) → ArePlain (xs ++ ys) → ArePlain ys
plain-rest [] ys all = all
plain-rest (x ∷ xs) ys all = plain-rest xs ys all.1

forms-append : (xs ys : List Item) → forms_of (xs ++ ys) ≡ forms_of xs ++ forms_of ys
forms-append [] ys = refl
forms-append (x ∷ xs) ys = ap (λ fs. x.form ∷ fs) (forms-append xs ys)

forms-placed : (t : Item) (fs : List Form) → forms_of (map (placed t) fs) ≡ fs
forms-placed t [] = refl
forms-placed t (f ∷ fs) = ap (λ gs. f ∷ gs) (forms-placed t fs)

-- no more brackets than a limit are open, where so many are before the forms, and how many are behind them
abbrev pub Fits : ℕ → ℕ → List Form → Type 0
Fits limit n [] = n ≤ limit
Fits limit n (f ∷ fs) = (n ≤ limit) × Fits limit (open_behind_form n f) fs

abbrev after : ℕ → List Form → ℕ
after n [] = n
after n (f ∷ fs) = after (open_behind_form n f) fs

Fits-append : (limit n : ℕ) (xs ys : List Form) → Fits limit n xs → Fits limit (after n xs) ys → Fits limit n (xs ++ ys)
Fits-append limit n [] ys here rest = rest
Fits-append limit n (x ∷ xs) ys here rest = (here.0, Fits-append limit (open_behind_form n x) xs ys here.1 rest)

after-append : (n : ℕ) (xs ys : List Form) → after n (xs ++ ys) ≡ after (after n xs) ys
after-append n [] ys = refl
after-append n (x ∷ xs) ys = after-append (open_behind_form n x) xs ys

Fits-more : (limit more n : ℕ) (fs : List Form) → limit ≤ more → Fits limit n fs → Fits more n fs
Fits-more limit more n [] greater fits = omega arith
Fits-more limit more n (f ∷ fs) greater fits = let here = fits.0 in (omega arith, Fits-more limit more (open_behind_form n f) fs greater fits.1)

pub Within-forms : (limit n : ℕ) (items : List Item) → Within limit n items → Fits limit n (forms_of items)
Within-forms limit n [] within = within
Within-forms limit n (i ∷ is) within = (within.0, Within-forms limit (open_behind_form n i.form) is within.1)

pub Within-items : (limit n : ℕ) (items : List Item) → Fits limit n (forms_of items) → Within limit n items
Within-items limit n [] fits = fits
Within-items limit n (i ∷ is) fits = (fits.0, Within-items limit (open_behind_form n i.form) is fits.1)

after-forms : (n : ℕ) (items : List Item) → after n (forms_of items) ≡ open_after n items
after-forms n [] = refl
after-forms n (i ∷ is) = after-forms (open_behind_form n i.form) is

-- forms behind which as many brackets are open as before them
abbrev Level : ℕ → List Form → Type 0
Level n fs = Fits 450 n fs × (after n fs ≡ n)

Level-append : (n : ℕ) (xs ys : List Form) → Level n xs → Level n ys → Level n (xs ++ ys)
Level-append n xs ys one other = (
  Fits-append 450 n xs ys one.0 (subst (λ m. Fits 450 m ys) (sym one.1) other.0),
  after-append n xs ys ∙ ap (λ m. after m ys) one.1 ∙ other.1,
)

-- what is left out of an expression opens and closes nothing
out-same : (n : ℕ) (f : Form) → not (is_newline f || is_end f) ≡ false → open_behind_form n f ≡ n
out-same n newline e = refl
out-same n end_of_text e = refl
out-same n (name w) e = cc
out-same n (number m) e = cc
out-same n (literal t) e = cc
out-same n (keyword w) e = cc
out-same n (mark w) e = cc
out-same n indent e = cc
out-same n dedent e = cc

abbrev inner : List Form → List Form
inner fs = filter (λ f. not (is_newline f || is_end f)) fs

Fits-inner : (limit n : ℕ) (fs : List Form) → Fits limit n fs → Fits limit n (inner fs)
Fits-inner limit n [] fits = fits
Fits-inner limit n (f ∷ fs) fits = by (Fits-inner limit (open_behind_form n f) fs fits.1) fits.0 (not (is_newline f || is_end f)) refl
  where
    by : Fits limit (open_behind_form n f) (inner fs) → n ≤ limit → (b : Bool) → not (is_newline f || is_end f) ≡ b → Fits limit n (cond b (f ∷ inner fs) (inner fs))
    by further here true e = (here, further)
    by further here false e = subst (λ m. Fits limit m (inner fs)) (out-same n f e) further

after-inner : (n : ℕ) (fs : List Form) → after n (inner fs) ≡ after n fs
after-inner n [] = refl
after-inner n (f ∷ fs) = by (after-inner (open_behind_form n f) fs) (not (is_newline f || is_end f)) refl
  where
    by : after (open_behind_form n f) (inner fs) ≡ after (open_behind_form n f) fs → (b : Bool) → not (is_newline f || is_end f) ≡ b
        → after n (cond b (f ∷ inner fs) (inner fs)) ≡ after (open_behind_form n f) fs
    by further true e = further
    by further false e = ap (λ m. after m (inner fs)) (sym (out-same n f e)) ∙ further

-- forms that close no bracket but their own, where more are open
shifted : (limit d n : ℕ) (fs : List Form) → ArePlain fs → closes_own n fs ≡ true → Fits limit n fs → Fits (limit + d) (n + d) fs × (after (n + d) fs ≡ after n fs + d)
shifted limit d n [] plain own fits = (omega arith, refl)
shifted limit d n (f ∷ fs) plain own fits =
    by (opens_form f) (closes_form f) (plain.0.opening) (plain.0.closing) plain.0.apart own fits.1 fits.0 (λ m o g. shifted limit d m fs plain.1 o g)
  where
    by : (o c : Bool) → opens f ≡ o → closes f ≡ c → (o && c) ≡ false
        → closes_own n (f ∷ fs) ≡ true
        → Fits limit (if o then n + 1 else if c then n - 1 else n) fs → n ≤ limit
        → ((m : ℕ) → closes_own m fs ≡ true → Fits limit m fs → Fits (limit + d) (m + d) fs × (after (m + d) fs ≡ after m fs + d))
        → (((n + d) ≤ (limit + d)) × Fits (limit + d) (if o then (n + d) + 1 else if c then (n + d) - 1 else n + d) fs)
        × (after (if o then (n + d) + 1 else if c then (n + d) - 1 else n + d) fs ≡ after (if o then n + 1 else if c then n - 1 else n) fs + d)
    by true true e g apart own fits here further = cc
    by true false e g apart own fits here further =
        let rest = further (n + 1) (rw (g, e) at own) fits in
        let same : (n + 1) + d ≡ (n + d) + 1 = omega arith in
        ((omega arith, subst (λ m. Fits (limit + d) m fs) same rest.0), ap (λ m. after m fs) (sym same) ∙ rest.1)
    by false true e g apart own fits here further =
        let both = and_parts (nat_lt 0 n) (closes_own (n - 1) fs) (rw g at own) in
        let some = ltb-true 0 n both.0 in
        let rest = further (n - 1) both.1 fits in
        let same : (n - 1) + d ≡ (n + d) - 1 = omega arith in
        ((omega arith, subst (λ m. Fits (limit + d) m fs) same rest.0), ap (λ m. after m fs) (sym same) ∙ rest.1)
    by false false e g apart own fits here further =
        let rest = further n (rw (g, e) at own) fits in
        ((omega arith, rest.0), rest.1)

-- an expression in its call, where so many brackets are open
str_call-level : (d : ℕ) (fs : List Form) → d ≤ 202 → Fits (200 + (d + 1 + 1)) (0 + (d + 1 + 1)) fs → after (0 + (d + 1 + 1)) fs ≡ 0 + (d + 1 + 1) → Level d (str_call fs)
str_call-level d fs few fits same =
    let there : 0 + (d + 1 + 1) ≡ d + 1 + 1 = omega arith in
    let ends : List Form = mark (codes ")") ∷ mark (codes ")") ∷ [] in
    let inside : Fits 450 (d + 1 + 1) fs = subst (λ m. Fits 450 m fs) there (Fits-more (200 + (d + 1 + 1)) 450 (0 + (d + 1 + 1)) fs (omega arith) fits) in
    let behind : after (d + 1 + 1) fs ≡ d + 1 + 1 = ap (λ m. after m fs) (sym there) ∙ same ∙ there in
    let back : (d + 1 + 1) - 1 - 1 ≡ d = omega arith in
    let closing : Fits 450 (d + 1 + 1) ends = (omega arith, (omega arith, omega arith)) in (
      (omega arith, (omega arith, (omega arith, Fits-append 450 (d + 1 + 1) fs ends inside (subst (λ m. Fits 450 m ends) (sym behind) closing)))),
      after-append (d + 1 + 1) fs ends ∙ ap (λ m. after m ends) behind ∙ back,
    )

-- where there is an answer, it is level
abbrev AllLevel : ℕ → Option (List Form) → Type 0
AllLevel d (Some fs) = ArePlain fs → Level d fs
AllLevel d None = Unit {0}

own-level : (d : ℕ) (r : Result (List Item) TokenFault) → d ≤ 202 → AllBalanced r → AllLevel d (option_map str_call (own_forms r))
own-level d (Err f) few all = tt
own-level d (Ok items) few all = by (closes_own 0 (kept items)) refl
  where
    by : (b : Bool) → closes_own 0 (kept items) ≡ b → AllLevel d (option_map str_call (if b then Some (kept items) else None))
    by false e = tt
    by true e = λ plain.
        let rest = (plain.1).1 in
        let own = plain-front (kept items) (mark (codes ")") ∷ mark (codes ")") ∷ []) rest.1 in
        let fits = Fits-inner 200 0 (forms_of items) (Within-forms 200 0 items all.within) in
        let closed : after 0 (kept items) ≡ 0 = after-inner 0 (forms_of items) ∙ after-forms 0 items ∙ all.closed in
        let moved = shifted 200 (d + 1 + 1) 0 (kept items) own e fits in
        str_call-level d (kept items) few moved.0 (moved.1 ∙ ap (λ n. n + (d + 1 + 1)) closed)

piece-level : (d : ℕ) (p : Piece) → d ≤ 202 → AllLevel d (piece_forms p)
piece-level d (run cs) few = λ plain. ((omega arith, omega arith), refl)
piece-level d (part cs) few = own-level d (tokens_of (trimmed cs)) few (of_text (trimmed cs))

elements-level : (d : ℕ) (comma : List Form) (ps : List Piece) → d ≤ 202 → Level d comma → AllLevel d (elements comma ps)
elements-level d comma [] few level = λ plain. (omega arith, refl)
elements-level d comma (p ∷ ps) few level =
    by (piece_forms p) (elements (mark (codes ",") ∷ []) ps) (piece-level d p few) (elements-level d (mark (codes ",") ∷ []) ps few ((omega arith, omega arith), refl))
  where
    by : (o more : Option (List Form)) → AllLevel d o → AllLevel d more → AllLevel d (option_and_then (λ forms. option_map (λ more. comma ++ (forms ++ more)) more) o)
    by None more one other = tt
    by (Some forms) None one other = tt
    by (Some forms) (Some more) one other = λ plain.
        let rest = plain-rest comma (forms ++ more) plain in
        Level-append d comma (forms ++ more) level (Level-append d forms more (one (plain-front forms more rest)) (other (plain-rest forms more rest)))

join_call-level : (d : ℕ) (fs : List Form) → d ≤ 200 → Level (d + 1 + 1) fs → Level d (join_call fs)
join_call-level d fs few level =
    let ends : List Form = mark (codes "]") ∷ mark (codes ")") ∷ [] in
    let back : (d + 1 + 1) - 1 - 1 ≡ d = omega arith in
    let closing : Fits 450 (d + 1 + 1) ends = (omega arith, (omega arith, omega arith)) in (
      (omega arith, (omega arith, (omega arith, (omega arith, (omega arith, Fits-append 450 (d + 1 + 1) fs ends level.0 (subst (λ m. Fits 450 m ends) (sym level.1) closing)))))),
      after-append (d + 1 + 1) fs ends ∙ ap (λ m. after m ends) level.1 ∙ back,
    )

literal-level : (d : ℕ) (text : List ℕ) → d ≤ 200 → AllLevel d (literal_forms text)
literal-level d text few = by (pieces_of text)
  where
    call : (o : Option (List Form)) → AllLevel (d + 1 + 1) o → AllLevel d (option_map join_call o)
    call None all = tt
    call (Some fs) all = λ plain. join_call-level d fs few (all (plain-front fs (mark (codes "]") ∷ mark (codes ")") ∷ []) (plain.1).1.1.1.1))

    by : (o : Option (List Piece)) → AllLevel d (option_map join_call (option_and_then (elements []) o))
    by None = tt
    by (Some ps) = call (elements [] ps) (elements-level (d + 1 + 1) [] ps (omega arith) (omega arith, refl))

-- items, where there is an answer
abbrev pub AllWithin : ℕ → Result (List Item) MoreFault → Type 0
AllWithin n (Ok items) = ArePlain (forms_of items) → Fits 450 n (forms_of items)
AllWithin n (Err f) = Unit {0}

abbrev LevelItems : ℕ → Result (List Item) MoreFault → Type 0
LevelItems n (Ok items) = ArePlain (forms_of items) → Level n (forms_of items)
LevelItems n (Err f) = Unit {0}

literal_items-level : (d : ℕ) (t : Item) → d ≤ 200 → LevelItems d (literal_items t)
literal_items-level d t few = by (literal_forms (text_of t.form)) (literal-level d (text_of t.form) few)
  where
    by : (o : Option (List Form)) → AllLevel d o → LevelItems d (option_map_or (λ forms. Ok (map (placed t) forms)) o (Err (fault.Format (at_line t.line))))
    by None all = tt
    by (Some fs) all = subst (λ gs. ArePlain gs → Level d gs) (sym (forms-placed t fs)) all

joined-within : (n : ℕ) (r more : Result (List Item) MoreFault) → LevelItems n r → AllWithin n more → AllWithin n (joined r more)
joined-within n (Err f) more one other = tt
joined-within n (Ok xs) (Err f) one other = tt
joined-within n (Ok xs) (Ok ys) one other =
    subst (λ gs. ArePlain gs → Fits 450 n gs) (sym (forms-append xs ys))
    (λ plain.
    let level = one (plain-front (forms_of xs) (forms_of ys) plain) in
    Fits-append 450 n (forms_of xs) (forms_of ys) level.0 (subst (λ m. Fits 450 m (forms_of ys)) (sym level.1) (other (plain-rest (forms_of xs) (forms_of ys) plain))))

front-within : (n : ℕ) (t : Item) (more : Result (List Item) MoreFault) → n ≤ 450 → AllWithin (open_behind_form n t.form) more → AllWithin n (with_front (t ∷ []) more)
front-within n t (Err f) few all = tt
front-within n t (Ok ys) few all = λ plain. (few, all plain.1)

-- a name, and a text, open and close nothing
name-same : (n : ℕ) (f : Form) → is_f f ≡ true → open_behind_form n f ≡ n
name-same n (name w) e = refl
name-same n newline e = cc
name-same n end_of_text e = cc
name-same n (number m) e = cc
name-same n (literal t) e = cc
name-same n (keyword w) e = cc
name-same n (mark w) e = cc
name-same n indent e = cc
name-same n dedent e = cc

literal-same : (n : ℕ) (f : Form) → is_literal f ≡ true → open_behind_form n f ≡ n
literal-same n (literal t) e = refl
literal-same n (name w) e = cc
literal-same n newline e = cc
literal-same n end_of_text e = cc
literal-same n (number m) e = cc
literal-same n (keyword w) e = cc
literal-same n (mark w) e = cc
literal-same n indent e = cc
literal-same n dedent e = cc

-- the text of an f-literal comes behind its name
abbrev pub IsReady : Bool → List Item → Type 0
IsReady inside items = inside ≡ true → is_literal (first_form items) ≡ true

pub ready-behind : (operand : Bool) (t : Item) (ts : List Item) → begins operand t ts ≡ true → IsReady true ts × (is_f t.form ≡ true)
ready-behind operand t ts e =
    let whole = and_parts (not operand) (is_prefix t && has_text_at t.to ts) e in
    let both = and_parts (is_prefix t) (has_text_at t.to ts) whole.1 in
    ((λ h. by ts both.1), (and_parts (t.to - t.from == 1) (is_f t.form) both.0).1)
  where
    by : (us : List Item) → has_text_at t.to us ≡ true → is_literal (first_form us) ≡ true
    by [] e = cc
    by (u ∷ us) e = (and_parts (is_literal u.form) (u.from == t.to) e).0

pub ready-not : (items : List Item) → IsReady false items
ready-not items = λ e. cc

literals-more : (operand inside : Bool) (n : ℕ) (t : Item) (ts : List Item) → IsReady inside (t ∷ ts) → Within 200 n (t ∷ ts)
    → ((operand inside : Bool) (m : ℕ) → IsReady inside ts → Within 200 m ts → AllWithin m (literals operand inside ts)) → AllWithin n (literals operand inside (t ∷ ts))
literals-more operand inside n t ts ready within further = by inside (begins operand t ts) ready refl
  where
    by : (b c : Bool) → IsReady b (t ∷ ts) → begins operand t ts ≡ c
        → AllWithin n (if b then joined (literal_items t) (literals true false ts) else if c then literals true true ts else with_front (t ∷ []) (literals (ends_operand t.form) false ts))
    by true c text e =
        joined-within n (literal_items t) (literals true false ts) (literal_items-level n t within.0)
        (further true false n (ready-not ts) (subst (λ m. Within 200 m ts) (literal-same n t.form (text refl)) within.1))
    by false true text e =
        let next = ready-behind operand t ts e in
        further true true n next.0 (subst (λ m. Within 200 m ts) (name-same n t.form next.1) within.1)
    by false false text e =
        let few = within.0 in
        front-within n t (literals (ends_operand t.form) false ts) (omega arith) (further (ends_operand t.form) false (open_behind_form n t.form) (ready-not ts) within.1)

pub literals-within : (operand inside : Bool) (n : ℕ) (items : List Item) → IsReady inside items → Within 200 n items → AllWithin n (literals operand inside items)
literals-within operand inside n [] ready within = λ plain. let few = within in omega arith
literals-within operand inside n (t ∷ ts) ready within =
    literals-more operand inside n t ts ready within (λ operand inside m ready within. literals-within operand inside m ts ready within)
