-- What is written out ends with its only END, where the tokens given do.
use Rattle.std.proofs.Common.{◌≡◌, refl, sym, ◌∙◌, subst, cond, ℕ, ◌==◌, Bool, true, false, ◌&&◌, ◌||◌, not, if◌then◌else◌, filter, List, [], ◌∷◌, ◌++◌, length, map, codes, Option, Some, None, Result, Ok, Err, arith}
use Rattle.std.specs.List.{list_all}
use Rattle.std.specs.Option.{option_map, option_and_then, option_map_or}
use Rattle.std.proofs.lemmas.Bool.{and_parts, eqb-true}
use Rattle.std.proofs.lemmas.List.{length-map}
use Rattle.std.proofs.lemmas.List.Folds.{list_all-append}
use Rattle.rp_token.specs.Form.{Form, Item, name, number, literal, keyword, mark, newline, indent, dedent, end_of_text}
use Rattle.rp_token.specs.Laws.{ends_once}
use Rattle.rp_token.specs.Tokens.{at_line, tokens_of}
use Rattle.rp_token.specs.View.{form_view, item_view}
use Rattle.std.specs.Prelude.{pos, negsuc}
use Rattle.rp_token.specs.declared.fault.TokenFault.{TokenFault}
use Rattle.rp_token.specs.declared.token.Token.{Token}
use Rattle.rp_token.specs.declared.token.TokenKind.{TokenKind}
use Rattle.rp_token.specs.declared.token.TokenKind.TheVariants as kind
use Rattle.rp_token.specs.Laws as laws
use Rattle.rp_more.specs.declared.fault.MoreFault.{MoreFault}
use Rattle.rp_more.specs.declared.fault.MoreFault.TheVariants as fault
use Rattle.rp_more.specs.Expression.{closes_own, kept, own_forms, trimmed}
use Rattle.rp_more.specs.Forms.{ends_operand, is_end, is_literal, is_newline, placed, text_of}
use Rattle.rp_more.specs.Literals.{begins, elements, is_f, join_call, joined, literal_forms, literal_items, literals, piece_forms, str_call, with_front}
use Rattle.rp_more.specs.Pieces.{Piece, run, part, pieces_of}
use Rattle.rp_more.proofs.Depth.{IsReady, ready-behind, ready-not}

-- the list ends with its only END
abbrev pub items_end : List Item → Bool
items_end [] = false
items_end (i ∷ is) = if is_end i.form then length is == 0 else items_end is

-- none of the forms is END
abbrev none_ends : List Form → Bool
none_ends fs = list_all (λ f. not (is_end f)) fs

none-append : (xs ys : List Form) → none_ends xs ≡ true → none_ends ys ≡ true → none_ends (xs ++ ys) ≡ true
none-append xs ys e f = list_all-append (λ g. not (is_end g)) xs ys ∙ (λ k. e k && f k)

-- an answer has no END
abbrev NoneEnds : Option (List Form) → Type 0
NoneEnds (Some fs) = none_ends fs ≡ true
NoneEnds None = Unit {0}

inner-none : (fs : List Form) → none_ends (filter (λ f. not (is_newline f || is_end f)) fs) ≡ true
inner-none [] = refl
inner-none (f ∷ fs) = by (inner-none fs) f
  where
    rest : List Form
    rest = filter (λ f. not (is_newline f || is_end f)) fs

    by : none_ends rest ≡ true → (f : Form) → none_ends (cond (not (is_newline f || is_end f)) (f ∷ rest) rest) ≡ true
    by further newline = further
    by further end_of_text = further
    by further (name w) = further
    by further (number m) = further
    by further (literal t) = further
    by further (keyword w) = further
    by further (mark w) = further
    by further indent = further
    by further dedent = further

own-none : (r : Result (List Item) TokenFault) → NoneEnds (option_map str_call (own_forms r))
own-none (Err f) = tt
own-none (Ok items) = by (closes_own 0 (kept items))
  where
    by : (b : Bool) → NoneEnds (option_map str_call (if b then Some (kept items) else None))
    by false = tt
    by true = none-append (kept items) (mark (codes ")") ∷ mark (codes ")") ∷ []) (inner-none (map (λ (t : Item). t.form) items)) refl

piece-none : (p : Piece) → NoneEnds (piece_forms p)
piece-none (run cs) = refl
piece-none (part cs) = own-none (tokens_of (trimmed cs))

elements-none : (comma : List Form) (ps : List Piece) → none_ends comma ≡ true → NoneEnds (elements comma ps)
elements-none comma [] none = refl
elements-none comma (p ∷ ps) none = by (piece_forms p) (elements (mark (codes ",") ∷ []) ps) (piece-none p) (elements-none (mark (codes ",") ∷ []) ps refl)
  where
    by : (o more : Option (List Form)) → NoneEnds o → NoneEnds more → NoneEnds (option_and_then (λ forms. option_map (λ more. comma ++ (forms ++ more)) more) o)
    by None more one other = tt
    by (Some forms) None one other = tt
    by (Some forms) (Some more) one other = none-append comma (forms ++ more) none (none-append forms more one other)

literal-none : (text : List ℕ) → NoneEnds (literal_forms text)
literal-none text = by (pieces_of text)
  where
    call : (o : Option (List Form)) → NoneEnds o → NoneEnds (option_map join_call o)
    call None all = tt
    call (Some fs) all = none-append fs (mark (codes "]") ∷ mark (codes ")") ∷ []) all refl

    by : (o : Option (List Piece)) → NoneEnds (option_map join_call (option_and_then (elements []) o))
    by None = tt
    by (Some ps) = call (elements [] ps) (elements-none [] ps refl)

-- items without END before others
placed-ends : (t : Item) (fs : List Form) (more : List Item) → none_ends fs ≡ true → items_end (map (placed t) fs ++ more) ≡ items_end more
placed-ends t [] more none = refl
placed-ends t (f ∷ fs) more none =
    let both = and_parts (not (is_end f)) (none_ends fs) none in
    by (is_end f) both.0 ∙ placed-ends t fs more both.1
  where
    by : (b : Bool) → not b ≡ true → (if b then length (map (placed t) fs ++ more) == 0 else items_end (map (placed t) fs ++ more)) ≡ items_end (map (placed t) fs ++ more)
    by true e = cc
    by false e = refl

-- where there is an answer, it ends so
abbrev pub AllEnd : Result (List Item) MoreFault → Type 0
AllEnd (Ok items) = items_end items ≡ true
AllEnd (Err f) = Unit {0}

joined-ends : (t : Item) (o : Option (List Form)) (more : Result (List Item) MoreFault) → NoneEnds o → AllEnd more
    → AllEnd (joined (option_map_or (λ forms. Ok (map (placed t) forms)) o (Err (fault.Format (at_line t.line)))) more)
joined-ends t None more none ends = tt
joined-ends t (Some fs) (Err f) none ends = tt
joined-ends t (Some fs) (Ok items) none ends = placed-ends t fs items none ∙ ends

front-ends : (t : Item) (more : Result (List Item) MoreFault) → is_end t.form ≡ false → AllEnd more → AllEnd (with_front (t ∷ []) more)
front-ends t (Err f) other ends = tt
front-ends t (Ok items) other ends = rw other ends

-- a name, and a text, is no END
name-not : (f : Form) → is_f f ≡ true → is_end f ≡ false
name-not end_of_text e = cc
name-not (name w) e = refl
name-not newline e = refl
name-not (number m) e = refl
name-not (literal t) e = refl
name-not (keyword w) e = refl
name-not (mark w) e = refl
name-not indent e = refl
name-not dedent e = refl

literal-not : (f : Form) → is_literal f ≡ true → is_end f ≡ false
literal-not end_of_text e = cc
literal-not (name w) e = refl
literal-not newline e = refl
literal-not (number m) e = refl
literal-not (literal t) e = refl
literal-not (keyword w) e = refl
literal-not (mark w) e = refl
literal-not indent e = refl
literal-not dedent e = refl

behind-ends : (t : Item) (ts : List Item) → is_end t.form ≡ false → items_end (t ∷ ts) ≡ true → items_end ts ≡ true
behind-ends t ts other ends = rw other at ends

-- END is the last
last-none : (t : Item) (ts : List Item) → is_end t.form ≡ true → items_end (t ∷ ts) ≡ true → ts ≡ []
last-none t ts e ends = by ts (rw e at ends)
  where
    by : (us : List Item) → (length us == 0) ≡ true → us ≡ []
    by [] e = refl
    by (u ∷ us) e = let none : length (u ∷ us) ≡ 0 = eqb-true (length (u ∷ us)) 0 e in absurd (omega arith)

last-ends : (t : Item) (ts : List Item) (operand : Bool) → is_end t.form ≡ true → ts ≡ [] → AllEnd (with_front (t ∷ []) (literals operand false ts))
last-ends t ts operand e none = subst (λ us. AllEnd (with_front (t ∷ []) (literals operand false us))) (sym none) (rw e refl)

literals-more : (operand inside : Bool) (t : Item) (ts : List Item) → IsReady inside (t ∷ ts) → items_end (t ∷ ts) ≡ true
    → ((operand inside : Bool) → IsReady inside ts → items_end ts ≡ true → AllEnd (literals operand inside ts)) → AllEnd (literals operand inside (t ∷ ts))
literals-more operand inside t ts ready ends further = by inside (begins operand t ts) ready refl
  where
    kept_on : (e : Bool) → is_end t.form ≡ e → AllEnd (with_front (t ∷ []) (literals (ends_operand t.form) false ts))
    kept_on true e = last-ends t ts (ends_operand t.form) e (last-none t ts e ends)
    kept_on false e = front-ends t (literals (ends_operand t.form) false ts) e (further (ends_operand t.form) false (ready-not ts) (behind-ends t ts e ends))

    by : (b c : Bool) → IsReady b (t ∷ ts) → begins operand t ts ≡ c
        → AllEnd (if b then joined (literal_items t) (literals true false ts) else if c then literals true true ts else with_front (t ∷ []) (literals (ends_operand t.form) false ts))
    by true c text e =
        joined-ends t (literal_forms (text_of t.form)) (literals true false ts) (literal-none (text_of t.form))
        (further true false (ready-not ts) (behind-ends t ts (literal-not t.form (text refl)) ends))
    by false true text e =
        let next = ready-behind operand t ts e in
        further true true next.0 (behind-ends t ts (name-not t.form next.1) ends)
    by false false text e = kept_on (is_end t.form) refl

pub literals-end : (operand inside : Bool) (items : List Item) → IsReady inside items → items_end items ≡ true → AllEnd (literals operand inside items)
literals-end operand inside [] ready ends = cc
literals-end operand inside (t ∷ ts) ready ends = literals-more operand inside t ts ready ends (λ operand inside ready ends. literals-end operand inside ts ready ends)

is_end-same : (names : List (List ℕ)) (k : TokenKind) → is_end (form_view names k) ≡ laws.is_end k
is_end-same names (kind.Int (pos n)) = refl
is_end-same names (kind.Int (negsuc n)) = refl
is_end-same names k = refl

pub ends-tokens : (names : List (List ℕ)) (ts : List Token) → items_end (map (item_view names) ts) ≡ ends_once ts
ends-tokens names [] = refl
ends-tokens names (t ∷ ts) = λ k. if is_end-same names t.kind k then length-map ts (item_view names) k == 0 else ends-tokens names ts k
