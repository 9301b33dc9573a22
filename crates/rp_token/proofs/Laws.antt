-- The tokens of every text obey the laws.
use Rattle.std.proofs.Common.{◌≡◌, refl, sym, ap, ◌∙◌, subst, cond, ℕ, zero, suc, ◌+◌, ◌-◌, ◌≤◌, ◌==◌, Bool, true, false, not, nat_lt, if◌then◌else◌, List, [], ◌∷◌, ◌++◌, length, take, drop, map, encode_utf8_all, chars, Result, Ok, Err, arith}
use Rattle.std.specs.Prelude.{pos, negsuc}
use Rattle.std.specs.List.{count_by}
use Rattle.std.specs.Result.{IfOk}
use Rattle.std.specs.Str.{IsCharBoundary, IsUtf8}
use lib.Utf8.{scalar, scalars}
use Rattle.std.proofs.lemmas.Bool.{and_parts}
use Rattle.std.proofs.lemmas.List.{length-map, take-append-drop}
use Rattle.std.proofs.lemmas.List.Sums.{sum_by-append}
use Rattle.std.proofs.Math.Seq.{drop-length}
use Rattle.std.proofs.lemmas.Str.{IsCharBoundary-at_seam, encodes-append, encodes-chars, scalars-chars}
use Rattle.std.specs.declared.alloc.Global.{Global}
use Rattle.std.specs.declared.vec.Vec.{Vec}
use Rattle.rp_token.specs.declared.fault.TokenFault.{TokenFault}
use Rattle.rp_token.specs.declared.fault.TokenFault.TheVariants as fault
use Rattle.rp_token.specs.declared.token.Token.{Token}
use Rattle.rp_token.specs.declared.token.TokenKind.{TokenKind}
use Rattle.rp_token.specs.declared.token.TokenKind.TheVariants as kind
use Rattle.rp_token.specs.Characters.{first, behind_run, is_blank}
use Rattle.rp_token.specs.Form.{Form, Item, newline, end_of_text}
use Rattle.rp_token.specs.Laws.{BlocksEnd, EndsOnce, IsWithin, LieInOrder, closes, ends_once, is_dedent, is_end, is_indent, open_behind, opens}
use Rattle.rp_token.specs.Lexer.{Gives}
use Rattle.rp_token.specs.Tokens.{State, and_then, at_line, closed_to, ending, is_inside, most_brackets, start, step, tokens_from, tokens_of, with_token, without_mark}
use Rattle.rp_token.specs.View.{form_view, item_view}
use Rattle.rp_token.proofs.LawsItems.{IsPlace, Lawful, Lawful-few, Lie, Lie-more, Within, closes_form, dedents, ends_not, indents, is_dedent_form, is_end_form, is_indent_form, open_behind_form, opens_form}
use Rattle.rp_token.proofs.LawsRules.{After, Obeys, Ready, Ready-from_Here, Obeys-on, closed_to-all, closed_to-keeps, plain-newline, step-keeps, with_token-lawful, with_token-plain}
use Rattle.rp_token.proofs.Steps.{IsBehind, behind, drop-behind, drop-difference, step-left}

-- the list ends with its only END
abbrev items_end_once : List Item → Bool
items_end_once [] = false
items_end_once (i ∷ is) = if is_end_form i.form then length is == 0 else items_end_once is

-- the laws of all tokens of a text
record AreLawful (text : List ℕ) (items : List Item) : Type 0 where
  pub lie : Lie text 0 (length (encode_utf8_all text)) items
  pub ends : items_end_once items ≡ true
  pub blocks : indents items ≡ dedents items
  pub within : Within most_brackets 0 items

ends-push : (is : List Item) (i : Item) → ends_not is ≡ true → is_end_form i.form ≡ true → items_end_once (is ++ i ∷ []) ≡ true
ends-push [] i none last = rw last refl
ends-push (j ∷ js) i none last =
    let both = and_parts (not (is_end_form j.form)) (ends_not js) none in
    by (ends-push js i both.1 last) (is_end_form j.form) both.0
  where
    by : items_end_once (js ++ i ∷ []) ≡ true → (b : Bool) → not b ≡ true → (if b then length (js ++ i ∷ []) == 0 else items_end_once (js ++ i ∷ [])) ≡ true
    by further true other = cc
    by further false other = further

-- END behind the other tokens, where no column is open
last-lawful : (text : List ℕ) (s : State) (line : ℕ) → Obeys text [] s → s.columns ≡ [] → AreLawful text (with_token end_of_text [] [] line s).items
last-lawful text s line so_far closed =
    let none = behind 0 0 [] (omega arith) in
    let columns = ap length closed in
    let whole = with_token-lawful text [] [] [] s end_of_text line [] so_far none none (omega arith) (Lawful-few text [] s.items (length s.columns) (length s.brackets) so_far.3) in
    let count = whole.blocks in
    record {
      lie = Lie-more text 0 _ (length (encode_utf8_all text)) _ (omega arith) whole.lie;
      ends = ends-push s.items _ so_far.1 refl;
      blocks = omega arith;
      within = whole.within;
    }

abbrev AllLawful : List ℕ → Result (List Item) TokenFault → Type 0
AllLawful text (Ok items) = AreLawful text items
AllLawful text (Err f) = Unit {0}

AllLawful-if : (text : List ℕ) (b : Bool) (f : TokenFault) (items : List Item) → AreLawful text items → AllLawful text (if b then Err f else Ok items)
AllLawful-if text true f items lawful = tt
AllLawful-if text false f items lawful = lawful

ending-lawful : (text : List ℕ) (s : State) → Ready text s → AllLawful text (ending s)
unfolding ending
ending-lawful text s so_far =
    let rest = behind_run is_blank s.left in
    let over : IsBehind 0 rest [] = record { count = length rest; some = omega arith; is = sym (drop-length rest) } in
    let none = behind 0 0 [] (omega arith) in
    let now = Obeys-on text rest [] s over so_far in
    AllLawful-if text (nat_lt 0 (length s.brackets)) (fault.Unclosed (at_line (first s.brackets))) _
    (by (is_inside s.stage) now (with_token-plain text [] [] [] s newline s.line now plain-newline none none))
  where
    by : (b : Bool) → Obeys text [] s → Obeys text [] (with_token newline [] [] s.line s) → AreLawful text (with_token end_of_text [] [] s.line (closed_to 0 [] s.line s.columns (if b then with_token newline [] [] s.line s else s))).items
    by true here ended =
        let t = with_token newline [] [] s.line s in
        last-lawful text (closed_to 0 [] s.line s.columns t) s.line (closed_to-keeps text 0 [] s.line s.columns t ended) (closed_to-all [] s.line s.columns t here.2)
    by false here ended = last-lawful text (closed_to 0 [] s.line s.columns s) s.line (closed_to-keeps text 0 [] s.line s.columns s here) (closed_to-all [] s.line s.columns s here.2)

-- the laws hold of the tokens so far and those to come
tokens_from-lawful : (text : List ℕ) (n : ℕ) (s : State) (cs : List ℕ) → s.left ≡ drop n cs → Ready text s → AllLawful text (tokens_from n s cs)
tokens_from-lawful text n s [] left so_far = ending-lawful text s so_far
tokens_from-lawful text (suc n) s (c ∷ cs) left so_far = tokens_from-lawful text n s cs left so_far
tokens_from-lawful text zero s (c ∷ cs) left so_far =
    by (λ n t. tokens_from-lawful text n t cs) (step (record s { left = c ∷ cs })) refl
    (step-keeps text (record s { left = c ∷ cs }) (subst (λ ds. Ready text (record s { left = ds })) left so_far))
  where
    by : ((n : ℕ) (t : State) → t.left ≡ drop n cs → Ready text t → AllLawful text (tokens_from n t cs)) → (r : Result State TokenFault) → step (record s { left = c ∷ cs }) ≡ r → After text r
        → AllLawful text (and_then r (λ t. tokens_from (length cs - length t.left) t cs))
    by further (Err f) is here = tt
    by further (Ok t) is here =
        let less = step-left (record s { left = c ∷ cs }) t (omega arith) is in
        let rest : t.left ≡ drop (less.count - 1) cs = less.is ∙ drop-behind less.count c cs less.some in
        further (length cs - length t.left) t (rest ∙ sym ((λ k. drop (length cs - length (rest k)) cs) ∙ drop-difference (less.count - 1) cs)) (Ready-from_Here text t here)

pub without_mark-behind : (text : List ℕ) → IsBehind 0 text (without_mark text)
without_mark-behind text = by (first text == 0xFEFF)
  where
    by : (b : Bool) → IsBehind 0 text (if b then drop 1 text else text)
    by true = behind 0 1 text (omega arith)
    by false = behind 0 0 text (omega arith)

-- the items of a text obey the laws
of_text : (text : List ℕ) → AllLawful text (tokens_of text)
of_text text =
    let some : Lawful text (without_mark text) [] 0 0 = record {
      behind = without_mark-behind text;
      lie = omega arith;
      blocks = refl;
      opened = refl;
      within = omega arith;
    } in
    tokens_from-lawful text 0 (start text) (without_mark text) refl (Ready-from_Here text (start text) (refl, refl, refl, some))

-- what the laws say of a token is what they say of its item
abbrev SaysSame : Form → TokenKind → Type 0
SaysSame f k = (is_end_form f ≡ is_end k) × (is_indent_form f ≡ is_indent k) × (is_dedent_form f ≡ is_dedent k) × (opens_form f ≡ opens k) × (closes_form f ≡ closes k)

says_same : (names : List (List ℕ)) (k : TokenKind) → SaysSame (form_view names k) k
says_same names (kind.Int (pos n)) = (refl, refl, refl, refl, refl)
says_same names (kind.Int (negsuc n)) = (refl, refl, refl, refl, refl)
says_same names _ = (refl, refl, refl, refl, refl)

ends-tokens : (names : List (List ℕ)) (ts : List Token) → items_end_once (map (item_view names) ts) ≡ ends_once ts
ends-tokens names [] = refl
ends-tokens names (t ∷ ts) =
    λ k. if (says_same names t.kind).0 k then length-map ts (item_view names) k == 0 else ends-tokens names ts k

count-tokens : (names : List (List ℕ)) (p : Form → Bool) (q : TokenKind → Bool) (ts : List Token) → ((k : TokenKind) → p (form_view names k) ≡ q k)
    → count_by (λ (i : Item). p i.form) (map (item_view names) ts) ≡ count_by (λ (t : Token). q t.kind) ts
count-tokens names p q [] same = refl
count-tokens names p q (t ∷ ts) same =
    sum_by-append (λ (i : Item). cond (p i.form) 1 0) (item_view names t ∷ []) (map (item_view names) ts)
    ∙ (λ k. (0 + cond (same t.kind k) 1 0) + count-tokens names p q ts same k) ∙ sym (sum_by-append (λ (u : Token). cond (q u.kind) 1 0) (t ∷ []) ts)

within-tokens : (names : List (List ℕ)) (limit n : ℕ) (ts : List Token) → Within limit n (map (item_view names) ts) → IsWithin limit n ts
within-tokens names limit n [] within = within
within-tokens names limit n (t ∷ ts) within =
    let same = says_same names t.kind in
    let opened : open_behind_form n (form_view names t.kind) ≡ open_behind n t.kind = λ k. if same.3 k then n + 1 else if same.4 k then n - 1 else n in (
      within.0,
      within-tokens names limit (open_behind n t.kind) ts (subst (λ m. Within limit m (map (item_view names) ts)) opened within.1),
    )

pub scalars-drop : (n : ℕ) (cs : List ℕ) → scalars cs ≡ true → scalars (drop n cs) ≡ true
scalars-drop zero cs all = all
scalars-drop (suc n) [] all = all
scalars-drop (suc n) (c ∷ cs) all = scalars-drop n cs (and_parts (scalar c) (scalars cs) all).1

-- the bytes of some characters at the front reach to a boundary
boundary : (bs : List ℕ) (p : ℕ) → IsUtf8 bs → IsPlace (chars bs) p → IsCharBoundary bs p
boundary bs p text place =
    let front = take place.count (chars bs) in
    let rest = drop place.count (chars bs) in
    let seam : bs ≡ encode_utf8_all front ++ encode_utf8_all rest =
    sym (encodes-chars bs text) ∙ ap encode_utf8_all (sym (take-append-drop place.count (chars bs))) ∙ encodes-append front rest in
    subst (IsCharBoundary bs) (sym place.is) (IsCharBoundary-at_seam bs (encode_utf8_all front) (encode_utf8_all rest) seam (rest, (scalars-drop place.count (chars bs) (scalars-chars bs text), refl)))

lie-tokens : (names : List (List ℕ)) (bs : List ℕ) (least : ℕ) (ts : List Token) → IsUtf8 bs → Lie (chars bs) least (length (encode_utf8_all (chars bs))) (map (item_view names) ts) → LieInOrder bs least ts
lie-tokens names bs least [] text lie = let bytes = ap length (encodes-chars bs text) in omega arith
lie-tokens names bs least (t ∷ ts) text lie = (lie.0, lie.1, boundary bs t.from text lie.2, boundary bs t.to text lie.3, lie-tokens names bs t.to ts text lie.4)

-- the laws of the tokens of a text
pub record Laws (bs : List ℕ) (ts : List Token) : Type 0 where
  pub ends : EndsOnce ts
  pub order : LieInOrder bs 0 ts
  pub blocks : BlocksEnd ts
  pub brackets : IsWithin 200 0 ts

pub laws : (names : List (List ℕ)) (bs : List ℕ) (r : Result (Vec Token Global) TokenFault) → IsUtf8 bs → Gives names (tokens_of (chars bs)) r → IfOk r (λ found. Laws bs found.items)
laws names bs (Err f) text given = tt
laws names bs (Ok found) text given =
    let items = subst (AllLawful (chars bs)) given (of_text (chars bs)) in
    let begun = count-tokens names is_indent_form is_indent found.items (λ k. (says_same names k).1) in
    let ended = count-tokens names is_dedent_form is_dedent found.items (λ k. (says_same names k).2) in
    record {
      ends = sym (ends-tokens names found.items) ∙ items.ends;
      order = lie-tokens names bs 0 found.items text items.lie;
      blocks = sym begun ∙ items.blocks ∙ ended;
      brackets = within-tokens names 200 0 found.items items.within;
    }

-- one of the laws
pub law : (r : Result (Vec Token Global) TokenFault) (bs : List ℕ) (P : List Token → Type 0) → ((ts : List Token) → Laws bs ts → P ts) → IfOk r (λ found. Laws bs found.items) → IfOk r (λ found. P found.items)
law (Ok found) bs P says all = says found.items all
law (Err f) bs P says all = tt

-- a greater limit
pub IsWithin-more : (limit more n : ℕ) (ts : List Token) → limit ≤ more → IsWithin limit n ts → IsWithin more n ts
IsWithin-more limit more n [] greater within = omega arith
IsWithin-more limit more n (t ∷ ts) greater within = let here = within.0 in (omega arith, IsWithin-more limit more (open_behind n t.kind) ts greater within.1)
