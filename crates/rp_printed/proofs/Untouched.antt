-- What tokens have to be for expansion to leave them: no name stands directly before a text, and each `{` is closed
-- at once or has a `:` of its own. How that goes on from what stands behind some tokens to these.
use Rattle.std.proofs.Common.{◌≡◌, refl, sym, ap, ◌∙◌, subst, ℕ, zero, suc, Bool, true, false, ◌&&◌, ◌||◌, not}
use Rattle.std.proofs.Common.{if◌then◌else◌, true≢false, List, [], ◌∷◌, Some}
use Rattle.std.proofs.lemmas.Bool.{and_parts}
use Rattle.rp_base.specs.declared.operator.BinOp.{BinOp}
use Rattle.rp_base.specs.declared.operator.CmpOp.{CmpOp}
use Rattle.rp_base.specs.declared.operator.UnOp.{UnOp}
use Rattle.rp_base.specs.declared.value.Name.{Name}
use Rattle.rp_grammar.specs.Kinds.{Tokens, augmented_of, binary_of, first, order_of, skip, unary_of}
use Rattle.rp_more.specs.KindSteps.{is_colon, is_left_brace}
use Rattle.rp_token.specs.Laws.{closes, opens}
use Rattle.rp_token.specs.declared.token.TokenKind.{TokenKind}
use Rattle.rp_token.specs.declared.token.TokenKind.TheVariants as kind

-- ---- kinds

abbrev pub is_name : TokenKind → Bool
is_name (kind.Name n) = true
is_name k = false

abbrev pub is_text : TokenKind → Bool
is_text (kind.Text t) = true
is_text k = false

-- neither a bracket nor a name nor a text
abbrev pub is_plain : TokenKind → Bool
is_plain k = not (closes k) && not (opens k) && not (is_name k) && not (is_text k)

not-true : (b : Bool) → not b ≡ true → b ≡ false
not-true true e = sym e
not-true false e = refl

record IsPlain (k : TokenKind) : Type 0 where
  no_closing : closes k ≡ false
  no_opening : opens k ≡ false
  no_name : is_name k ≡ false
  no_text : is_text k ≡ false

plain_parts : (k : TokenKind) → is_plain k ≡ true → IsPlain k
plain_parts k e =
    let all = and_parts (not (closes k) && not (opens k) && not (is_name k)) (not (is_text k)) e in
    let middle = and_parts (not (closes k) && not (opens k)) (not (is_name k)) all.0 in
    let brackets = and_parts (not (closes k)) (not (opens k)) middle.0 in
    record {
      no_closing = not-true (closes k) brackets.0;
      no_opening = not-true (opens k) brackets.1;
      no_name = not-true (is_name k) middle.1;
      no_text = not-true (is_text k) all.1;
    }

-- what opens no bracket is no `{`
brace_opens : (k : TokenKind) → opens k ≡ false → is_left_brace k ≡ false
brace_opens kind.LeftBrace e = e
brace_opens k e = refl

pub binary_plain : (k : TokenKind) (o : BinOp) → binary_of k ≡ Some o → is_plain k ≡ true
binary_plain (kind.Name n) o h = absurd cc
binary_plain (kind.Text t) o h = absurd cc
binary_plain kind.LeftParen o h = absurd cc
binary_plain kind.LeftBracket o h = absurd cc
binary_plain kind.LeftBrace o h = absurd cc
binary_plain kind.RightParen o h = absurd cc
binary_plain kind.RightBracket o h = absurd cc
binary_plain kind.RightBrace o h = absurd cc
binary_plain k o h = refl

pub unary_plain : (k : TokenKind) (o : UnOp) → unary_of k ≡ Some o → is_plain k ≡ true
unary_plain (kind.Name n) o h = absurd cc
unary_plain (kind.Text t) o h = absurd cc
unary_plain kind.LeftParen o h = absurd cc
unary_plain kind.LeftBracket o h = absurd cc
unary_plain kind.LeftBrace o h = absurd cc
unary_plain kind.RightParen o h = absurd cc
unary_plain kind.RightBracket o h = absurd cc
unary_plain kind.RightBrace o h = absurd cc
unary_plain k o h = refl

pub order_plain : (k : TokenKind) (o : CmpOp) → order_of k ≡ Some o → is_plain k ≡ true
order_plain (kind.Name n) o h = absurd cc
order_plain (kind.Text t) o h = absurd cc
order_plain kind.LeftParen o h = absurd cc
order_plain kind.LeftBracket o h = absurd cc
order_plain kind.LeftBrace o h = absurd cc
order_plain kind.RightParen o h = absurd cc
order_plain kind.RightBracket o h = absurd cc
order_plain kind.RightBrace o h = absurd cc
order_plain k o h = refl

pub augmented_plain : (k : TokenKind) (o : BinOp) → augmented_of k ≡ Some o → is_plain k ≡ true
augmented_plain (kind.Name n) o h = absurd cc
augmented_plain (kind.Text t) o h = absurd cc
augmented_plain kind.LeftParen o h = absurd cc
augmented_plain kind.LeftBracket o h = absurd cc
augmented_plain kind.LeftBrace o h = absurd cc
augmented_plain kind.RightParen o h = absurd cc
augmented_plain kind.RightBracket o h = absurd cc
augmented_plain kind.RightBrace o h = absurd cc
augmented_plain k o h = refl

-- ---- tokens

-- where one bracket less is open; none where none is
abbrev pub closed : ℕ → (ℕ → Bool) → Bool
closed zero more = false
closed (suc n) more = more n

abbrev pub here : ℕ → Bool → Bool
here zero b = b
here (suc n) b = false

-- where so many brackets were opened, a `:` stands within none of them, before what was open before them is closed
abbrev pub has_colon : ℕ → Tokens → Bool
has_colon n [] = false
has_colon n (t ∷ ts) =
    if closes t.kind then closed n (λ m. has_colon m ts) else if opens t.kind then has_colon (suc n) ts
    else (here n (is_colon t.kind) || has_colon n ts)

-- what stands behind `{` is no set
abbrev pub IsNoSet : Tokens → Type 0
IsNoSet ts = (closes (first ts) || has_colon 0 ts) ≡ true

-- no f-literal and no set begins among the tokens, where the one before them is a name, or is not
abbrev pub AreUntouched : Bool → Tokens → Type 0
AreUntouched named [] = Unit {0}
AreUntouched named (t ∷ ts) =
    ((named && is_text t.kind) ≡ false) × (is_left_brace t.kind ≡ true → IsNoSet ts) × AreUntouched (is_name t.kind) ts

loosened : (ts : Tokens) → AreUntouched true ts → AreUntouched false ts
loosened [] all = tt
loosened (t ∷ ts) all = (refl, all.1, all.2)

-- From what stands behind some tokens, behind a name or not, to these and what stands behind them: a `:` stays where it
-- is seen, and so does that nothing is touched.
pub record Goes (before : Bool) (ts : Tokens) (behind : Bool) (us : Tokens) : Type 0 where
  pub seen : (n : ℕ) → has_colon n us ≡ true → has_colon n ts ≡ true
  pub untouched : AreUntouched behind us → AreUntouched before ts

pub stays : (b : Bool) (ts : Tokens) → Goes b ts b ts
stays b ts = record { seen = λ n h. h; untouched = λ all. all }

-- nothing, behind what is no name
pub nothing : (ts : Tokens) → Goes false ts true ts
nothing ts = record { seen = λ n h. h; untouched = loosened ts }

infixl 50 ◌▹◌
pub ◌▹◌ : {b c d : Bool} {ts us vs : Tokens} → Goes b ts c us → Goes c us d vs → Goes b ts d vs
p ▹ q = record { seen = λ n h. p.seen n (q.seen n h); untouched = λ all. p.untouched (q.untouched all) }

-- behind what is no name
pub front : {b : Bool} {ts us : Tokens} → Goes true ts b us → Goes false ts b us
front {ts = ts} p = record { seen = p.seen; untouched = λ all. loosened ts (p.untouched all) }

-- before what is no text
pub back : {b : Bool} {ts us : Tokens} → Goes b ts false us → Goes b ts true us
back {us = us} p = record { seen = p.seen; untouched = λ all. p.untouched (loosened us all) }

pub within : {ts us : Tokens} → Goes true ts false us → Goes false ts true us
within p = front (back p)

-- ---- one token

or_true : (b : Bool) → (b || true) ≡ true
or_true true = refl
or_true false = refl

seen_past : (k : TokenKind) (ts : Tokens) → first ts ≡ k → closes k ≡ false → opens k ≡ false → (n : ℕ)
    → has_colon n (skip ts) ≡ true → has_colon n ts ≡ true
seen_past k [] e c o n h = h
seen_past k (t ∷ ts) e c o n h =
    (λ i. if (ap closes e ∙ c) i then closed n (λ m. has_colon m ts) else if (ap opens e ∙ o) i then has_colon
    (suc n) ts
    else (here n (is_colon t.kind) || h i))
    ∙ or_true (here n (is_colon t.kind))

past : {b : Bool} (k : TokenKind) (ts : Tokens) → first ts ≡ k → is_text k ≡ false → is_name k ≡ b
    → (is_left_brace k ≡ true → IsNoSet (skip ts)) → AreUntouched b (skip ts) → AreUntouched true ts
past k [] e text name brace all = tt
past k (t ∷ ts) e text name brace all = (
  ap is_text e ∙ text,
  λ h. brace (sym (ap is_left_brace e) ∙ h),
  subst (λ (b : Bool). AreUntouched b ts) (sym (ap is_name e ∙ name)) all,
)

no_brace : (k : TokenKind) (ts : Tokens) → opens k ≡ false → is_left_brace k ≡ true → IsNoSet ts
no_brace k ts o h = absurd (true≢false (sym h ∙ brace_opens k o))

-- a token that is neither a bracket nor a name nor a text
pub plain_goes : {k : TokenKind} (ts : Tokens) → first ts ≡ k → is_plain k ≡ true → Goes true ts false (skip ts)
plain_goes {k = k} ts e plain =
    let p = plain_parts k plain in
    record {
      seen = seen_past k ts e p.no_closing p.no_opening;
      untouched = past k ts e p.no_text p.no_name (no_brace k (skip ts) p.no_opening);
    }

pub name_goes : {n : Name} (ts : Tokens) → first ts ≡ kind.Name n → Goes true ts true (skip ts)
name_goes {n = n} ts e = record {
  seen = seen_past (kind.Name n) ts e refl refl;
  untouched = past (kind.Name n) ts e refl refl (no_brace (kind.Name n) (skip ts) refl);
}

pub text_goes : {s : List ℕ} (ts : Tokens) → first ts ≡ kind.Text s → Goes false ts false (skip ts)
text_goes {s = s} ts e = record { seen = seen_past (kind.Text s) ts e refl refl; untouched = text_past ts e }
  where
    text_past : (ts : Tokens) → first ts ≡ kind.Text s → AreUntouched false (skip ts) → AreUntouched false ts
    text_past [] e all = tt
    text_past (t ∷ ts) e all = (
      refl,
      λ h. absurd (true≢false (sym h ∙ ap is_left_brace e)),
      subst (λ (b : Bool). AreUntouched b ts) (sym (ap is_name e)) all,
    )

-- ---- what stands in brackets

seen_opened : (k : TokenKind) (ts : Tokens) → first ts ≡ k → closes k ≡ false → opens k ≡ true → (n : ℕ)
    → has_colon (suc n) (skip ts) ≡ true → has_colon n ts ≡ true
seen_opened k [] e c o n h = h
seen_opened k (t ∷ ts) e c o n h =
    (λ i. if (ap closes e ∙ c) i then closed n (λ m. has_colon m ts) else if (ap opens e ∙ o) i then has_colon
    (suc n) ts
    else (here n (is_colon t.kind) || has_colon n ts))
    ∙ h

seen_closed : (k : TokenKind) (us : Tokens) → first us ≡ k → closes k ≡ true → (n : ℕ) → has_colon n (skip us) ≡ true
    → has_colon (suc n) us ≡ true
seen_closed k [] e c n h = h
seen_closed k (u ∷ us) e c n h =
    (λ i. if (ap closes e ∙ c) i then has_colon n us else if opens u.kind then has_colon (suc (suc n)) us
    else (false || has_colon (suc n) us))
    ∙ h

-- brackets of these kinds
record IsPair (o c : TokenKind) : Type 0 where
  opens_one : opens o ≡ true
  no_closing : closes o ≡ false
  open_text : is_text o ≡ false
  open_name : is_name o ≡ false
  closes_one : closes c ≡ true
  no_opening : opens c ≡ false
  close_text : is_text c ≡ false
  close_name : is_name c ≡ false

enclosed : (o c : TokenKind) (ts us : Tokens) → IsPair o c → first ts ≡ o → first us ≡ c
    → (is_left_brace o ≡ true → IsNoSet (skip ts)) → Goes false (skip ts) true us → Goes true ts false (skip us)
enclosed o c ts us pair e f brace p = record {
  seen = λ n h. seen_opened o ts e pair.no_closing pair.opens_one n
      (p.seen (suc n) (seen_closed c us f pair.closes_one n h));
  untouched = λ all. past o ts e pair.open_text pair.open_name brace
      (p.untouched (past c us f pair.close_text pair.close_name (no_brace c (skip us) pair.no_opening) all));
}

pub in_parentheses : (ts us : Tokens) → first ts ≡ kind.LeftParen → Goes false (skip ts) true us
    → first us ≡ kind.RightParen → Goes true ts false (skip us)
in_parentheses ts us e p f =
    enclosed kind.LeftParen kind.RightParen ts us (record {
      opens_one = refl;
      no_closing = refl;
      open_text = refl;
      open_name = refl;
      closes_one = refl;
      no_opening = refl;
      close_text = refl;
      close_name = refl;
    }) e f (λ h. absurd (true≢false (sym h))) p

pub in_brackets : (ts us : Tokens) → first ts ≡ kind.LeftBracket → Goes false (skip ts) true us
    → first us ≡ kind.RightBracket → Goes true ts false (skip us)
in_brackets ts us e p f =
    enclosed kind.LeftBracket kind.RightBracket ts us (record {
      opens_one = refl;
      no_closing = refl;
      open_text = refl;
      open_name = refl;
      closes_one = refl;
      no_opening = refl;
      close_text = refl;
      close_name = refl;
    }) e f (λ h. absurd (true≢false (sym h))) p

-- braces, where these are no set
pub in_braces : (ts us : Tokens) → first ts ≡ kind.LeftBrace → IsNoSet (skip ts) → Goes false (skip ts) true us
    → first us ≡ kind.RightBrace → Goes true ts false (skip us)
in_braces ts us e none p f =
    enclosed kind.LeftBrace kind.RightBrace ts us (record {
      opens_one = refl;
      no_closing = refl;
      open_text = refl;
      open_name = refl;
      closes_one = refl;
      no_opening = refl;
      close_text = refl;
      close_name = refl;
    }) e f (λ h. none) p

-- ---- no set: it has a `:`, or is closed at once

colon_here : (us : Tokens) → first us ≡ kind.Colon → has_colon 0 us ≡ true
colon_here [] e = absurd cc
colon_here (u ∷ us) e = subst
    (λ (k : TokenKind). (if closes k then false else if opens k then has_colon (suc 0) us
    else (is_colon k || has_colon 0 us)) ≡ true) (sym e) refl

pub before_colon : {b c : Bool} (ts us : Tokens) → Goes b ts c us → first us ≡ kind.Colon → IsNoSet ts
before_colon ts us p e = (λ i. closes (first ts) || p.seen 0 (colon_here us e) i) ∙ or_true (closes (first ts))

pub closed_at_once : (ts : Tokens) → first ts ≡ kind.RightBrace → IsNoSet ts
closed_at_once ts e = ap (λ (k : TokenKind). closes k || has_colon 0 ts) e
