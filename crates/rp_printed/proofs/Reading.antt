-- How a printed text is read, wherever it stands: which tokens it adds, and what they spell.
use Rattle.std.proofs.Common.{◌≡◌, refl, sym, ap, ◌∙◌, subst, ℕ, zero, suc, ◌<◌, ◌≤◌, true, false, List, []}
use Rattle.std.proofs.Common.{◌∷◌, ◌++◌, length, map, codes, pos, negsuc, Result, Ok, Err, append_assoc, append-nil}
use Rattle.std.proofs.Common.{arith}
use Rattle.std.proofs.lemmas.Bool.{and_parts}
use Rattle.std.proofs.lemmas.List.{map-append}
use lib.Utf8.{scalar, scalars}
use Rattle.rp_base.specs.Identifier.{IsIdentifier}
use Rattle.rp_base.specs.Keyword.{is_keyword}
use Rattle.rp_base.specs.Names.{word_of}
use Rattle.rp_base.specs.declared.value.Name.{Name}
use Rattle.rp_grammar.specs.Kinds.{Tokens, first, skip}
use Rattle.rp_print.specs.Texts.{◌⧺◌}
use Rattle.rp_token.specs.declared.fault.TokenFault.{TokenFault}
use Rattle.rp_token.specs.declared.token.TokenKind.{TokenKind}
use Rattle.rp_token.specs.declared.token.TokenKind.TheVariants as kind
use Rattle.rp_token.specs.Form.{Form, Item}
use Rattle.rp_token.specs.Number.{greatest_number}
use Rattle.rp_token.specs.Tokens.{State, begun, indented, is_fresh, place, start, step, taken, tokens_from}
use Rattle.rp_token.specs.View.{form_view, item_view}
use Rattle.rp_token.proofs.Steps.{tokens_from-step}

-- ---- tokens that a text may have

-- an identifier in its form that is no keyword
pub record IsGoodWord (word : List ℕ) : Type 0 where
  pub identifier : IsIdentifier word
  pub plain : is_keyword word ≡ false
  pub letters : scalars word ≡ true

pub record IsGoodName (words : List (List ℕ)) (n : Name) : Type 0 where
  pub held : n.0 < length words
  pub good : IsGoodWord (word_of words n)

abbrev pub IsGoodKind : List (List ℕ) → TokenKind → Type 0
IsGoodKind words (kind.Name n) = IsGoodName words n
IsGoodKind words (kind.Int (pos n)) = n ≤ greatest_number
IsGoodKind words (kind.Int (negsuc n)) = ⊥
IsGoodKind words (kind.Text t) = scalars t ≡ true
IsGoodKind words _ = Unit {0}

abbrev pub AreGood : List (List ℕ) → Tokens → Type 0
AreGood words [] = Unit {0}
AreGood words (t ∷ ts) = IsGoodKind words t.kind × AreGood words ts

pub good-append : (words : List (List ℕ)) (ts us : Tokens) → AreGood words ts → AreGood words us
    → AreGood words (ts ++ us)
good-append words [] us a b = b
good-append words (t ∷ ts) us a b = (a.0, good-append words ts us a.1 b)

pub scalars-append : (a b : List ℕ) → scalars a ≡ true → scalars b ≡ true → scalars (a ++ b) ≡ true
scalars-append [] b h k = k
scalars-append (c ∷ cs) b h k =
    let parts = and_parts (scalar c) (scalars cs) h in
    rw (parts.0, scalars-append cs b parts.1 k) refl

-- ---- what tokens spell

-- the one, and behind it the other
pub data Seq (P Q : Tokens → Tokens → Type 0) : Tokens → Tokens → Type 0 where
  both : {ts us vs : Tokens} → P ts us → Q us vs → Seq P Q ts vs

pub data Tok (k : TokenKind) : Tokens → Tokens → Type 0 where
  token : {ts : Tokens} → first ts ≡ k → Tok k ts (skip ts)

-- nothing
pub data Nil : Tokens → Tokens → Type 0 where
  nil : {ts : Tokens} → Nil ts ts

-- what is the same as this in its shape
pub data Same {A : Type 0} (shape : A → A) (R : A → Tokens → Tokens → Type 0) (x : A) : Tokens → Tokens → Type 0 where
  same : {y : A} {ts us : Tokens} → R y ts us → shape y ≡ shape x → Same shape R x ts us

-- ---- where reading stands

-- where it stands between two characters, but for the tokens so far and what is left: within a line, by the open
-- columns, the line and the number of open brackets; or before a line
pub data Spot : Type 0 where
  inside : List ℕ → ℕ → ℕ → Spot
  fresh : List ℕ → ℕ → Spot

-- so many open brackets
abbrev pub opened : ℕ → ℕ → List ℕ
opened line zero = []
opened line (suc n) = line ∷ opened line n

abbrev state_of : Result State TokenFault → State
state_of (Ok s) = s
state_of (Err f) = start []

-- a state within a line: how far reading has come behind the column of a first line
unfoldable pub within_line : State
unfolding begun indented
within_line = state_of (begun (start (codes "x")))

pub not_fresh : is_fresh within_line.stage ≡ false
unfolding within_line begun indented
not_fresh = refl

abbrev pub state_at : ℕ → Spot → List Item → List ℕ → State
state_at size (inside columns line n) items left =
    record within_line {
      size = size;
      items = items;
      left = left;
      columns = columns;
      brackets = opened line n;
      line = line;
    }
state_at size (fresh columns line) items left =
    record (start []) { size = size; items = items; left = left; columns = columns; brackets = []; line = line }

abbrev pub read_from : ℕ → Spot → List Item → List ℕ → Result (List Item) TokenFault
read_from size p items left = tokens_from 0 (state_at size p items left) left

-- a step that takes one token
token_step : (size : ℕ) (p q : Spot) (form : Form) (items : List Item) (text behind : List ℕ) → 0 < length text
    → step (state_at size p items text) ≡ Ok (taken form behind (state_at size q items text))
    → read_from size p items text
    ≡ read_from size q (items ++ record {
      form = form;
      from = place size text;
      to = place size behind;
      line = (state_at size q items text).line;
    } ∷ []) behind
token_step size (inside c l n) (inside d m k) form items text behind some is =
    tokens_from-step (state_at size (inside c l n) items text)
    (taken form behind (state_at size (inside d m k) items text)) some is
token_step size (inside c l n) (fresh d m) form items text behind some is =
    tokens_from-step (state_at size (inside c l n) items text)
    (taken form behind (state_at size (fresh d m) items text)) some is
token_step size (fresh c l) (inside d m k) form items text behind some is =
    tokens_from-step (state_at size (fresh c l) items text) (taken form behind
    (state_at size (inside d m k) items text)) some is
token_step size (fresh c l) (fresh d m) form items text behind some is =
    tokens_from-step (state_at size (fresh c l) items text) (taken form behind (state_at size (fresh d m) items text))
    some is

module _ (words : List (List ℕ)) (size : ℕ) where
  -- the tokens that were read, which lead on to what stands behind, and spell it
  pub record Found (P : Tokens → Tokens → Type 0) (p q : Spot) (text : List ℕ) (items : List Item)
      (behind : List ℕ) : Type 0 where
    pub more : Tokens
    pub goes : read_from size p items (text ++ behind) ≡ read_from size q (items ++ map (item_view words) more) behind
    pub good : AreGood words more
    pub spelled : (us : Tokens) → P (more ++ us) us

  -- where what stands behind is fit, the text is read, and what stands before it may go on with it
  pub record Reads (H G : List ℕ → Type 0) (P : Tokens → Tokens → Type 0) (p q : Spot) (text : List ℕ) : Type 0 where
    pub begins : (behind : List ℕ) → G behind → H (text ++ behind)
    pub letters : scalars text ≡ true
    pub reads : (items : List Item) (behind : List ℕ) → G behind → Found P p q text items behind

  pub mapped : {H G : List ℕ → Type 0} {P Q : Tokens → Tokens → Type 0} {p q : Spot} {text : List ℕ}
      → ((ts us : Tokens) → P ts us → Q ts us) → Reads H G P p q text → Reads H G Q p q text
  mapped f x = record {
    begins = x.begins;
    letters = x.letters;
    reads = λ items behind g. let one = x.reads items behind g in record {
      more = one.more;
      goes = one.goes;
      good = one.good;
      spelled = λ us. f (one.more ++ us) us (one.spelled us);
    };
  }

  -- as it is asked for
  pub fitted : {H G H' G' : List ℕ → Type 0} {P : Tokens → Tokens → Type 0} {p q : Spot} {text : List ℕ}
      → ((cs : List ℕ) → H cs → H' cs) → ((cs : List ℕ) → G' cs → G cs) → Reads H G P p q text → Reads H' G' P p q text
  fitted h g x = record {
    begins = λ behind k. h _ (x.begins behind (g behind k));
    letters = x.letters;
    reads = λ items behind k. x.reads items behind (g behind k);
  }

  pub reads_as : {H G : List ℕ → Type 0} {P : Tokens → Tokens → Type 0} {p q : Spot} {a b : List ℕ}
      → a ≡ b → Reads H G P p q a → Reads H G P p q b
  reads_as {H = H} {G = G} {P = P} {p = p} {q = q} e x = subst (λ (t : List ℕ). Reads H G P p q t) e x

  pub nothing : {G : List ℕ → Type 0} {p : Spot} → Reads G G Nil p p []
  nothing {p = p} = record {
    begins = λ behind g. g;
    letters = refl;
    reads = λ items behind g. record {
      more = [];
      goes = ap (λ l. read_from size p l behind) (sym (append-nil items));
      good = tt;
      spelled = λ us. nil;
    };
  }

  infixl 50 ◌▹◌
  pub ◌▹◌ : {H F G : List ℕ → Type 0} {P Q : Tokens → Tokens → Type 0} {p q r : Spot} {a b : List ℕ}
      → Reads H F P p q a → Reads F G Q q r b → Reads H G (Seq P Q) p r (a ⧺ b)
  unfolding ◌⧺◌
  ◌▹◌ {H = H} {P = P} {Q = Q} {p = p} {r = r} {a = a} {b = b} x y = record {
    begins = λ behind g. subst H (sym (append_assoc a b behind)) (x.begins (b ++ behind) (y.begins behind g));
    letters = scalars-append a b x.letters y.letters;
    reads = λ items behind g.
        let one = x.reads items (b ++ behind) (y.begins behind g) in
        let two = y.reads (items ++ map (item_view words) one.more) behind g in
        record {
          more = one.more ++ two.more;
          goes = ap (read_from size p items) (append_assoc a b behind) ∙ one.goes ∙ two.goes
              ∙ ap (λ l. read_from size r l behind) (append_assoc items (map (item_view words) one.more)
              (map (item_view words) two.more)
              ∙ ap (λ l. items ++ l) (sym (map-append (item_view words) one.more two.more)));
          good = good-append words one.more two.more one.good two.good;
          spelled = λ us. subst (λ (ts : Tokens). Seq P Q ts us) (sym (append_assoc one.more two.more us))
              (both (one.spelled (two.more ++ us)) (two.spelled us));
        };
  }

  -- one token that a step takes
  pub one_token : {H G : List ℕ → Type 0} {p q : Spot} (k : TokenKind) (text : List ℕ)
      → ((behind : List ℕ) → G behind → H (text ++ behind)) → scalars text ≡ true → 0 < length text → IsGoodKind words k
      → ((items : List Item) (behind : List ℕ) → G behind → step (state_at size p items (text ++ behind))
      ≡ Ok (taken (form_view words k) behind (state_at size q items (text ++ behind))))
      → Reads H G (Tok k) p q text
  one_token {p = p} {q = q} k text begins letters some good goes = record {
    begins = begins;
    letters = letters;
    reads = λ items behind g. record {
      more = record {
        kind = k;
        from = place size (text ++ behind);
        to = place size behind;
        line = record { 0 = (state_at size q items (text ++ behind)).line };
      } ∷ [];
      goes = token_step size p q (form_view words k) items (text ++ behind) behind (longer text behind some)
          (goes items behind g);
      good = (good, tt);
      spelled = λ us. token refl;
    };
  }
    where
      longer : (text behind : List ℕ) → 0 < length text → 0 < length (text ++ behind)
      longer [] behind some = absurd (omega arith)
      longer (c ∷ cs) behind some = omega arith
