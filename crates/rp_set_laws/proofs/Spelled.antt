-- The tokens of a set, written out, spell a dict whose values are None.
use Rattle.std.proofs.Common.{◌≡◌, refl, sym, ap, subst, ◌∙◌, ℕ, true, false, not, if◌then◌else◌, List, []}
use Rattle.std.proofs.Common.{◌∷◌, ◌++◌, codes}
use Rattle.rp_grammar.specs.Expressions as grammar
use Rattle.rp_grammar.specs.Expressions.{IsExpr, Paired}
use Rattle.rp_grammar.specs.Kinds.{Tokens, first, line_at, skip}
use Rattle.rp_more.specs.Forms.{is_one_mark, placed}
use Rattle.rp_more.specs.Sets.{Group, comprehension, display, group_of, innermost, is_asked, none_at, opened_behind}
use Rattle.rp_more.specs.Sets.{other, sets}
use Rattle.rp_token.specs.Form.{Form, Item, keyword, mark}
use Rattle.rp_token.specs.declared.token.TokenKind.TheVariants as kind
use Rattle.rp_tree.specs.Expressions as tree
use Rattle.rp_tree.specs.declared.parts.Const.TheVariants as const
use Rattle.rp_more_laws.specs.Sets.{HaveNones}
use Rattle.rp_more_laws.proofs.Spelled.{expr_of}
use Rattle.rp_set_laws.specs.Spelled.{Are, AreElements, EachComprehensionIsSpelled, EachSetIsSpelled, IsElement}
use Rattle.rp_set_laws.specs.Spelled.{keys_of, last, last_form, more, nothing, separators}
use Rattle.rp_set_laws.proofs.KindsByForm.{colon, comma, left_brace, nil, right_brace}
use Rattle.rp_set_laws.proofs.Places.{behind, form_at, parts}

-- ---- what is written

-- the first token, where its form is one
abbrev written : List Group → Form → Item → List Item → Form → List Item
written opened before t ts f =
    (if is_asked (innermost opened) before f then none_at t else []) ++ t ∷ sets (opened_behind opened before f ts) f ts

-- the `}` behind a comma
closing : (opened : List Group) (before : Form) (t : Item) (ts : List Item) → t.form ≡ mark (codes "}")
    → is_one_mark separators before ≡ true
    → sets (display ∷ opened) before (t ∷ ts) ≡ t ∷ sets opened (mark (codes "}")) ts
closing opened before t ts f h =
    ap (written (display ∷ opened) before t ts) f
    ∙ ap (λ b. (if not b then none_at t else []) ++ t ∷ sets opened (mark (codes "}")) ts) h

-- the `}` behind an element
ending : (opened : List Group) (before : Form) (t : Item) (ts : List Item) → t.form ≡ mark (codes "}")
    → is_one_mark separators before ≡ false
    → sets (display ∷ opened) before (t ∷ ts) ≡ none_at t ++ t ∷ sets opened (mark (codes "}")) ts
ending opened before t ts f h =
    ap (written (display ∷ opened) before t ts) f
    ∙ ap (λ b. (if not b then none_at t else []) ++ t ∷ sets opened (mark (codes "}")) ts) h

-- the comma behind an element
separating : (opened : List Group) (before : Form) (t : Item) (ts : List Item) → t.form ≡ mark (codes ",")
    → is_one_mark separators before ≡ false
    → sets (display ∷ opened) before (t ∷ ts) ≡ none_at t ++ t ∷ sets (display ∷ opened) (mark (codes ",")) ts
separating opened before t ts f h =
    ap (written (display ∷ opened) before t ts) f
    ∙ ap (λ b. (if not b then none_at t else []) ++ t ∷ sets (if not b then display ∷ opened else display ∷ opened)
    (mark (codes ",")) ts) h

-- the `{`
opening_asks : (g : Group) (before : Form) → is_asked g before (mark (codes "{")) ≡ false
opening_asks display before = refl
opening_asks comprehension before = refl
opening_asks other before = refl

opening : (g : Group) (opened : List Group) (before : Form) (t : Item) (ts : List Item) → t.form ≡ mark (codes "{")
    → group_of before t.form ts ≡ g
    → sets opened before (t ∷ ts) ≡ t ∷ sets (g ∷ opened) (mark (codes "{")) ts
opening g opened before t ts f h =
    ap (written opened before t ts) f
    ∙ ap (λ b. (if b then none_at t else []) ++ t ∷ sets (group_of before (mark (codes "{")) ts ∷ opened)
    (mark (codes "{")) ts)
    (opening_asks (innermost opened) before)
    ∙ ap (λ g. t ∷ sets (g ∷ opened) (mark (codes "{")) ts) (sym (ap (λ f. group_of before f ts) f) ∙ h)

-- ---- None

abbrev none_tree : Tokens → tree.Expr
none_tree ts = tree.node (line_at ts) (tree.const const.Nil)

-- the elements up to the `}`, and what is behind it
pub record ArePaired (words : List (List ℕ)) (opened : List Group) (rest : List Item) (xs : tree.Exprs) (ts : Tokens)
    : Type 0 where
  pub pairs : tree.Pairs
  pub up_to : Tokens
  pub keys : keys_of pairs ≡ xs
  pub values : HaveNones pairs
  pub paired : Paired pairs ts up_to
  pub closes : first up_to ≡ kind.RightBrace
  pub are_rest : Are words (sets opened (mark (codes "}")) rest) (skip up_to)

module _ (words : List (List ℕ)) where
  -- `: None` and what is behind it
  abbrev Valued : List Item → Tokens → Type 0
  Valued is ts =
      (first ts ≡ kind.Colon) × IsExpr (none_tree (skip ts)) (skip ts) (skip (skip ts)) × Are words is (skip (skip ts))

  valued : (t : Item) (is : List Item) (ts : Tokens) → Are words (none_at t ++ is) ts → Valued is ts
  valued t is ts h =
      let none_behind = behind words (placed t (mark (codes ":"))) (placed t (keyword (codes "None")) ∷ is) ts h in (
        colon words (first ts)
            (form_at words (placed t (mark (codes ":"))) (placed t (keyword (codes "None")) ∷ is) ts h),
        expr_of (grammar.bare (grammar.nil (nil words (first (skip ts))
            (form_at words (placed t (keyword (codes "None"))) is (skip ts) none_behind)))),
        behind words (placed t (keyword (codes "None"))) is (skip ts) none_behind,
      )

  -- an element, and what is behind it
  abbrev Begun : tree.Expr → List Item → Tokens → Type 0
  Begun x is ts = (us : Tokens) × IsExpr x ts us × Are words is us

  begun : (opened : List Group) (before : Form) (items rest : List Item) (x : tree.Expr) (ts : Tokens)
      → IsElement words opened before items rest x → Are words (sets opened before (items ++ rest)) ts
      → Begun x (sets opened (last_form before items) rest) ts
  begun opened before items rest x ts element h =
      let further = sets opened (last_form before items) rest in
      let split = parts words element.written further ts (h ∙ element.are_written) in (
        split.1,
        subst (λ ts. IsExpr x ts split.1) split.2 (element.spell split.0 split.1 split.3),
        split.4,
      )

  -- ---- the elements

  paired : (opened : List Group) (before : Form) (items rest : List Item) (xs : tree.Exprs)
      → AreElements words (display ∷ opened) before items xs rest → (ts : Tokens) → is_one_mark separators before ≡ true
      → Are words (sets (display ∷ opened) before items) ts → ArePaired words opened rest xs ts
  paired opened before items rest xs (nothing {t = t} f) ts separates h =
      let at = h ∙ closing opened before t rest f separates in
      record {
        pairs = tree.no_pairs;
        up_to = ts;
        keys = refl;
        values = tt;
        paired = grammar.no_pair;
        closes = right_brace words (first ts) (form_at words t (sets opened (mark (codes "}")) rest) ts at ∙ f);
        are_rest = behind words t (sets opened (mark (codes "}")) rest) ts at;
      }
  paired opened before items rest xs (last {x = x} {items = es} {t = t} element f) ts separates h =
      let key = begun (display ∷ opened) before es (t ∷ rest) x ts element h in
      let value = valued t (t ∷ sets opened (mark (codes "}")) rest) key.0
      (key.2 ∙ ending opened (last_form before es) t rest f element.ends) in
      let us = skip (skip key.0) in
      record {
        pairs = tree.pair x (none_tree (skip key.0)) tree.no_pairs;
        up_to = us;
        keys = refl;
        values = ((line_at (skip key.0), refl), tt);
        paired = grammar.last_pair key.1 value.0 value.1;
        closes = right_brace words (first us) (form_at words t (sets opened (mark (codes "}")) rest) us value.2 ∙ f);
        are_rest = behind words t (sets opened (mark (codes "}")) rest) us value.2;
      }
  paired opened before items rest xs
      (more {x = x} {xs = ys} {items = es} {others = others} {t = t} element f others_are) ts separates h =
      let key = begun (display ∷ opened) before es (t ∷ others) x ts element h in
      let further = sets (display ∷ opened) (mark (codes ",")) others in
      let value = valued t (t ∷ further) key.0
      (key.2 ∙ separating opened (last_form before es) t others f element.ends) in
      let us = skip (skip key.0) in
      let tail = paired opened (mark (codes ",")) others rest ys others_are (skip us) refl
      (behind words t further us value.2) in
      record {
        pairs = tree.pair x (none_tree (skip key.0)) tail.pairs;
        up_to = tail.up_to;
        keys = ap (λ ks. tree.expr x ks) tail.keys;
        values = ((line_at (skip key.0), refl), tail.values);
        paired = grammar.more_pairs key.1 value.0 value.1
            (comma words (first us) (form_at words t further us value.2 ∙ f)) tail.paired;
        closes = tail.closes;
        are_rest = tail.are_rest;
      }

pub is_spelled : EachSetIsSpelled
is_spelled words opened before t items rest xs ts f is_display elements h =
    let at = h ∙ opening display opened before t items f is_display in
    let further = sets (display ∷ opened) (mark (codes "{")) items in
    let inner = paired words opened (mark (codes "{")) items rest xs elements (skip ts) refl
    (behind words t further ts at) in
    record {
      pairs = inner.pairs;
      behind = skip inner.up_to;
      keys = inner.keys;
      values = inner.values;
      spelled = grammar.dict (left_brace words (first ts) (form_at words t further ts at ∙ f)) inner.paired
          inner.closes;
      are_rest = inner.are_rest;
    }

-- ---- a comprehension

-- its first `for`
going : (opened : List Group) (before : Form) (t : Item) (ts : List Item) → t.form ≡ keyword (codes "for")
    → sets (comprehension ∷ opened) before (t ∷ ts)
    ≡ none_at t ++ t ∷ sets (other ∷ opened) (keyword (codes "for")) ts
going opened before t ts f = ap (written (comprehension ∷ opened) before t ts) f

-- its `}`
gone : (opened : List Group) (before : Form) (t : Item) (ts : List Item) → t.form ≡ mark (codes "}")
    → sets (other ∷ opened) before (t ∷ ts) ≡ t ∷ sets opened (mark (codes "}")) ts
gone opened before t ts f = ap (written (other ∷ opened) before t ts) f

pub comprehension_is_spelled : EachComprehensionIsSpelled
comprehension_is_spelled words opened before t items rest x c cs ts f is_comprehension made h =
    let tail = made.clauses ++ made.close ∷ rest in
    let at = h ∙ opening comprehension opened before t items f is_comprehension
    ∙ ap (λ is. t ∷ sets (comprehension ∷ opened) (mark (codes "{")) is) made.items_are in
    let further = sets (comprehension ∷ opened) (mark (codes "{")) (made.element ++ made.begin ∷ tail) in
    let key = begun words (comprehension ∷ opened) (mark (codes "{")) made.element (made.begin ∷ tail) x (skip ts)
    made.is_element (behind words t further ts at) in
    let inner = sets (other ∷ opened) (keyword (codes "for")) tail in
    let value = valued words made.begin (made.begin ∷ inner) key.0
    (key.2 ∙ going opened (last_form (mark (codes "{")) made.element) made.begin tail made.begins) in
    let end_form = last_form (keyword (codes "for")) made.clauses in
    let end_at = sets (other ∷ opened) end_form (made.close ∷ rest) in
    let split = parts words (made.begin ∷ made.written) end_at (skip (skip key.0))
    (value.2 ∙ ap (λ is. made.begin ∷ is) made.are_written) in
    let clauses = made.spell split.0 split.1 split.3 in
    let end = split.4 ∙ gone opened end_form made.close rest made.closes in
    let outer = sets opened (mark (codes "}")) rest in
    record {
      line = line_at (skip key.0);
      behind = skip split.1;
      spelled = grammar.dict_of (left_brace words (first ts) (form_at words t further ts at ∙ f)) key.1 value.0 value.1
          (subst (λ us. grammar.IsClause c us clauses.0) split.2 clauses.1) clauses.2
          (right_brace words (first split.1) (form_at words made.close outer split.1 end ∙ made.closes));
      are_rest = behind words made.close outer split.1 end;
    }
