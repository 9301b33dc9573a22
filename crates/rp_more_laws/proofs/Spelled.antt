-- The tokens of an f-literal's call spell its tree.
use Rattle.std.proofs.Common.{◌≡◌, refl, sym, ap, subst, ◌∙◌, true≢false, ℕ, Bool, true, false, List, []}
use Rattle.std.proofs.Common.{◌∷◌}
use Rattle.std.proofs.Common.{◌++◌, codes, Option, Some, None, pos, negsuc}
use Rattle.std.specs.Option.{option_map, option_and_then, unwrap_or}
use Rattle.rp_base.specs.declared.value.Line.{Line}
use Rattle.rp_base.specs.declared.value.Name.{Name}
use Rattle.rp_grammar.specs.Expressions as grammar
use Rattle.rp_grammar.specs.Expressions.{Atom, IsExpr, Listed, Primary}
use Rattle.rp_grammar.specs.Kinds.{Tokens, first, line_at, skip}
use Rattle.rp_more.specs.Expression.{expression_of}
use Rattle.rp_more.specs.Forms.{is_literal, is_mark, text_of}
use Rattle.rp_more.specs.KindSteps.{is_comma}
use Rattle.rp_more.specs.Literals.{elements, join_call, piece_forms, str_call}
use Rattle.rp_more.specs.Pieces as source
use Rattle.rp_token.specs.Form.{Form, literal, mark, name}
use Rattle.rp_token.specs.View.{form_view}
use Rattle.rp_token.specs.declared.token.TokenKind.{TokenKind}
use Rattle.rp_token.specs.declared.token.TokenKind.TheVariants as kind
use Rattle.rp_tree.specs.Expressions as tree
use Rattle.rp_more_laws.specs.Literals.{Piece, Spelling, call_of, literal_tree, part, piece_tree}
use Rattle.rp_more_laws.specs.Literals.{piece_trees}
use Rattle.rp_more_laws.specs.Literals.{run}
use Rattle.rp_more_laws.specs.Spelled.{ArePieces, EachLiteralIsSpelled, HaveForms, IsPiece, Names, SpellPart, spelling}

-- ---- the kind of a token by its form

abbrev is_dot : TokenKind → Bool
is_dot kind.Dot = true
is_dot k = false

dot_form : (words : List (List ℕ)) (k : TokenKind) → is_mark (codes ".") (form_view words k) ≡ is_dot k
dot_form words (kind.Int (negsuc n)) = refl
dot_form words k = refl

dot_kind : (k : TokenKind) → is_dot k ≡ true → k ≡ kind.Dot
dot_kind kind.Dot h = refl
dot_kind k h = absurd (true≢false (sym h))

dot : (words : List (List ℕ)) (k : TokenKind) → form_view words k ≡ mark (codes ".") → k ≡ kind.Dot
dot words k h = dot_kind k (sym (dot_form words k) ∙ ap (is_mark (codes ".")) h)

abbrev is_left_paren : TokenKind → Bool
is_left_paren kind.LeftParen = true
is_left_paren k = false

left_paren_form : (words : List (List ℕ)) (k : TokenKind) → is_mark (codes "(") (form_view words k) ≡ is_left_paren k
left_paren_form words (kind.Int (negsuc n)) = refl
left_paren_form words k = refl

left_paren_kind : (k : TokenKind) → is_left_paren k ≡ true → k ≡ kind.LeftParen
left_paren_kind kind.LeftParen h = refl
left_paren_kind k h = absurd (true≢false (sym h))

left_paren : (words : List (List ℕ)) (k : TokenKind) → form_view words k ≡ mark (codes "(") → k ≡ kind.LeftParen
left_paren words k h = left_paren_kind k (sym (left_paren_form words k) ∙ ap (is_mark (codes "(")) h)

abbrev is_right_paren : TokenKind → Bool
is_right_paren kind.RightParen = true
is_right_paren k = false

right_paren_form : (words : List (List ℕ)) (k : TokenKind) → is_mark (codes ")") (form_view words k) ≡ is_right_paren k
right_paren_form words (kind.Int (negsuc n)) = refl
right_paren_form words k = refl

right_paren_kind : (k : TokenKind) → is_right_paren k ≡ true → k ≡ kind.RightParen
right_paren_kind kind.RightParen h = refl
right_paren_kind k h = absurd (true≢false (sym h))

right_paren : (words : List (List ℕ)) (k : TokenKind) → form_view words k ≡ mark (codes ")") → k ≡ kind.RightParen
right_paren words k h = right_paren_kind k (sym (right_paren_form words k) ∙ ap (is_mark (codes ")")) h)

abbrev is_left_bracket : TokenKind → Bool
is_left_bracket kind.LeftBracket = true
is_left_bracket k = false

left_bracket_form : (words : List (List ℕ)) (k : TokenKind)
    → is_mark (codes "[") (form_view words k) ≡ is_left_bracket k
left_bracket_form words (kind.Int (negsuc n)) = refl
left_bracket_form words k = refl

left_bracket_kind : (k : TokenKind) → is_left_bracket k ≡ true → k ≡ kind.LeftBracket
left_bracket_kind kind.LeftBracket h = refl
left_bracket_kind k h = absurd (true≢false (sym h))

left_bracket : (words : List (List ℕ)) (k : TokenKind) → form_view words k ≡ mark (codes "[") → k ≡ kind.LeftBracket
left_bracket words k h = left_bracket_kind k (sym (left_bracket_form words k) ∙ ap (is_mark (codes "[")) h)

abbrev is_right_bracket : TokenKind → Bool
is_right_bracket kind.RightBracket = true
is_right_bracket k = false

right_bracket_form : (words : List (List ℕ)) (k : TokenKind) → is_mark (codes "]") (form_view words k)
    ≡ is_right_bracket k
right_bracket_form words (kind.Int (negsuc n)) = refl
right_bracket_form words k = refl

right_bracket_kind : (k : TokenKind) → is_right_bracket k ≡ true → k ≡ kind.RightBracket
right_bracket_kind kind.RightBracket h = refl
right_bracket_kind k h = absurd (true≢false (sym h))

right_bracket : (words : List (List ℕ)) (k : TokenKind) → form_view words k ≡ mark (codes "]") → k ≡ kind.RightBracket
right_bracket words k h = right_bracket_kind k (sym (right_bracket_form words k) ∙ ap (is_mark (codes "]")) h)

comma_form : (words : List (List ℕ)) (k : TokenKind) → is_mark (codes ",") (form_view words k) ≡ is_comma k
comma_form words (kind.Int (negsuc n)) = refl
comma_form words k = refl

comma_kind : (k : TokenKind) → is_comma k ≡ true → k ≡ kind.Comma
comma_kind kind.Comma h = refl
comma_kind k h = absurd (true≢false (sym h))

pub comma : (words : List (List ℕ)) (k : TokenKind) → form_view words k ≡ mark (codes ",") → k ≡ kind.Comma
comma words k h = comma_kind k (sym (comma_form words k) ∙ ap (is_mark (codes ",")) h)

text_kind : (words : List (List ℕ)) (k : TokenKind) (cs : List ℕ) → form_view words k ≡ literal cs → k ≡ kind.Text cs
text_kind words (kind.Text t) cs h = ap kind.Text (ap text_of h)
text_kind words (kind.Int (pos n)) cs h = absurd (true≢false (sym (ap is_literal h)))
text_kind words (kind.Int (negsuc n)) cs h = absurd (true≢false (sym (ap is_literal h)))
text_kind words k cs h = absurd (true≢false (sym (ap is_literal h)))

abbrev is_name : Form → Bool
is_name (name n) = true
is_name f = false

abbrev name_word : Form → List ℕ
name_word (name n) = n
name_word f = []

name_kind : (words : List (List ℕ)) (k : TokenKind) (word : List ℕ) (n : Name) → Names words word n → form_view words k
    ≡ name word
    → k ≡ kind.Name n
name_kind words (kind.Name m) word n names h = ap kind.Name (names m (ap name_word h))
name_kind words (kind.Int (pos m)) word n names h = absurd (true≢false (sym (ap is_name h)))
name_kind words (kind.Int (negsuc m)) word n names h = absurd (true≢false (sym (ap is_name h)))
name_kind words k word n names h = absurd (true≢false (sym (ap is_name h)))

-- ---- forms behind one another

module _ (words : List (List ℕ)) (line : Line) where
  abbrev At : List Form → Tokens → Tokens → Type 0
  At = HaveForms words line

  split : (fs gs : List Form) (ts us : Tokens) → At (fs ++ gs) ts us → (vs : Tokens) × At fs ts vs × At gs vs us
  split [] gs ts us h = (ts, refl, h)
  split (f ∷ fs) gs ts us h = let rest = split fs gs (skip ts) us h.2 in (rest.0, (h.0, h.1, rest.1), rest.2)

  joined : (fs gs : List Form) (ts vs us : Tokens) → At fs ts vs → At gs vs us → At (fs ++ gs) ts us
  joined [] gs ts vs us h k = subst (λ ts. At gs ts us) (sym h) k
  joined (f ∷ fs) gs ts vs us h k = (h.0, h.1, joined fs gs (skip ts) vs us h.2 k)

-- ---- an atom is an expression

pub expr_of : {x : tree.Expr} {ts us : Tokens} → Primary x ts us → IsExpr x ts us
expr_of p =
    grammar.unconditional (grammar.or_single (grammar.and_single (grammar.asserted (grammar.single (grammar.tighter
    (grammar.tighter (grammar.tighter (grammar.tighter (grammar.tighter (grammar.tighter (grammar.operand
    (grammar.unsigned (grammar.base p)))))))))))))

-- a call with one argument
one_argument : {x : tree.Expr} {ts us : Tokens} → first ts ≡ kind.LeftParen → IsExpr x (skip ts) us → first us
    ≡ kind.RightParen
    → grammar.Trail (call_of x) ts (skip us)
one_argument h p k = grammar.goes (grammar.call h (grammar.last_arg (grammar.value p)) refl k) grammar.ends

trailed : {x : tree.Expr} {ts us vs : Tokens} (line : Line) (e : tree.Expr) → grammar.line_of e ≡ line → Atom e ts us
    → grammar.Trail (call_of x) us vs → Primary (tree.node line (tree.primary e (call_of x))) ts vs
trailed {x} {ts} {us} {vs} line e on a (grammar.goes t rest) =
    subst (λ l. Primary (tree.node l (tree.primary e (call_of x))) ts vs) on (grammar.trailed a t rest)

-- ---- the pieces

-- where a list of forms is made of two that may be missing, there are both
both_of : (comma fs : List Form) (o r : Option (List Form))
    → option_and_then (λ forms. option_map (λ more. comma ++ (forms ++ more)) r) o ≡ Some fs
    → (forms : List Form) × (more : List Form) × (o ≡ Some forms) × (r ≡ Some more) × (fs ≡ comma ++ (forms ++ more))
both_of comma fs None r h = absurd (cc)
both_of comma fs (Some x) None h = absurd (cc)
both_of comma fs (Some x) (Some y) h = (x, y, refl, refl, sym (ap (λ o. unwrap_or o fs) h))

call_of_both : (fs : List Form) (o : Option (List Form)) → option_map str_call o ≡ Some fs
    → (forms : List Form) × (o ≡ Some forms) × (fs ≡ str_call forms)
call_of_both fs None h = absurd (cc)
call_of_both fs (Some x) h = (x, refl, sym (ap (λ o. unwrap_or o fs) h))

module _ (words : List (List ℕ)) (line : Line) (join str : Name) (joins : Names words (codes "join") join)
    (strs : Names words (codes "str") str) where
  abbrev p : Spelling
  p = spelling line join str

  text_atom : (cs : List ℕ) (ts : Tokens) → form_view words (first ts) ≡ literal cs → line_at ts ≡ line
      → Atom (tree.node line (tree.text cs)) ts (skip ts)
  text_atom cs ts h on =
      subst (λ l. Atom (tree.node l (tree.text cs)) ts (skip ts)) on
      (grammar.text (grammar.one_text (text_kind words (first ts) cs h)))

  str_atom : (ts : Tokens) → form_view words (first ts) ≡ name (codes "str") → line_at ts ≡ line
      → Atom (tree.node line (tree.name str)) ts (skip ts)
  str_atom ts h on =
      subst (λ l. Atom (tree.node l (tree.name str)) ts (skip ts)) on
      (grammar.name (name_kind words (first ts) (codes "str") str strs h))

  part_primary : (fs : List Form) (x : tree.Expr) (ts us : Tokens) → SpellPart words line fs x
      → HaveForms words line (str_call fs) ts us → Primary (piece_tree p (part x)) ts us
  part_primary fs x ts us spell h =
      let inner = split words line fs (mark (codes ")") ∷ mark (codes ")") ∷ []) (skip (skip (skip ts))) us h.2.2.2 in
      let atom = spell (skip (skip ts)) (skip inner.0) (
        h.2.2.0,
        h.2.2.1,
        joined words line fs (mark (codes ")") ∷ []) (skip (skip (skip ts))) inner.0 (skip inner.0)
            inner.1 (inner.2.0, inner.2.1, refl),
      ) in
      subst (λ us. Primary (piece_tree p (part x)) ts us) inner.2.2.2
      (trailed line (tree.node line (tree.name str)) refl (str_atom ts h.0 h.1)
      (one_argument (left_paren words (first (skip ts)) h.2.0) (expr_of (grammar.bare atom))
      (right_paren words (first (skip inner.0)) inner.2.2.0)))

  piece_spelled : (m : source.Piece) (x : Piece) (fs : List Form) (ts us : Tokens) → IsPiece words line m x
      → piece_forms m ≡ Some fs → HaveForms words line fs ts us → IsExpr (piece_tree p x) ts us
  piece_spelled (source.run cs) (run ds) fs ts us same e h =
      let at = subst (λ fs. HaveForms words line fs ts us) (sym (ap (λ o. unwrap_or o fs) e)) h in
      subst (λ us. IsExpr (tree.node line (tree.text ds)) ts us) at.2
      (subst (λ ds. IsExpr (tree.node line (tree.text ds)) ts (skip ts)) same
      (expr_of (grammar.bare (text_atom cs ts at.0 at.1))))
  piece_spelled (source.part cs) (part x) fs ts us spell e h =
      let call = call_of_both fs (expression_of cs) e in
      expr_of (part_primary call.0 x ts us (spell call.0 call.1) (subst (λ fs. HaveForms words line fs ts us) call.2 h))
  piece_spelled (source.run cs) (part x) fs ts us wrong e h = absurd wrong
  piece_spelled (source.part cs) (run ds) fs ts us wrong e h = absurd wrong

  -- pieces behind one, each behind a comma
  abbrev Behind : List Piece → Tokens → Tokens → Type 0
  Behind [] ts us = ts ≡ us
  Behind (x ∷ xs) ts us =
      (vs : Tokens) × (first ts ≡ kind.Comma) × IsExpr (piece_tree p x) (skip ts) vs × Behind xs vs us

  listed_of : (x : Piece) (xs : List Piece) (ts vs us : Tokens) → IsExpr (piece_tree p x) ts vs → Behind xs vs us
      → Listed (piece_trees p (x ∷ xs)) ts us
  listed_of x [] ts vs us one h = subst (λ us. Listed (piece_trees p (x ∷ [])) ts us) h (grammar.last one)
  listed_of x (y ∷ ys) ts vs us one h = grammar.more one h.1 (listed_of y ys (skip vs) h.0 us h.2 h.3)

  behind_of : (ms : List source.Piece) (xs : List Piece) (fs : List Form) (ts us : Tokens) → ArePieces words line ms xs
      → elements (mark (codes ",") ∷ []) ms ≡ Some fs → HaveForms words line fs ts us → Behind xs ts us
  behind_of [] [] fs ts us are e h = subst (λ fs. HaveForms words line fs ts us) (sym (ap (λ o. unwrap_or o fs) e)) h
  behind_of (m ∷ ms) (x ∷ xs) fs ts us are e h =
      let both = both_of (mark (codes ",") ∷ []) fs (piece_forms m) (elements (mark (codes ",") ∷ []) ms) e in
      let at = subst (λ fs. HaveForms words line fs ts us) both.4 h in
      let parts = split words line both.0 both.1 (skip ts) us at.2 in (
        parts.0,
        comma words (first ts) at.0,
        piece_spelled m x both.0 (skip ts) parts.0 are.0 both.2 parts.1,
        behind_of ms xs both.1 parts.0 us are.1 both.3 parts.2,
      )
  behind_of [] (x ∷ xs) fs ts us wrong e h = absurd wrong
  behind_of (m ∷ ms) [] fs ts us wrong e h = absurd wrong

  listed : (ms : List source.Piece) (xs : List Piece) (fs : List Form) (ts us : Tokens) → ArePieces words line ms xs
      → elements [] ms ≡ Some fs → HaveForms words line fs ts us → Listed (piece_trees p xs) ts us
  listed [] [] fs ts us are e h =
      subst (λ us. Listed tree.no_exprs ts us)
      (subst (λ fs. HaveForms words line fs ts us) (sym (ap (λ o. unwrap_or o fs) e)) h) grammar.nothing
  listed (m ∷ ms) (x ∷ xs) fs ts us are e h =
      let both = both_of [] fs (piece_forms m) (elements (mark (codes ",") ∷ []) ms) e in
      let parts = split words line both.0 both.1 ts us (subst (λ fs. HaveForms words line fs ts us) both.4 h) in
      listed_of x xs ts parts.0 us (piece_spelled m x both.0 ts parts.0 are.0 both.2 parts.1)
      (behind_of ms xs both.1 parts.0 us are.1 both.3 parts.2)
  listed [] (x ∷ xs) fs ts us wrong e h = absurd wrong
  listed (m ∷ ms) [] fs ts us wrong e h = absurd wrong

  -- ---- the call

  literal_spelled : (ms : List source.Piece) (xs : List Piece) (fs : List Form) (ts us : Tokens)
      → ArePieces words line ms xs → elements [] ms ≡ Some fs → HaveForms words line (join_call fs) ts us
      → Primary (literal_tree p xs) ts us
  literal_spelled ms xs fs ts us are e h =
      let list_at = skip (skip (skip (skip ts))) in
      let inner = split words line fs (mark (codes "]") ∷ mark (codes ")") ∷ []) (skip list_at) us h.2.2.2.2.2 in
      let atom = subst (λ l. Atom (tree.node l (tree.list (piece_trees p xs))) list_at (skip inner.0)) h.2.2.2.2.1
      (grammar.list (left_bracket words (first list_at) h.2.2.2.2.0)
      (listed ms xs fs (skip list_at) inner.0 are e inner.1) (right_bracket words (first inner.0) inner.2.0)) in
      let attribute = subst (λ l. grammar.IsTrailer (tree.attr (record { name = join; line = l }) None) (skip ts)
      (skip (skip (skip ts)))) h.2.2.1
      (grammar.attr (dot words (first (skip ts)) h.2.0)
      (name_kind words (first (skip (skip ts))) (codes "join") join joins h.2.2.0)) in
      subst (λ us. Primary (literal_tree p xs) ts us) inner.2.2.2
      (grammar.trailed (text_atom [] ts h.0 h.1) attribute
      (one_argument (left_paren words (first (skip (skip (skip ts)))) h.2.2.2.0) (expr_of (grammar.bare atom))
      (right_paren words (first (skip inner.0)) inner.2.2.0)))

pub is_spelled : EachLiteralIsSpelled
is_spelled words line join str ms xs fs ts us joins strs are e h =
    literal_spelled words line join str joins strs ms xs fs ts us are e h
