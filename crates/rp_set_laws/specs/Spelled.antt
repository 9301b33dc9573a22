-- The laws that the tokens of a set, written out, spell a dict whose values are None (Python Language Reference, Set
-- displays, Displays for lists, sets and dictionaries, Dictionary displays).
use Rattle.std.specs.Prelude.{◌≡◌, ℕ, zero, suc, ◌==◌, Bool, true, false, if◌then◌else◌, List, [], ◌∷◌, ◌++◌, map}
use Rattle.std.specs.Prelude.{codes}
use Rattle.rp_base.specs.declared.value.Line.{Line}
use Rattle.rp_grammar.specs.Expressions.{Atom, IsClause, IsClauses, IsExpr}
use Rattle.rp_grammar.specs.Kinds.{Tokens, line_at}
use Rattle.rp_more.specs.Forms.{closes, is_one_mark, opens}
use Rattle.rp_more.specs.Sets.{Group, comprehension, display, group_of, other, sets}
use Rattle.rp_token.specs.Form.{Form, Item, keyword, mark}
use Rattle.rp_token.specs.View.{item_view}
use Rattle.rp_tree.specs.Expressions as tree
use Rattle.rp_tree.specs.declared.parts.Const.TheVariants as const
use Rattle.rp_more_laws.specs.Sets.{HaveNones, set_tree}

-- the form of the last of some tokens, or of the one before them
abbrev pub last_form : Form → List Item → Form
last_form before [] = before
last_form before (t ∷ ts) = last_form t.form ts

-- in open brackets, tokens with others behind them are written out as these
abbrev pub AreWritten : List Group → Form → List Item → List Item → List Item → Type 0
AreWritten opened before items rest written =
    sets opened before (items ++ rest) ≡ written ++ sets opened (last_form before items) rest

-- the tokens are written out so
abbrev pub Are : List (List ℕ) → List Item → Tokens → Type 0
Are words items ts = map (item_view words) ts ≡ items

-- the tokens spell the expression, whatever is behind them
abbrev pub SpellExpr : List (List ℕ) → List Item → tree.Expr → Type 0
SpellExpr words items x = (ts us : Tokens) → Are words items ts → IsExpr x (ts ++ us) us

abbrev pub separators : List (List ℕ)
separators = codes "," ∷ codes "{" ∷ []

-- tokens that spell an element once they are written out; the last is no separator, so there is one
pub record IsElement (words : List (List ℕ)) (opened : List Group) (before : Form) (items rest : List Item)
    (x : tree.Expr) : Type 0 where
  pub written : List Item
  pub are_written : AreWritten opened before items rest written
  pub spell : SpellExpr words written x
  pub ends : is_one_mark separators (last_form before items) ≡ false

-- [expr (',' expr)* [',']] '}', and the tokens behind it
pub data AreElements (words : List (List ℕ)) (opened : List Group) : Form → List Item → tree.Exprs → List Item → Type 0
  where
    nothing : {before : Form} {t : Item} {rest : List Item} → t.form ≡ mark (codes "}")
        → AreElements words opened before (t ∷ rest) tree.no_exprs rest
    last : {before : Form} {x : tree.Expr} {items rest : List Item} {t : Item}
        → IsElement words opened before items (t ∷ rest) x → t.form ≡ mark (codes "}")
        → AreElements words opened before (items ++ t ∷ rest) (tree.expr x tree.no_exprs) rest
    more : {before : Form} {x : tree.Expr} {xs : tree.Exprs} {items others rest : List Item} {t : Item}
        → IsElement words opened before items (t ∷ others) x → t.form ≡ mark (codes ",")
        → AreElements words opened (mark (codes ",")) others xs rest
        → AreElements words opened before (items ++ t ∷ others) (tree.expr x xs) rest

abbrev pub keys_of : tree.Pairs → tree.Exprs
keys_of tree.no_pairs = tree.no_exprs
keys_of (tree.pair k x ps) = tree.expr k (keys_of ps)

-- tokens spell the dict of these keys in order, each with None as its value; behind it they are the rest, written out
pub record IsSpelled (words : List (List ℕ)) (opened : List Group) (rest : List Item) (xs : tree.Exprs)
    (ts : Tokens) : Type 0 where
  pub pairs : tree.Pairs
  pub behind : Tokens
  pub keys : keys_of pairs ≡ xs
  pub values : HaveNones pairs
  pub spelled : Atom (set_tree (line_at ts) pairs) ts behind
  pub are_rest : Are words (sets opened (mark (codes "}")) rest) behind

-- `{E, ...}`, where the `{` is that of a set
abbrev pub EachSetIsSpelled : Type 0
EachSetIsSpelled =
    (words : List (List ℕ)) (opened : List Group) (before : Form) (t : Item) (items rest : List Item) (xs : tree.Exprs)
    (ts : Tokens) → t.form ≡ mark (codes "{") → group_of before t.form items ≡ display
    → AreElements words (display ∷ opened) (mark (codes "{")) items xs rest
    → Are words (sets opened before (t ∷ items)) ts → IsSpelled words opened rest xs ts

-- the tokens spell clauses, one at least, whatever is behind them
abbrev pub SpellClauses : List (List ℕ) → List Item → tree.Clause → tree.Clauses → Type 0
SpellClauses words items c cs =
    (ts us : Tokens) → Are words items ts → (vs : Tokens) × IsClause c (ts ++ us) vs × IsClauses cs vs us

-- expr clause+ '}', and the tokens behind it
pub record IsComprehension (words : List (List ℕ)) (opened : List Group) (items rest : List Item) (x : tree.Expr)
    (c : tree.Clause) (cs : tree.Clauses) : Type 0 where
  pub element : List Item
  pub begin : Item
  pub begins : begin.form ≡ keyword (codes "for")
  pub clauses : List Item
  pub close : Item
  pub closes : close.form ≡ mark (codes "}")
  pub items_are : items ≡ element ++ begin ∷ (clauses ++ close ∷ rest)
  pub is_element :
      IsElement words (comprehension ∷ opened) (mark (codes "{")) element (begin ∷ (clauses ++ close ∷ rest)) x
  pub written : List Item
  pub are_written : AreWritten (other ∷ opened) (keyword (codes "for")) clauses (close ∷ rest) written
  pub spell : SpellClauses words (begin ∷ written) c cs

-- `{x: None c cs}`
abbrev pub set_of_tree : Line → Line → tree.Expr → tree.Clause → tree.Clauses → tree.Expr
set_of_tree line none_line x c cs =
    tree.node line (tree.dict_of 0 x (tree.node none_line (tree.const const.Nil)) (tree.clause c cs))

-- tokens spell a dict by comprehension, whose value is None; behind it they are the rest, written out
pub record IsSpelledBy (words : List (List ℕ)) (opened : List Group) (rest : List Item) (x : tree.Expr)
    (c : tree.Clause) (cs : tree.Clauses) (ts : Tokens) : Type 0 where
  pub line : Line
  pub behind : Tokens
  pub spelled : Atom (set_of_tree (line_at ts) line x c cs) ts behind
  pub are_rest : Are words (sets opened (mark (codes "}")) rest) behind

-- `{E for T in S ...}`, where the `{` is that of a set
abbrev pub EachComprehensionIsSpelled : Type 0
EachComprehensionIsSpelled =
    (words : List (List ℕ)) (opened : List Group) (before : Form) (t : Item) (items rest : List Item) (x : tree.Expr)
    (c : tree.Clause) (cs : tree.Clauses) (ts : Tokens) → t.form ≡ mark (codes "{")
    → group_of before t.form items ≡ comprehension → IsComprehension words opened items rest x c cs
    → Are words (sets opened before (t ∷ items)) ts → IsSpelledBy words opened rest x c cs ts

-- what is left where one bracket is closed, if one was open
abbrev pub with_one_less : ℕ → (ℕ → Bool) → Bool
with_one_less zero left = false
with_one_less (suc n) left = left n

-- where so many brackets are open, each that closes, closes one of them, of whatever kind, and none stays open
abbrev pub is_balanced : ℕ → List Item → Bool
is_balanced n [] = n == 0
is_balanced n (t ∷ ts) =
    if opens t.form then is_balanced (suc n) ts
    else if closes t.form then with_one_less n (λ n. is_balanced n ts) else is_balanced n ts

abbrev pub Written : List Group → Form → List Item → List Item → Type 0
Written opened before items rest = (written : List Item) × AreWritten opened before items rest written

-- in a display, and behind the first `for` of a comprehension
abbrev pub EachBalancedIsWritten : Type 0
EachBalancedIsWritten =
    (opened : List Group) (before : Form) (items rest : List Item) → is_balanced 0 items ≡ true
    → Written (display ∷ opened) before items rest × Written (other ∷ opened) before items rest
