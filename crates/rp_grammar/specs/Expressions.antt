-- The grammar of expressions, a constructor for each production (Python Language Reference, Expressions). `Or e ts us` says that the
-- expression e is spelled as an `or` by the tokens from ts up to us, and so for each family. No mark of a guard is spelled.
use Rattle.std.specs.Prelude.{◌≡◌, ℕ, zero, suc, ℤ, Bool, true, false, ◌≤◌, ◌&&◌, not, List, [], ◌∷◌, ◌++◌, Option, None, Some}
use Rattle.std.specs.List.{list_any}
pub use Rattle.rp_base.specs.Names.{same_name}
use Rattle.rp_base.specs.declared.operator.BinOp.{BinOp}
use Rattle.rp_base.specs.declared.operator.UnOp.{UnOp}
use Rattle.rp_base.specs.declared.operator.CmpOp.{CmpOp}
use Rattle.rp_base.specs.declared.value.Line.{Line}
use Rattle.rp_base.specs.declared.value.Name.{Name}
use Rattle.rp_token.specs.declared.token.TokenKind.TheVariants as kind
use Rattle.rp_tree.specs.declared.parts.Const.TheVariants.{Nil, Truth}
use Rattle.rp_tree.specs.declared.parts.Test.{Test}
use Rattle.rp_tree.specs.declared.parts.Test.TheVariants.{Order, Within, NotWithin, Is, IsNot}
use Rattle.rp_tree.specs.Expressions as tree
use Rattle.rp_tree.specs.Expressions.{Named, Expr, Exprs, Maybe, Pairs, Tests, Ops, Clause, Clauses, Target, Targets, Place, Params, Plain, Trailer, Trailers, Arg, Args}
use Rattle.rp_grammar.specs.Kinds.{Tokens, first, line_at, skip, binary_of, looseness, loosest, unary_of, order_of}

abbrev pub line_of : Expr → Line
line_of (tree.node line form) = line

abbrev pub named : Name → Tokens → Named
named n ts = record { name = n; line = line_at ts }

-- the line at which a place begins
abbrev pub place_line : Place → Line
place_line (tree.to_name n) = n.line
place_line (tree.to_attr e n guard) = line_of e
place_line (tree.to_item e i guard) = line_of e

-- parameters with one more at the front
abbrev pub with_plain : Named → Maybe → Params → Params
with_plain n default (tree.params others list dict) = tree.params (tree.plain n default others) list dict

abbrev pub named_names : Option Named → List Name
named_names None = []
named_names (Some n) = n.name ∷ []

abbrev pub plain_names : Plain → List Name
plain_names tree.no_plain = []
plain_names (tree.plain n default others) = n.name ∷ plain_names others

-- the names of parameters, in order
abbrev pub parameter_names : Params → List Name
parameter_names (tree.params others list dict) = plain_names others ++ named_names list ++ named_names dict

abbrev pub key_name : Arg → List Name
key_name (tree.key n e) = n ∷ []
key_name x = []

-- the names of the arguments that have one
abbrev pub key_names : Args → List Name
key_names tree.no_args = []
key_names (tree.arg x xs) = key_name x ++ key_names xs

-- no name stands twice
abbrev pub distinct : List Name → Bool
distinct [] = true
distinct (n ∷ ns) = not (list_any (same_name n) ns) && distinct ns

-- TEXT+: adjacent literals are joined
pub data Texts : List ℕ → Tokens → Tokens → Type 0 where
  one_text : {s : List ℕ} {ts : Tokens} → first ts ≡ kind.Text s → Texts s ts (skip ts)
  more_texts : {s cs : List ℕ} {ts us : Tokens} → first ts ≡ kind.Text s → Texts cs (skip ts) us → Texts (s ++ cs) ts us

-- < | <= | > | >= | == | != | 'in' | 'not' 'in'
pub data IsTest : Test → Tokens → Tokens → Type 0 where
  order : {o : CmpOp} {ts : Tokens} → order_of (first ts) ≡ Some o → IsTest (Order o) ts (skip ts)
  within : {ts : Tokens} → first ts ≡ kind.In → IsTest Within ts (skip ts)
  not_within : {ts : Tokens} → first ts ≡ kind.Not → first (skip ts) ≡ kind.In → IsTest NotWithin ts (skip (skip ts))

-- what parameters may still come: any, those with a default, `*NAME`, `**NAME`, or none
pub data Stage : Type 0 where
  any : Stage
  defaults : Stage
  star : Stage
  stars : Stage
  closed : Stage

abbrev pub place_of : Stage → ℕ
place_of any = 0
place_of defaults = 1
place_of star = 2
place_of stars = 3
place_of closed = 4

-- parameters of such a kind may come at the stage
abbrev pub MayCome : Stage → Stage → Type 0
MayCome kind stage = place_of stage ≤ place_of kind

mutual
  -- NAME | INT | TEXT+ | 'None' | 'True' | 'False' | parentheses and displays
  pub data Atom : Expr → Tokens → Tokens → Type 0 where
    name : {n : Name} {ts : Tokens} → first ts ≡ kind.Name n → Atom (tree.node (line_at ts) (tree.name n)) ts (skip ts)
    int : {n : ℤ} {ts : Tokens} → first ts ≡ kind.Int n → Atom (tree.node (line_at ts) (tree.int n)) ts (skip ts)
    text : {s : List ℕ} {ts us : Tokens} → Texts s ts us → Atom (tree.node (line_at ts) (tree.text s)) ts us
    nil : {ts : Tokens} → first ts ≡ kind.None → Atom (tree.node (line_at ts) (tree.const Nil)) ts (skip ts)
    truth : {ts : Tokens} → first ts ≡ kind.True → Atom (tree.node (line_at ts) (tree.const (Truth true))) ts (skip ts)
    falsity : {ts : Tokens} → first ts ≡ kind.False → Atom (tree.node (line_at ts) (tree.const (Truth false))) ts (skip ts)
    -- parentheses around an expression make no node
    paren : {e : Expr} {ts us : Tokens} → first ts ≡ kind.LeftParen → IsExpr e (skip ts) us → first us ≡ kind.RightParen → Atom e ts (skip us)
    unit : {ts : Tokens} → first ts ≡ kind.LeftParen → first (skip ts) ≡ kind.RightParen → Atom (tree.node (line_at ts) (tree.tuple tree.no_exprs)) ts (skip (skip ts))
    tuple : {e : Expr} {es : Exprs} {ts us vs : Tokens} → first ts ≡ kind.LeftParen → IsExpr e (skip ts) us → first us ≡ kind.Comma → Listed es (skip us) vs
        → first vs ≡ kind.RightParen → Atom (tree.node (line_at ts) (tree.tuple (tree.expr e es))) ts (skip vs)
    list : {es : Exprs} {ts us : Tokens} → first ts ≡ kind.LeftBracket → Listed es (skip ts) us → first us ≡ kind.RightBracket
        → Atom (tree.node (line_at ts) (tree.list es)) ts (skip us)
    list_of : {e : Expr} {c : Clause} {cs : Clauses} {ts us vs ws : Tokens} → first ts ≡ kind.LeftBracket → IsExpr e (skip ts) us → IsClause c us vs → IsClauses cs vs ws
        → first ws ≡ kind.RightBracket → Atom (tree.node (line_at ts) (tree.list_of 0 e (tree.clause c cs))) ts (skip ws)
    dict : {ps : Pairs} {ts us : Tokens} → first ts ≡ kind.LeftBrace → Paired ps (skip ts) us → first us ≡ kind.RightBrace
        → Atom (tree.node (line_at ts) (tree.dict ps)) ts (skip us)
    dict_of : {k e : Expr} {c : Clause} {cs : Clauses} {ts us vs ws xs : Tokens} → first ts ≡ kind.LeftBrace → IsExpr k (skip ts) us → first us ≡ kind.Colon → IsExpr e (skip us) vs
        → IsClause c vs ws → IsClauses cs ws xs → first xs ≡ kind.RightBrace → Atom (tree.node (line_at ts) (tree.dict_of 0 k e (tree.clause c cs))) ts (skip xs)

  -- [expr (',' expr)* [',']]
  pub data Listed : Exprs → Tokens → Tokens → Type 0 where
    nothing : {ts : Tokens} → Listed tree.no_exprs ts ts
    last : {e : Expr} {ts us : Tokens} → IsExpr e ts us → Listed (tree.expr e tree.no_exprs) ts us
    more : {e : Expr} {es : Exprs} {ts us vs : Tokens} → IsExpr e ts us → first us ≡ kind.Comma → Listed es (skip us) vs → Listed (tree.expr e es) ts vs

  -- [expr ':' expr (',' expr ':' expr)* [',']]
  pub data Paired : Pairs → Tokens → Tokens → Type 0 where
    no_pair : {ts : Tokens} → Paired tree.no_pairs ts ts
    last_pair : {k e : Expr} {ts us vs : Tokens} → IsExpr k ts us → first us ≡ kind.Colon → IsExpr e (skip us) vs → Paired (tree.pair k e tree.no_pairs) ts vs
    more_pairs : {k e : Expr} {ps : Pairs} {ts us vs ws : Tokens} → IsExpr k ts us → first us ≡ kind.Colon → IsExpr e (skip us) vs → first vs ≡ kind.Comma
        → Paired ps (skip vs) ws → Paired (tree.pair k e ps) ts ws

  -- 'for' target 'in' or ('if' or)*
  pub data IsClause : Clause → Tokens → Tokens → Type 0 where
    a_clause : {p : Target} {line : Line} {e : Expr} {es : Exprs} {ts us vs ws : Tokens} → first ts ≡ kind.For → IsTarget p line (skip ts) us → first us ≡ kind.In
        → Or e (skip us) vs → Ifs es vs ws → IsClause (tree.a_clause (tree.a_walk p e None) es) ts ws

  pub data IsClauses : Clauses → Tokens → Tokens → Type 0 where
    clauses_end : {ts : Tokens} → IsClauses tree.no_clauses ts ts
    clauses_go : {c : Clause} {cs : Clauses} {ts us vs : Tokens} → IsClause c ts us → IsClauses cs us vs → IsClauses (tree.clause c cs) ts vs

  pub data Ifs : Exprs → Tokens → Tokens → Type 0 where
    ifs_end : {ts : Tokens} → Ifs tree.no_exprs ts ts
    ifs_go : {e : Expr} {es : Exprs} {ts us vs : Tokens} → first ts ≡ kind.If → Or e (skip ts) us → Ifs es us vs → Ifs (tree.expr e es) ts vs

  -- NAME | primary '.' NAME | primary '[' expr ']' | '(' place ')'
  pub data IsPlace : Place → Tokens → Tokens → Type 0 where
    place_name : {n : Name} {ts : Tokens} → first ts ≡ kind.Name n → IsPlace (tree.to_name (named n ts)) ts (skip ts)
    place_attr : {e : Expr} {n : Name} {ts us : Tokens} → Primary e ts us → first us ≡ kind.Dot → first (skip us) ≡ kind.Name n
        → IsPlace (tree.to_attr e (named n (skip us)) None) ts (skip (skip us))
    place_item : {e i : Expr} {ts us vs : Tokens} → Primary e ts us → first us ≡ kind.LeftBracket → IsExpr i (skip us) vs → first vs ≡ kind.RightBracket
        → IsPlace (tree.to_item e i None) ts (skip vs)
    place_paren : {p : Place} {ts us : Tokens} → first ts ≡ kind.LeftParen → IsPlace p (skip ts) us → first us ≡ kind.RightParen → IsPlace p ts (skip us)

  -- '(' parts ')' | '[' tpart (',' tpart)* [','] ']' | '(' group ')', with the line at which it begins
  pub data IsGroup : Target → Line → Tokens → Tokens → Type 0 where
    group_parts : {ps : Targets} {line : Line} {ts us : Tokens} → first ts ≡ kind.LeftParen → Parts ps line (skip ts) us → first us ≡ kind.RightParen
        → IsGroup (tree.group ps) (line_at ts) ts (skip us)
    group_list : {p : Target} {ps : Targets} {ts us : Tokens} → first ts ≡ kind.LeftBracket → Targeted (tree.target p ps) (skip ts) us → first us ≡ kind.RightBracket
        → IsGroup (tree.group (tree.target p ps)) (line_at ts) ts (skip us)
    group_paren : {g : Target} {line : Line} {ts us : Tokens} → first ts ≡ kind.LeftParen → IsGroup g line (skip ts) us → first us ≡ kind.RightParen
        → IsGroup g line ts (skip us)

  -- place | group
  pub data Part : Target → Line → Tokens → Tokens → Type 0 where
    part_place : {p : Place} {ts us : Tokens} → IsPlace p ts us → Part (tree.to_place p) (place_line p) ts us
    part_group : {g : Target} {line : Line} {ts us : Tokens} → IsGroup g line ts us → Part g line ts us

  -- [tpart (',' tpart)* [',']]
  pub data Targeted : Targets → Tokens → Tokens → Type 0 where
    no_part : {ts : Tokens} → Targeted tree.no_targets ts ts
    last_part : {p : Target} {line : Line} {ts us : Tokens} → Part p line ts us → Targeted (tree.target p tree.no_targets) ts us
    more_parts : {p : Target} {ps : Targets} {line : Line} {ts us vs : Tokens} → Part p line ts us → first us ≡ kind.Comma → Targeted ps (skip us) vs
        → Targeted (tree.target p ps) ts vs

  -- tpart ',' [tpart (',' tpart)* [',']]
  pub data Parts : Targets → Line → Tokens → Tokens → Type 0 where
    parts : {p : Target} {ps : Targets} {line : Line} {ts us vs : Tokens} → Part p line ts us → first us ≡ kind.Comma → Targeted ps (skip us) vs
        → Parts (tree.target p ps) line ts vs

  -- tpart | parts
  pub data IsTarget : Target → Line → Tokens → Tokens → Type 0 where
    target_part : {p : Target} {line : Line} {ts us : Tokens} → Part p line ts us → IsTarget p line ts us
    target_parts : {ps : Targets} {line : Line} {ts us : Tokens} → Parts ps line ts us → IsTarget (tree.group ps) line ts us

  -- [expr]
  pub data IsMaybe : Maybe → Tokens → Tokens → Type 0 where
    missing : {ts : Tokens} → IsMaybe tree.none ts ts
    present : {e : Expr} {ts us : Tokens} → IsExpr e ts us → IsMaybe (tree.some e) ts us

  pub data IsTrailer : Trailer → Tokens → Tokens → Type 0 where
    attr : {n : Name} {ts : Tokens} → first ts ≡ kind.Dot → first (skip ts) ≡ kind.Name n → IsTrailer (tree.attr (named n (skip ts)) None) ts (skip (skip ts))
    item : {e : Expr} {ts us : Tokens} → first ts ≡ kind.LeftBracket → IsExpr e (skip ts) us → first us ≡ kind.RightBracket → IsTrailer (tree.item e None) ts (skip us)
    slice : {a b : Maybe} {ts us vs : Tokens} → first ts ≡ kind.LeftBracket → IsMaybe a (skip ts) us → first us ≡ kind.Colon → IsMaybe b (skip us) vs
        → first vs ≡ kind.RightBracket → IsTrailer (tree.slice a b tree.none None) ts (skip vs)
    stepped : {a b c : Maybe} {ts us vs ws : Tokens} → first ts ≡ kind.LeftBracket → IsMaybe a (skip ts) us → first us ≡ kind.Colon → IsMaybe b (skip us) vs
        → first vs ≡ kind.Colon → IsMaybe c (skip vs) ws → first ws ≡ kind.RightBracket → IsTrailer (tree.slice a b c None) ts (skip ws)
    -- the names of arguments differ
    call : {xs : Args} {ts us : Tokens} → first ts ≡ kind.LeftParen → IsArgs false xs (skip ts) us → distinct (key_names xs) ≡ true → first us ≡ kind.RightParen → IsTrailer (tree.call xs None) ts (skip us)

  -- an argument, without a name or with one: expr | '*' expr, or NAME '=' expr | '**' expr
  pub data IsArg : Bool → Arg → Tokens → Tokens → Type 0 where
    value : {e : Expr} {ts us : Tokens} → IsExpr e ts us → IsArg false (tree.value e) ts us
    starred : {e : Expr} {ts us : Tokens} → first ts ≡ kind.Star → IsExpr e (skip ts) us → IsArg false (tree.star e) ts us
    key : {n : Name} {e : Expr} {ts us : Tokens} → first ts ≡ kind.Name n → first (skip ts) ≡ kind.Equal → IsExpr e (skip (skip ts)) us → IsArg true (tree.key n e) ts us
    double_starred : {e : Expr} {ts us : Tokens} → first ts ≡ kind.DoubleStar → IsExpr e (skip ts) us → IsArg true (tree.stars e) ts us

  -- Arguments separated by commas, and a comma behind the last or not. Behind one with a name come others with names alone.
  pub data IsArgs : Bool → Args → Tokens → Tokens → Type 0 where
    no_arg : {named : Bool} {ts : Tokens} → IsArgs named tree.no_args ts ts
    last_arg : {named : Bool} {x : Arg} {ts us : Tokens} → IsArg named x ts us → IsArgs named (tree.arg x tree.no_args) ts us
    more_args : {named : Bool} {x : Arg} {xs : Args} {ts us vs : Tokens} → IsArg named x ts us → first us ≡ kind.Comma → IsArgs named xs (skip us) vs → IsArgs named (tree.arg x xs) ts vs
    args_with_names : {x : Arg} {xs : Args} {ts us : Tokens} → IsArgs true (tree.arg x xs) ts us → IsArgs false (tree.arg x xs) ts us

  -- Parameters separated by commas, and a comma behind the last or not: names, names with defaults, `*NAME`, `**NAME`.
  pub data IsParams : Stage → Params → Tokens → Tokens → Type 0 where
    no_param : {stage : Stage} {ts : Tokens} → IsParams stage (tree.params tree.no_plain None None) ts ts
    param : {n : Name} {ps : Params} {ts us : Tokens} → first ts ≡ kind.Name n → Following any ps (skip ts) us → IsParams any (with_plain (named n ts) tree.none ps) ts us
    default : {stage : Stage} {n : Name} {e : Expr} {ps : Params} {ts us vs : Tokens} → MayCome defaults stage → first ts ≡ kind.Name n → first (skip ts) ≡ kind.Equal
        → IsExpr e (skip (skip ts)) us → Following defaults ps us vs → IsParams stage (with_plain (named n ts) (tree.some e) ps) ts vs
    list_param : {stage : Stage} {n : Name} {dict : Option Named} {ts us : Tokens} → MayCome star stage → first ts ≡ kind.Star → first (skip ts) ≡ kind.Name n
        → Following stars (tree.params tree.no_plain None dict) (skip (skip ts)) us → IsParams stage (tree.params tree.no_plain (Some (named n (skip ts))) dict) ts us
    dict_param : {stage : Stage} {n : Name} {ts us : Tokens} → MayCome stars stage → first ts ≡ kind.DoubleStar → first (skip ts) ≡ kind.Name n
        → Following closed (tree.params tree.no_plain None None) (skip (skip ts)) us → IsParams stage (tree.params tree.no_plain None (Some (named n (skip ts)))) ts us

  -- no parameter, or a comma and what may still come
  pub data Following : Stage → Params → Tokens → Tokens → Type 0 where
    no_more : {stage : Stage} {ts : Tokens} → Following stage (tree.params tree.no_plain None None) ts ts
    comma : {stage : Stage} {ps : Params} {ts us : Tokens} → first ts ≡ kind.Comma → IsParams stage ps (skip ts) us → Following stage ps ts us

  pub data Trail : Trailers → Tokens → Tokens → Type 0 where
    ends : {ts : Tokens} → Trail tree.no_trailers ts ts
    goes : {x : Trailer} {xs : Trailers} {ts us vs : Tokens} → IsTrailer x ts us → Trail xs us vs → Trail (tree.trailer x xs) ts vs

  -- atom trailer*
  pub data Primary : Expr → Tokens → Tokens → Type 0 where
    bare : {e : Expr} {ts us : Tokens} → Atom e ts us → Primary e ts us
    trailed : {e : Expr} {x : Trailer} {xs : Trailers} {ts us vs ws : Tokens} → Atom e ts us → IsTrailer x us vs → Trail xs vs ws
        → Primary (tree.node (line_of e) (tree.primary e (tree.trailer x xs))) ts ws

  -- primary ['**' unary]
  pub data Power : Expr → Tokens → Tokens → Type 0 where
    base : {e : Expr} {ts us : Tokens} → Primary e ts us → Power e ts us
    raised : {e f : Expr} {ts us vs : Tokens} → Primary e ts us → first us ≡ kind.DoubleStar → Unary f (skip us) vs → Power (tree.node (line_of e) (tree.power e f)) ts vs

  -- ('-' | '+' | '~') unary | power
  pub data Unary : Expr → Tokens → Tokens → Type 0 where
    unsigned : {e : Expr} {ts us : Tokens} → Power e ts us → Unary e ts us
    signed : {o : UnOp} {e : Expr} {ts us : Tokens} → unary_of (first ts) ≡ Some o → Unary e (skip ts) us → Unary (tree.node (line_at ts) (tree.unary o e)) ts us

  -- term, sum, shift, band, xor and bor: operands joined by operators of one looseness, which bind those of less
  pub data Chain : ℕ → Expr → Tokens → Tokens → Type 0 where
    operand : {e : Expr} {ts us : Tokens} → Unary e ts us → Chain zero e ts us
    tighter : {k : ℕ} {e : Expr} {ts us : Tokens} → Chain k e ts us → Chain (suc k) e ts us
    chained : {k : ℕ} {e f : Expr} {o : BinOp} {os : Ops} {ts us vs ws : Tokens} → Chain k e ts us → binary_of (first us) ≡ Some o → looseness o ≡ suc k → Chain k f (skip us) vs
        → Chained k os vs ws → Chain (suc k) (tree.node (line_of e) (tree.chain e (tree.op o f os))) ts ws

  pub data Chained : ℕ → Ops → Tokens → Tokens → Type 0 where
    chain_ends : {k : ℕ} {ts : Tokens} → Chained k tree.no_ops ts ts
    chain_goes : {k : ℕ} {f : Expr} {o : BinOp} {os : Ops} {us vs ws : Tokens} → binary_of (first us) ≡ Some o → looseness o ≡ suc k → Chain k f (skip us) vs → Chained k os vs ws
        → Chained k (tree.op o f os) us ws

  -- bor ((< | <= | > | >= | == | != | 'in' | 'not' 'in') bor | 'is' ['not'] 'None')*
  pub data Compare : Expr → Tokens → Tokens → Type 0 where
    single : {e : Expr} {ts us : Tokens} → Chain loosest e ts us → Compare e ts us
    compared : {e f : Expr} {x : Test} {xs : Tests} {ts us vs ws : Tokens} → Chain loosest e ts us → Tested x f us vs → Compared xs vs ws
        → Compare (tree.node (line_of e) (tree.compare e (tree.test x f xs))) ts ws

  -- an operator of comparison and its right operand
  pub data Tested : Test → Expr → Tokens → Tokens → Type 0 where
    test : {f : Expr} {x : Test} {ts us vs : Tokens} → IsTest x ts us → Chain loosest f us vs → Tested x f ts vs
    is_none : {ts : Tokens} → first ts ≡ kind.Is → first (skip ts) ≡ kind.None → Tested Is (tree.node (line_at (skip ts)) (tree.const Nil)) ts (skip (skip ts))
    is_not_none : {ts : Tokens} → first ts ≡ kind.Is → first (skip ts) ≡ kind.Not → first (skip (skip ts)) ≡ kind.None
        → Tested IsNot (tree.node (line_at (skip (skip ts))) (tree.const Nil)) ts (skip (skip (skip ts)))

  pub data Compared : Tests → Tokens → Tokens → Type 0 where
    tests_end : {ts : Tokens} → Compared tree.no_tests ts ts
    tests_go : {f : Expr} {x : Test} {xs : Tests} {us vs ws : Tokens} → Tested x f us vs → Compared xs vs ws → Compared (tree.test x f xs) us ws

  -- 'not' not | compare
  pub data Not : Expr → Tokens → Tokens → Type 0 where
    asserted : {e : Expr} {ts us : Tokens} → Compare e ts us → Not e ts us
    negated : {e : Expr} {ts us : Tokens} → first ts ≡ kind.Not → Not e (skip ts) us → Not (tree.node (line_at ts) (tree.not e)) ts us

  -- not ('and' not)*
  pub data And : Expr → Tokens → Tokens → Type 0 where
    and_single : {e : Expr} {ts us : Tokens} → Not e ts us → And e ts us
    and_several : {e f : Expr} {es : Exprs} {ts us vs ws : Tokens} → Not e ts us → first us ≡ kind.And → Not f (skip us) vs → Ands es vs ws
        → And (tree.node (line_of e) (tree.and (tree.expr e (tree.expr f es)))) ts ws

  pub data Ands : Exprs → Tokens → Tokens → Type 0 where
    ands_end : {ts : Tokens} → Ands tree.no_exprs ts ts
    ands_go : {f : Expr} {es : Exprs} {us vs ws : Tokens} → first us ≡ kind.And → Not f (skip us) vs → Ands es vs ws → Ands (tree.expr f es) us ws

  -- and ('or' and)*
  pub data Or : Expr → Tokens → Tokens → Type 0 where
    or_single : {e : Expr} {ts us : Tokens} → And e ts us → Or e ts us
    or_several : {e f : Expr} {es : Exprs} {ts us vs ws : Tokens} → And e ts us → first us ≡ kind.Or → And f (skip us) vs → Ors es vs ws
        → Or (tree.node (line_of e) (tree.or (tree.expr e (tree.expr f es)))) ts ws

  pub data Ors : Exprs → Tokens → Tokens → Type 0 where
    ors_end : {ts : Tokens} → Ors tree.no_exprs ts ts
    ors_go : {f : Expr} {es : Exprs} {us vs ws : Tokens} → first us ≡ kind.Or → And f (skip us) vs → Ors es vs ws → Ors (tree.expr f es) us ws

  -- 'lambda' [params] ':' expr | or ['if' or 'else' expr]
  pub data IsExpr : Expr → Tokens → Tokens → Type 0 where
    -- the names of parameters differ
    a_lambda : {ps : Params} {e : Expr} {ts us vs : Tokens} → first ts ≡ kind.Lambda → IsParams any ps (skip ts) us → distinct (parameter_names ps) ≡ true → first us ≡ kind.Colon → IsExpr e (skip us) vs
        → IsExpr (tree.node (line_at ts) (tree.lambda 0 ps e)) ts vs
    unconditional : {e : Expr} {ts us : Tokens} → Or e ts us → IsExpr e ts us
    cond : {yes test no : Expr} {ts us vs ws : Tokens} → Or yes ts us → first us ≡ kind.If → Or test (skip us) vs → first vs ≡ kind.Else → IsExpr no (skip vs) ws
        → IsExpr (tree.node (line_of yes) (tree.cond test yes no)) ts ws

-- expr (',' expr)* [',']: a comma makes a tuple
pub data IsExprs : Expr → Tokens → Tokens → Type 0 where
  an_expr : {e : Expr} {ts us : Tokens} → IsExpr e ts us → IsExprs e ts us
  several : {e : Expr} {es : Exprs} {ts us vs : Tokens} → IsExpr e ts us → first us ≡ kind.Comma → Listed es (skip us) vs
      → IsExprs (tree.node (line_of e) (tree.tuple (tree.expr e es))) ts vs
