-- The grammar of statements, a constructor for each production (Python Language Reference, Simple statements and Compound statements).
-- `IsStatement c xs ts us` says that the statements xs, which stand in the context c, are spelled by the tokens from ts up to us.
use Rattle.std.specs.Prelude.{◌≡◌, Bool, true, false, ◌&&◌, not, List, [], ◌∷◌, Option, None, Some}
use Rattle.std.specs.List.{list_all, list_any}
use Rattle.rp_base.specs.declared.operator.BinOp.{BinOp}
use Rattle.rp_base.specs.declared.value.Line.{Line}
use Rattle.rp_base.specs.declared.value.Name.{Name}
use Rattle.rp_token.specs.declared.token.TokenKind.TheVariants as kind
use Rattle.rp_tree.specs.Expressions as tree
use Rattle.rp_tree.specs.Expressions.{Named, Expr, Place, Target, Targets, Params}
use Rattle.rp_tree.specs.Statements as stmt_tree
use Rattle.rp_tree.specs.Statements.{Stmt, StmtForm, Stmts, MaybeStmts, Branches, Except, Excepts}
use Rattle.rp_grammar.specs.Kinds.{Tokens, first, line_at, skip, augmented_of}
use Rattle.rp_grammar.specs.Expressions.{line_of, place_line, named, parameter_names, same_name, distinct, any, IsExpr, IsExprs, IsPlace, IsGroup, Parts, IsTarget, IsParams}

-- What a statement stands in: the block of a loop or of a handler of the same function, a class at any depth, and a function, with the
-- names of its parameters.
pub record Context : Type 0 where
  pub loop : Bool
  pub handler : Bool
  pub class : Bool
  pub function : Option (List Name)

abbrev pub top : Context
top = record { loop = false; handler = false; class = false; function = None }

abbrev pub in_loop : Context → Context
in_loop c = record c { loop = true }

abbrev pub in_handler : Context → Context
in_handler c = record c { handler = true }

abbrev pub in_class : Context → Context
in_class c = record c { class = true }

abbrev pub in_function : Params → Context → Context
in_function ps c = record { loop = false; handler = false; class = c.class; function = Some (parameter_names ps) }

abbrev pub is_in_function : Context → Bool
is_in_function c = is_function c.function where
  is_function : Option (List Name) → Bool
  is_function None = false
  is_function (Some ns) = true

abbrev pub joined : Stmts → Stmts → Stmts
joined stmt_tree.no_stmts ys = ys
joined (stmt_tree.stmt x xs) ys = stmt_tree.stmt x (joined xs ys)

abbrev pub one : Stmt → Stmts
one x = stmt_tree.stmt x stmt_tree.no_stmts

-- NAME (',' NAME)*
pub data IsNames : List Named → Tokens → Tokens → Type 0 where
  last_name : {n : Name} {ts : Tokens} → first ts ≡ kind.Name n → IsNames (named n ts ∷ []) ts (skip ts)
  more_names : {n : Name} {ns : List Named} {ts us : Tokens} → first ts ≡ kind.Name n → first (skip ts) ≡ kind.Comma → IsNames ns (skip (skip ts)) us
      → IsNames (named n ts ∷ ns) ts us

-- place (',' place)* [',']
pub data IsPlaces : List Place → Tokens → Tokens → Type 0 where
  last_place : {p : Place} {ts us : Tokens} → IsPlace p ts us → IsPlaces (p ∷ []) ts us
  last_comma : {p : Place} {ts us : Tokens} → IsPlace p ts us → first us ≡ kind.Comma → IsPlaces (p ∷ []) ts (skip us)
  more_places : {p : Place} {ps : List Place} {ts us vs : Tokens} → IsPlace p ts us → first us ≡ kind.Comma → IsPlaces ps (skip us) vs → IsPlaces (p ∷ ps) ts vs

-- place '=' (place '=')*
pub data Assigned : List Place → Tokens → Tokens → Type 0 where
  last_assigned : {p : Place} {ts us : Tokens} → IsPlace p ts us → first us ≡ kind.Equal → Assigned (p ∷ []) ts (skip us)
  more_assigned : {p : Place} {ps : List Place} {ts us vs : Tokens} → IsPlace p ts us → first us ≡ kind.Equal → Assigned ps (skip us) vs → Assigned (p ∷ ps) ts vs

-- group | parts, with the line at which it begins
pub data IsUnpacked : Target → Line → Tokens → Tokens → Type 0 where
  a_group : {g : Target} {line : Line} {ts us : Tokens} → IsGroup g line ts us → IsUnpacked g line ts us
  some_parts : {ps : Targets} {line : Line} {ts us : Tokens} → Parts ps line ts us → IsUnpacked (tree.group ps) line ts us

-- the names that `global` may name: none that is a parameter of the function
abbrev pub is_free : Option (List Name) → Named → Bool
is_free None n = true
is_free (Some ns) n = not (list_any (same_name n.name) ns)

-- a simple statement, but for those that begin with an expression
pub data IsSimple : Context → Stmt → Tokens → Tokens → Type 0 where
  is_pass : {c : Context} {ts : Tokens} → first ts ≡ kind.Pass → IsSimple c (stmt_tree.a_stmt (line_at ts) stmt_tree.pass) ts (skip ts)
  -- `break` and `continue` stand in a loop's block of the same function
  is_break : {c : Context} {ts : Tokens} → c.loop ≡ true → first ts ≡ kind.Break → IsSimple c (stmt_tree.a_stmt (line_at ts) stmt_tree.break) ts (skip ts)
  is_continue : {c : Context} {ts : Tokens} → c.loop ≡ true → first ts ≡ kind.Continue → IsSimple c (stmt_tree.a_stmt (line_at ts) stmt_tree.continue) ts (skip ts)
  -- `return` stands in a function
  is_return : {c : Context} {ts : Tokens} → is_in_function c ≡ true → first ts ≡ kind.Return → IsSimple c (stmt_tree.a_stmt (line_at ts) (stmt_tree.give_back None)) ts (skip ts)
  returns_value : {c : Context} {e : Expr} {ts us : Tokens} → is_in_function c ≡ true → first ts ≡ kind.Return → IsExprs e (skip ts) us
      → IsSimple c (stmt_tree.a_stmt (line_at ts) (stmt_tree.give_back (Some e))) ts us
  -- `raise` alone stands in a handler's block of the same function
  raises_again : {c : Context} {ts : Tokens} → c.handler ≡ true → first ts ≡ kind.Raise → IsSimple c (stmt_tree.a_stmt (line_at ts) (stmt_tree.raise None)) ts (skip ts)
  is_raise : {c : Context} {e : Expr} {ts us : Tokens} → first ts ≡ kind.Raise → IsExpr e (skip ts) us → IsSimple c (stmt_tree.a_stmt (line_at ts) (stmt_tree.raise (Some e))) ts us
  is_assert : {c : Context} {e : Expr} {ts us : Tokens} → first ts ≡ kind.Assert → IsExpr e (skip ts) us → IsSimple c (stmt_tree.a_stmt (line_at ts) (stmt_tree.assert e None)) ts us
  asserts_with_text : {c : Context} {e f : Expr} {ts us vs : Tokens} → first ts ≡ kind.Assert → IsExpr e (skip ts) us → first us ≡ kind.Comma → IsExpr f (skip us) vs
      → IsSimple c (stmt_tree.a_stmt (line_at ts) (stmt_tree.assert e (Some f))) ts vs
  -- `global` stands in no class
  is_global : {c : Context} {ns : List Named} {ts us : Tokens} → c.class ≡ false → list_all (is_free c.function) ns ≡ true → first ts ≡ kind.Global → IsNames ns (skip ts) us
      → IsSimple c (stmt_tree.a_stmt (line_at ts) (stmt_tree.global ns)) ts us
  is_del : {c : Context} {ps : List Place} {ts us : Tokens} → first ts ≡ kind.Del → IsPlaces ps (skip ts) us → IsSimple c (stmt_tree.a_stmt (line_at ts) (stmt_tree.del ps)) ts us
  is_value : {c : Context} {e : Expr} {ts us : Tokens} → IsExprs e ts us → IsSimple c (stmt_tree.a_stmt (line_of e) (stmt_tree.evaluate e)) ts us
  is_augmented : {c : Context} {p : Place} {o : BinOp} {e : Expr} {ts us vs : Tokens} → IsPlace p ts us → augmented_of (first us) ≡ Some o → IsExprs e (skip us) vs
      → IsSimple c (stmt_tree.a_stmt (place_line p) (stmt_tree.aug p o (line_at us) e None)) ts vs
  is_assignment : {c : Context} {p : Place} {ps : List Place} {e : Expr} {ts us vs : Tokens} → Assigned (p ∷ ps) ts us → IsExprs e us vs
      → IsSimple c (stmt_tree.a_stmt (place_line p) (stmt_tree.assign (p ∷ ps) e)) ts vs
  is_unpacking : {c : Context} {g : Target} {line : Line} {e : Expr} {ts us vs : Tokens} → IsUnpacked g line ts us → first us ≡ kind.Equal → IsExprs e (skip us) vs
      → IsSimple c (stmt_tree.a_stmt line (stmt_tree.unpack g e None)) ts vs

-- simple (';' simple)* [';'] NEWLINE
pub data IsLine : Context → Stmts → Tokens → Tokens → Type 0 where
  line_end : {c : Context} {x : Stmt} {ts us : Tokens} → IsSimple c x ts us → first us ≡ kind.Newline → IsLine c (one x) ts (skip us)
  line_semicolon : {c : Context} {x : Stmt} {ts us : Tokens} → IsSimple c x ts us → first us ≡ kind.Semicolon → first (skip us) ≡ kind.Newline
      → IsLine c (one x) ts (skip (skip us))
  line_more : {c : Context} {x : Stmt} {xs : Stmts} {ts us vs : Tokens} → IsSimple c x ts us → first us ≡ kind.Semicolon → IsLine c xs (skip us) vs
      → IsLine c (stmt_tree.stmt x xs) ts vs

-- a member of a class: a function definition, `pass` or a text literal
abbrev pub is_member : Stmt → Bool
is_member (stmt_tree.a_stmt line (stmt_tree.define k n ps b)) = true
is_member (stmt_tree.a_stmt line stmt_tree.pass) = true
is_member (stmt_tree.a_stmt line (stmt_tree.evaluate (tree.node l (tree.text cs)))) = true
is_member x = false

abbrev pub are_members : Stmts → Bool
are_members stmt_tree.no_stmts = true
are_members (stmt_tree.stmt x xs) = is_member x && are_members xs

mutual
  pub data IsStatement : Context → Stmts → Tokens → Tokens → Type 0 where
    a_line : {c : Context} {xs : Stmts} {ts us : Tokens} → IsLine c xs ts us → IsStatement c xs ts us
    a_compound : {c : Context} {form : StmtForm} {ts us : Tokens} → IsCompound c form ts us → IsStatement c (one (stmt_tree.a_stmt (line_at ts) form)) ts us

  pub data IsCompound : Context → StmtForm → Tokens → Tokens → Type 0 where
    is_if : {c : Context} {e : Expr} {b : Stmts} {bs : Branches} {other : MaybeStmts} {ts us vs ws xs : Tokens} → first ts ≡ kind.If → IsExpr e (skip ts) us → IsSuite c b us vs
        → IsElifs c bs vs ws → IsElse c other ws xs → IsCompound c (stmt_tree.choose (stmt_tree.branch e b bs) other) ts xs
    is_while : {c : Context} {e : Expr} {b : Stmts} {ts us vs : Tokens} → first ts ≡ kind.While → IsExpr e (skip ts) us → IsSuite (in_loop c) b us vs
        → IsCompound c (stmt_tree.while e b) ts vs
    is_for : {c : Context} {p : Target} {line : Line} {e : Expr} {b : Stmts} {ts us vs ws : Tokens} → first ts ≡ kind.For → IsTarget p line (skip ts) us → first us ≡ kind.In
        → IsExprs e (skip us) vs → IsSuite (in_loop c) b vs ws → IsCompound c (stmt_tree.for (tree.a_walk p e None) b) ts ws
    -- 'try' ':' block handler+ ['else' ':' block] ['finally' ':' block]
    is_try : {c : Context} {b : Stmts} {h : Except} {hs : Excepts} {other last : MaybeStmts} {ts us vs ws xs : Tokens} → first ts ≡ kind.Try → IsSuite c b (skip ts) us
        → IsHandlers c (stmt_tree.except h hs) us vs → IsElse c other vs ws → IsFinally c last ws xs → IsCompound c (stmt_tree.try b (stmt_tree.except h hs) other last) ts xs
    -- 'try' ':' block 'finally' ':' block
    is_try_finally : {c : Context} {b last : Stmts} {ts us vs : Tokens} → first ts ≡ kind.Try → IsSuite c b (skip ts) us → IsFinally c (stmt_tree.some last) us vs
        → IsCompound c (stmt_tree.try b stmt_tree.no_excepts stmt_tree.none (stmt_tree.some last)) ts vs
    -- the names of parameters differ
    is_def : {c : Context} {n : Name} {ps : Params} {b : Stmts} {ts us vs : Tokens} → first ts ≡ kind.Def → first (skip ts) ≡ kind.Name n → first (skip (skip ts)) ≡ kind.LeftParen
        → IsParams any ps (skip (skip (skip ts))) us → distinct (parameter_names ps) ≡ true → first us ≡ kind.RightParen → IsSuite (in_function ps c) b (skip us) vs
        → IsCompound c (stmt_tree.define 0 (named n (skip ts)) ps b) ts vs
    -- a class has members alone
    is_class : {c : Context} {n : Name} {b : Stmts} {ts us vs : Tokens} → first ts ≡ kind.Class → first (skip ts) ≡ kind.Name n → IsEmptyBases (skip (skip ts)) us
        → IsSuite (in_class c) b us vs → are_members b ≡ true → IsCompound c (stmt_tree.class (named n (skip ts)) b) ts vs

  -- ['(' ')']
  pub data IsEmptyBases : Tokens → Tokens → Type 0 where
    no_bases : {ts : Tokens} → IsEmptyBases ts ts
    empty_bases : {ts : Tokens} → first ts ≡ kind.LeftParen → first (skip ts) ≡ kind.RightParen → IsEmptyBases ts (skip (skip ts))

  -- ('elif' expr ':' block)*
  pub data IsElifs : Context → Branches → Tokens → Tokens → Type 0 where
    no_elif : {c : Context} {ts : Tokens} → IsElifs c stmt_tree.no_branches ts ts
    an_elif : {c : Context} {e : Expr} {b : Stmts} {bs : Branches} {ts us vs ws : Tokens} → first ts ≡ kind.Elif → IsExpr e (skip ts) us → IsSuite c b us vs → IsElifs c bs vs ws
        → IsElifs c (stmt_tree.branch e b bs) ts ws

  -- ['else' ':' block]
  pub data IsElse : Context → MaybeStmts → Tokens → Tokens → Type 0 where
    no_else : {c : Context} {ts : Tokens} → IsElse c stmt_tree.none ts ts
    an_else : {c : Context} {b : Stmts} {ts us : Tokens} → first ts ≡ kind.Else → IsSuite c b (skip ts) us → IsElse c (stmt_tree.some b) ts us

  -- ['finally' ':' block]
  pub data IsFinally : Context → MaybeStmts → Tokens → Tokens → Type 0 where
    no_finally : {c : Context} {ts : Tokens} → IsFinally c stmt_tree.none ts ts
    a_finally : {c : Context} {b : Stmts} {ts us : Tokens} → first ts ≡ kind.Finally → IsSuite c b (skip ts) us → IsFinally c (stmt_tree.some b) ts us

  -- handler*: one without an expression is the last
  pub data IsHandlers : Context → Excepts → Tokens → Tokens → Type 0 where
    no_handler : {c : Context} {ts : Tokens} → IsHandlers c stmt_tree.no_excepts ts ts
    handles_all : {c : Context} {b : Stmts} {ts us : Tokens} → first ts ≡ kind.Except → IsSuite (in_handler c) b (skip ts) us
        → IsHandlers c (stmt_tree.except (stmt_tree.an_except None None b) stmt_tree.no_excepts) ts us
    handles : {c : Context} {e : Expr} {b : Stmts} {hs : Excepts} {ts us vs ws : Tokens} → first ts ≡ kind.Except → IsExpr e (skip ts) us → IsSuite (in_handler c) b us vs
        → IsHandlers c hs vs ws → IsHandlers c (stmt_tree.except (stmt_tree.an_except (Some e) None b) hs) ts ws
    handles_named : {c : Context} {e : Expr} {n : Name} {b : Stmts} {hs : Excepts} {ts us vs ws : Tokens} → first ts ≡ kind.Except → IsExpr e (skip ts) us → first us ≡ kind.As
        → first (skip us) ≡ kind.Name n → IsSuite (in_handler c) b (skip (skip us)) vs → IsHandlers c hs vs ws
        → IsHandlers c (stmt_tree.except (stmt_tree.an_except (Some e) (Some (named n (skip us))) b) hs) ts ws

  -- ':' block
  pub data IsSuite : Context → Stmts → Tokens → Tokens → Type 0 where
    suite : {c : Context} {xs : Stmts} {ts us : Tokens} → first ts ≡ kind.Colon → IsBlock c xs (skip ts) us → IsSuite c xs ts us

  -- a line, or NEWLINE INDENT statement+ DEDENT
  pub data IsBlock : Context → Stmts → Tokens → Tokens → Type 0 where
    one_line : {c : Context} {xs : Stmts} {ts us : Tokens} → IsLine c xs ts us → IsBlock c xs ts us
    indented : {c : Context} {xs ys : Stmts} {ts us vs : Tokens} → first ts ≡ kind.Newline → first (skip ts) ≡ kind.Indent → IsStatement c xs (skip (skip ts)) us
        → IsStatements c ys us vs → first vs ≡ kind.Dedent → IsBlock c (joined xs ys) ts (skip vs)

  -- statement*
  pub data IsStatements : Context → Stmts → Tokens → Tokens → Type 0 where
    no_statement : {c : Context} {ts : Tokens} → IsStatements c stmt_tree.no_stmts ts ts
    more_statements : {c : Context} {xs ys : Stmts} {ts us vs : Tokens} → IsStatement c xs ts us → IsStatements c ys us vs → IsStatements c (joined xs ys) ts vs
