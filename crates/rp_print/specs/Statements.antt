-- The text of statements and of a whole tree (Python Language Reference, Simple statements, Compound statements;
-- RestrictedPython, transformer): one statement a line, blocks on lines of their own.
use Rattle.std.specs.Prelude.{ℕ, suc, Bool, true, false, List, [], ◌∷◌, codes, Option, Some, None}
use Rattle.rp_base.specs.declared.operator.BinOp.{BinOp}
use Rattle.rp_tree.specs.declared.parts.Guard.{Guard}
use Rattle.rp_tree.specs.declared.parts.Named.{Named}
use Rattle.rp_tree.specs.ExpressionTrees as trees
use Rattle.rp_tree.specs.ExpressionTrees.{Expr, Target, Place}
use Rattle.rp_tree.specs.StatementTrees as stmt_trees
use Rattle.rp_tree.specs.StatementTrees.{Stmt, StmtForm, Stmts, MaybeStmts, Branches, Except, Excepts}
use Rattle.rp_print.specs.Texts.{◌⧺◌, call_text, line, listed}
use Rattle.rp_print.specs.Operators.{binary_text}
use Rattle.rp_print.specs.Expressions.{expr_text, params_texts, place_text, spec_text, statement_iterable}
use Rattle.rp_print.specs.Expressions.{target_text, walk_text}

-- a value that is handed to a guard, by the list of targets over which it is dealt out
abbrev pub unpacked : {A : Type 0} → Target A → List ℕ → List ℕ
unpacked (trees.to_place p) e = e
unpacked (trees.group ps) e = call_text (codes "_unpack_sequence_") (e ∷ spec_text ps ∷ codes "_getiter_" ∷ [])

-- the mark of an augmented assignment
abbrev pub augmented_text : BinOp → List ℕ
augmented_text o = binary_text o ⧺ codes "="

-- the keyword of the first branch, and of a further one
abbrev pub branch_keyword : Bool → List ℕ
branch_keyword true = codes "if "
branch_keyword false = codes "elif "

-- where names stand for these words
module _ {A : Type 0} (word : A → List ℕ) where
  -- places, each before an assignment mark
  abbrev pub assigned_text : List (Place A) → List ℕ
  assigned_text [] = []
  assigned_text (p ∷ ps) = place_text word p ⧺ codes " = " ⧺ assigned_text ps

  abbrev pub places_texts : List (Place A) → List (List ℕ)
  places_texts [] = []
  places_texts (p ∷ ps) = place_text word p ∷ places_texts ps

  abbrev pub names_texts : List (Named A) → List (List ℕ)
  names_texts [] = []
  names_texts (n ∷ ns) = word n.name ∷ names_texts ns

  -- an expression behind what stands before it, where there is one
  abbrev pub behind : List ℕ → Option (Expr A) → List ℕ
  behind before None = []
  behind before (Some e) = before ⧺ expr_text word e

  abbrev pub bound_name : Option (Named A) → List ℕ
  bound_name None = []
  bound_name (Some n) = codes " as " ⧺ word n.name

  abbrev pub value_text : Option Guard → Target A → Expr A → List ℕ
  value_text None p e = expr_text word e
  value_text (Some g) p e = unpacked p (expr_text word e)

  abbrev pub aug_text : Option Guard → Place A → BinOp → Expr A → List ℕ
  aug_text None p o e = place_text word p ⧺ codes " " ⧺ augmented_text o ⧺ codes " " ⧺ expr_text word e
  aug_text (Some g) p o e =
      place_text word p
      ⧺ codes " = "
      ⧺ call_text (codes "_inplacevar_")
      ((codes "'" ⧺ augmented_text o ⧺ codes "'") ∷ place_text word p ∷ expr_text word e ∷ [])

  -- a simple statement
  abbrev pub simple_text : StmtForm A → List ℕ
  simple_text (stmt_trees.evaluate e) = expr_text word e
  simple_text (stmt_trees.assign ps e) = assigned_text ps ⧺ expr_text word e
  simple_text (stmt_trees.unpack p e g) = target_text word p ⧺ codes " = " ⧺ value_text g p e
  simple_text (stmt_trees.aug p o at e g) = aug_text g p o e
  simple_text (stmt_trees.del ps) = codes "del " ⧺ listed (places_texts ps)
  simple_text stmt_trees.pass = codes "pass"
  simple_text stmt_trees.break = codes "break"
  simple_text stmt_trees.continue = codes "continue"
  simple_text (stmt_trees.give_back e) = codes "return" ⧺ behind (codes " ") e
  simple_text (stmt_trees.raise e) = codes "raise" ⧺ behind (codes " ") e
  simple_text (stmt_trees.assert e m) = codes "assert " ⧺ expr_text word e ⧺ behind (codes ", ") m
  simple_text (stmt_trees.global ns) = codes "global " ⧺ listed (names_texts ns)
  simple_text _ = []

  -- statements within so many blocks
  abbrev mutual
    pub stmt_lines : ℕ → Stmt A → List ℕ
    stmt_lines d (stmt_trees.a_stmt l x) = stmt_form_lines d x

    pub stmt_form_lines : ℕ → StmtForm A → List ℕ
    stmt_form_lines d (stmt_trees.choose bs o) = branches_lines d true bs ⧺ maybe_block d (codes "else:") o
    stmt_form_lines d (stmt_trees.while e b) = line d (codes "while " ⧺ expr_text word e ⧺ codes ":") ⧺ stmts_lines (suc d) b
    stmt_form_lines d (stmt_trees.for w b) =
        line d (walk_text word w ⧺ statement_iterable word w ⧺ codes ":") ⧺ stmts_lines (suc d) b
    stmt_form_lines d (stmt_trees.try b hs o l) =
        line d (codes "try:")
        ⧺ stmts_lines (suc d) b
        ⧺ excepts_lines d hs
        ⧺ maybe_block d (codes "else:") o
        ⧺ maybe_block d (codes "finally:") l
    stmt_form_lines d (stmt_trees.define k n ps b) =
        line d (codes "def " ⧺ word n.name ⧺ codes "(" ⧺ listed (params_texts word ps) ⧺ codes "):")
        ⧺ stmts_lines (suc d) b
    stmt_form_lines d (stmt_trees.class n b) = line d (codes "class " ⧺ word n.name ⧺ codes ":") ⧺ stmts_lines (suc d) b
    stmt_form_lines d x = line d (simple_text x)

    pub stmts_lines : ℕ → Stmts A → List ℕ
    stmts_lines d stmt_trees.no_stmts = []
    stmts_lines d (stmt_trees.stmt x xs) = stmt_lines d x ⧺ stmts_lines d xs

    -- a block behind its keyword, where there is one
    pub maybe_block : ℕ → List ℕ → MaybeStmts A → List ℕ
    maybe_block d keyword stmt_trees.none = []
    maybe_block d keyword (stmt_trees.some b) = line d keyword ⧺ stmts_lines (suc d) b

    pub branches_lines : ℕ → Bool → Branches A → List ℕ
    branches_lines d first stmt_trees.no_branches = []
    branches_lines d first (stmt_trees.branch e b bs) =
        line d (branch_keyword first ⧺ expr_text word e ⧺ codes ":")
        ⧺ stmts_lines (suc d) b
        ⧺ branches_lines d false bs

    pub excepts_lines : ℕ → Excepts A → List ℕ
    excepts_lines d stmt_trees.no_excepts = []
    excepts_lines d (stmt_trees.except x xs) = except_lines d x ⧺ excepts_lines d xs

    pub except_lines : ℕ → Except A → List ℕ
    except_lines d (stmt_trees.an_except k n b) =
        line d (codes "except" ⧺ behind (codes " ") k ⧺ bound_name n ⧺ codes ":") ⧺ stmts_lines (suc d) b

-- the text of a tree, by the words that its names stand for
abbrev pub printed_by : {A : Type 0} → (A → List ℕ) → Stmts A → List ℕ
printed_by word = stmts_lines word 0

-- the text of a tree whose names are texts
abbrev pub printed : Stmts (List ℕ) → List ℕ
printed = printed_by (λ word. word)
