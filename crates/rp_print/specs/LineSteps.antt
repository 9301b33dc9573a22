-- How a page grows while the code walks over statements: it goes from one part to the next.
use Rattle.std.specs.Prelude.{ℕ, suc, Bool, true, false, List, [], ◌∷◌, codes, Option, Some, None}
use Rattle.std.specs.declared.vec.Vec.{Vec}
use Rattle.std.specs.declared.alloc.Global.{Global}
use Rattle.rp_base.specs.declared.operator.BinOp.{BinOp}
use Rattle.rp_tree.specs.declared.parts.Guard.{Guard}
use Rattle.rp_tree.specs.declared.parts.Named.{Named}
use Rattle.rp_tree.specs.declared.stmt.Stmt as program_stmt
use Rattle.rp_tree.specs.ExpressionTrees as trees
use Rattle.rp_tree.specs.ExpressionTrees.{Expr, Params, Place, Target, Walk}
use Rattle.rp_tree.specs.StatementTrees as stmt_trees
use Rattle.rp_tree.specs.StatementTrees.{Stmt, StmtForm, Stmts, MaybeStmts, Branches, Except, Excepts}
use Rattle.rp_print.specs.Texts.{indentation}
use Rattle.rp_print.specs.Operators.{binary_text}
use Rattle.rp_print.specs.Statements.{branch_keyword}
use Rattle.rp_print.specs.PageSteps.{gap, written}
use Rattle.rp_print.specs.WritingSteps.{opened, put_dealing, put_expr, put_params, put_place, put_statement_iterable}
use Rattle.rp_print.specs.WritingSteps.{put_target, put_walk}

-- what stands before and behind a value that is handed to a guard
abbrev pub open_unpacking : {A : Type 0} → Target A → List ℕ → List ℕ
open_unpacking (trees.to_place p) page = page
open_unpacking (trees.group ps) page = opened (codes "_unpack_sequence_") page

abbrev pub close_unpacking : {A : Type 0} → Target A → List ℕ → List ℕ
close_unpacking (trees.to_place p) page = page
close_unpacking (trees.group ps) page = put_dealing ps page

-- the end of the line before a block
abbrev pub end_head : List ℕ → List ℕ
end_head page = written (written page (codes ":")) (codes "\n")

-- the line of a keyword before a block, and the same where the block is there
abbrev pub put_head : ℕ → List ℕ → List ℕ → List ℕ
put_head d keyword page = written (written (written page (indentation d)) keyword) (codes "\n")

abbrev pub put_keyword : ℕ → List ℕ → Option (Vec program_stmt.Stmt Global) → List ℕ → List ℕ
put_keyword d keyword None page = page
put_keyword d keyword (Some block) page = put_head d keyword page

-- the mark of an augmented assignment
abbrev pub put_mark : BinOp → List ℕ → List ℕ
put_mark o page = written (written page (binary_text o)) (codes "=")

-- where names stand for these words
module _ {A : Type 0} (word : A → List ℕ) where
  abbrev pub put_assigned : List (Place A) → List ℕ → List ℕ
  put_assigned [] page = page
  put_assigned (p ∷ ps) page = put_assigned ps (written (put_place word p page) (codes " = "))

  abbrev pub put_places : Bool → List (Place A) → List ℕ → List ℕ
  put_places first [] page = page
  put_places first (p ∷ ps) page = put_places false ps (put_place word p (written page (gap (codes ", ") first)))

  abbrev pub put_names : Bool → List (Named A) → List ℕ → List ℕ
  put_names first [] page = page
  put_names first (n ∷ ns) page = put_names false ns (written (written page (gap (codes ", ") first)) (word n.name))

  abbrev pub put_behind : List ℕ → Option (Expr A) → List ℕ → List ℕ
  put_behind before None page = page
  put_behind before (Some e) page = put_expr word e (written page before)

  abbrev pub put_bound_name : Option (Named A) → List ℕ → List ℕ
  put_bound_name None page = page
  put_bound_name (Some n) page = written (written page (codes " as ")) (word n.name)

  abbrev pub put_value : Option Guard → Target A → Expr A → List ℕ → List ℕ
  put_value None p e page = put_expr word e page
  put_value (Some g) p e page = close_unpacking p (put_expr word e (open_unpacking p page))

  -- the call of the guard of an augmented assignment
  abbrev pub put_in_place : Place A → BinOp → Expr A → List ℕ → List ℕ
  put_in_place p o e page =
      written
      (put_expr word e
      (written
      (put_place word p
      (written (written (put_mark o (written (opened (codes "_inplacevar_") page) (codes "'"))) (codes "'"))
      (codes ", ")))
      (codes ", ")))
      (codes ")")

  abbrev pub put_aug : Option Guard → Place A → BinOp → Expr A → List ℕ → List ℕ
  put_aug None p o e page = put_expr word e (written (put_mark o (written (put_place word p page) (codes " ")))
      (codes " "))
  put_aug (Some g) p o e page = put_in_place p o e (written (put_place word p page) (codes " = "))

  -- a simple statement
  abbrev pub put_simple : StmtForm A → List ℕ → List ℕ
  put_simple (stmt_trees.evaluate e) page = put_expr word e page
  put_simple (stmt_trees.assign ps e) page = put_expr word e (put_assigned ps page)
  put_simple (stmt_trees.unpack p e g) page = put_value g p e (written (put_target word p page) (codes " = "))
  put_simple (stmt_trees.aug p o at e g) page = put_aug g p o e page
  put_simple (stmt_trees.del ps) page = put_places true ps (written page (codes "del "))
  put_simple stmt_trees.pass page = written page (codes "pass")
  put_simple stmt_trees.break page = written page (codes "break")
  put_simple stmt_trees.continue page = written page (codes "continue")
  put_simple (stmt_trees.give_back e) page = put_behind (codes " ") e (written page (codes "return"))
  put_simple (stmt_trees.raise e) page = put_behind (codes " ") e (written page (codes "raise"))
  put_simple (stmt_trees.assert e m) page = put_behind (codes ", ") m (put_expr word e (written page (codes "assert ")))
  put_simple (stmt_trees.global ns) page = put_names true ns (written page (codes "global "))
  put_simple _ page = page

  abbrev pub put_line : ℕ → StmtForm A → List ℕ → List ℕ
  put_line d x page = written (put_simple x (written page (indentation d))) (codes "\n")

  -- statements within so many blocks
  abbrev mutual
    pub put_stmt : ℕ → Stmt A → List ℕ → List ℕ
    put_stmt d (stmt_trees.a_stmt l x) page = put_stmt_form d x page

    pub put_stmt_form : ℕ → StmtForm A → List ℕ → List ℕ
    put_stmt_form d (stmt_trees.choose bs o) page = put_block d (codes "else:") o (put_branches d true bs page)
    put_stmt_form d (stmt_trees.while e b) page =
        put_stmts (suc d) b (end_head (put_expr word e (written (written page (indentation d)) (codes "while "))))
    put_stmt_form d (stmt_trees.for w b) page =
        put_stmts (suc d) b
        (end_head (put_statement_iterable word w (put_walk word w (written page (indentation d)))))
    put_stmt_form d (stmt_trees.try b hs o l) page =
        put_block d (codes "finally:") l
        (put_block d (codes "else:") o
        (put_excepts d hs
        (put_stmts (suc d) b (put_head d (codes "try:") page))))
    put_stmt_form d (stmt_trees.define k n ps b) page =
        put_stmts (suc d) b
        (written
        (written
        (put_params word ps
        (written (written (written (written page (indentation d)) (codes "def ")) (word n.name)) (codes "(")))
        (codes "):"))
        (codes "\n"))
    put_stmt_form d (stmt_trees.class n b) page =
        put_stmts (suc d) b
        (end_head (written (written (written page (indentation d)) (codes "class ")) (word n.name)))
    put_stmt_form d x page = put_line d x page

    pub put_stmts : ℕ → Stmts A → List ℕ → List ℕ
    put_stmts d stmt_trees.no_stmts page = page
    put_stmts d (stmt_trees.stmt x xs) page = put_stmts d xs (put_stmt d x page)

    -- a block behind its keyword, where there is one
    pub put_block : ℕ → List ℕ → MaybeStmts A → List ℕ → List ℕ
    put_block d keyword stmt_trees.none page = page
    put_block d keyword (stmt_trees.some b) page = put_stmts (suc d) b (put_head d keyword page)

    pub put_branches : ℕ → Bool → Branches A → List ℕ → List ℕ
    put_branches d first stmt_trees.no_branches page = page
    put_branches d first (stmt_trees.branch e b bs) page =
        put_branches d false bs
        (put_stmts (suc d) b
        (end_head (put_expr word e (written (written page (indentation d)) (branch_keyword first)))))

    pub put_excepts : ℕ → Excepts A → List ℕ → List ℕ
    put_excepts d stmt_trees.no_excepts page = page
    put_excepts d (stmt_trees.except x xs) page = put_excepts d xs (put_except d x page)

    pub put_except : ℕ → Except A → List ℕ → List ℕ
    put_except d (stmt_trees.an_except k n b) page =
        put_stmts (suc d) b
        (end_head
        (put_bound_name n (put_behind (codes " ") k (written (written page (indentation d)) (codes "except")))))

  -- a branch
  abbrev pub put_branch : ℕ → Bool → Expr A → Stmts A → List ℕ → List ℕ
  put_branch d first e b page =
      put_stmts (suc d) b (end_head (put_expr word e (written (written page (indentation d)) (branch_keyword first))))

  -- the lines before blocks
  abbrev pub put_test_head : ℕ → List ℕ → Expr A → List ℕ → List ℕ
  put_test_head d keyword e page = end_head (put_expr word e (written (written page (indentation d)) keyword))

  abbrev pub put_for_head : ℕ → Walk A → List ℕ → List ℕ
  put_for_head d w page = end_head (put_statement_iterable word w (put_walk word w (written page (indentation d))))

  abbrev pub put_def_head : ℕ → Named A → Params A → List ℕ → List ℕ
  put_def_head d n ps page =
      written
      (written
      (put_params word ps (written (written (written (written page (indentation d)) (codes "def ")) (word n.name))
      (codes "(")))
      (codes "):"))
      (codes "\n")

  abbrev pub put_class_head : ℕ → Named A → List ℕ → List ℕ
  put_class_head d n page = end_head (written (written (written page (indentation d)) (codes "class ")) (word n.name))
