-- What the code writes of statements is their text behind the page.
use Rattle.std.proofs.Common.{◌≡◌, ℕ, suc, Bool, true, false, List, [], ◌∷◌, codes, Option, Some, None, refl, sym}
use Rattle.std.proofs.Common.{◌∙◌}
use Rattle.rp_base.specs.declared.operator.BinOp.{BinOp}
use Rattle.rp_tree.specs.declared.parts.Guard.{Guard}
use Rattle.rp_tree.specs.declared.parts.Named.{Named}
use Rattle.rp_tree.specs.ExpressionTrees as trees
use Rattle.rp_tree.specs.ExpressionTrees.{Expr, Target, Place}
use Rattle.rp_tree.specs.StatementTrees as stmt_trees
use Rattle.rp_tree.specs.StatementTrees.{Stmt, StmtForm, Stmts, MaybeStmts, Branches, Except, Excepts}
use Rattle.rp_print.specs.Texts.{further, indentation, joined, line}
use Rattle.rp_print.specs.Expressions.{expr_text}
use Rattle.rp_print.specs.Statements.{assigned_text, aug_text, behind, bound_name}
use Rattle.rp_print.specs.Statements.{branches_lines, except_lines, excepts_lines, maybe_block, names_texts}
use Rattle.rp_print.specs.Statements.{places_texts, printed_by, simple_text, stmt_form_lines, stmt_lines, stmts_lines}
use Rattle.rp_print.specs.Statements.{unpacked, value_text}
use Rattle.rp_print.specs.PageSteps.{gap, written}
use Rattle.rp_print.specs.LineSteps.{close_unpacking, open_unpacking, put_assigned, put_aug, put_behind}
use Rattle.rp_print.specs.LineSteps.{put_block, put_bound_name, put_branches, put_except, put_excepts}
use Rattle.rp_print.specs.LineSteps.{put_line, put_names, put_places, put_simple, put_stmt, put_stmt_form, put_stmts}
use Rattle.rp_print.specs.LineSteps.{put_value}
use Rattle.rp_print.proofs.Pages.{left, left_none, left_one, then_part, then_text, written_beside, written_nil}
use Rattle.rp_print.proofs.Written.{dealing_written, expr_written, params_written, place_written}
use Rattle.rp_print.proofs.Written.{statement_iterable_written, target_written, walk_written}

unpacked_written : {A : Type 0} (x : Target A) (e page : List ℕ) {q : List ℕ} → q ≡ written (open_unpacking x page) e
    → close_unpacking x q ≡ written page (unpacked x e)
unpacked_written (trees.to_place p) e page h = h
unpacked_written (trees.group ps) e page h = dealing_written ps page (codes "_unpack_sequence_") e h

module _ {A : Type 0} (word : A → List ℕ) where
  assigned_written : (ps : List (Place A)) (page : List ℕ) → put_assigned word ps page ≡ written page
      (assigned_text word ps)
  assigned_written [] page = sym (written_nil page)
  assigned_written (p ∷ ps) page = then_part _ _ _ (then_text _ _ _ (place_written word p page)) (assigned_written ps _)

  places_written : (first : Bool) (x : List (Place A)) (page : List ℕ) → put_places word first x page ≡ written page
      (left (codes ", ") first (places_texts word x))
  places_written first [] page = left_none (codes ", ") page first
  places_written first (p ∷ ps) page = left_one (codes ", ") page first _ _ (place_written word p (written page (gap
      (codes ", ") first))) (places_written false ps _)

  names_written : (first : Bool) (x : List (Named A)) (page : List ℕ) → put_names word first x page ≡ written page
      (left (codes ", ") first (names_texts word x))
  names_written first [] page = left_none (codes ", ") page first
  names_written first (n ∷ ns) page = left_one (codes ", ") page first _ _ refl (names_written false ns _)

  behind_written : (before : List ℕ) (e : Option (Expr A)) (page : List ℕ) → put_behind word before e page
      ≡ written page (behind word before e)
  behind_written before None page = sym (written_nil page)
  behind_written before (Some e) page = then_part _ _ _ refl (expr_written word e _)

  bound_name_written : (n : Option (Named A)) (page : List ℕ) → put_bound_name word n page ≡ written page
      (bound_name word n)
  bound_name_written None page = sym (written_nil page)
  bound_name_written (Some n) page = then_text _ _ _ refl

  value_written : (g : Option Guard) (p : Target A) (e : Expr A) (page : List ℕ) → put_value word g p e page
      ≡ written page (value_text word g p e)
  value_written None p e page = expr_written word e page
  value_written (Some g) p e page = unpacked_written p (expr_text word e) page (expr_written word e
      (open_unpacking p page))

  aug_written : (g : Option Guard) (p : Place A) (o : BinOp) (e : Expr A) (page : List ℕ) → put_aug word g p o e page
      ≡ written page (aug_text word g p o e)
  unfolding joined further
  aug_written None p o e page = then_part _ _ _ (then_text _ _ _ (then_part _ _ _ (then_text _ _ _
      (place_written word p page)) (then_text _ _ _ refl))) (expr_written word e _)
  aug_written (Some g) p o e page = then_text _ _ _ (then_part _ _ _ (then_text _ _ _ (then_part _ _ _
      (then_text _ _ _ (then_text _ _ _ (then_text _ _ _ (then_text _ _ _ (then_text _ _ _ (then_text _ _ _
      (then_text _ _ _ (then_text _ _ _ (place_written word p page))))))))) (place_written word p _)))
      (expr_written word e _)) ∙ simp (written_beside, written_nil)

  simple_written : (x : StmtForm A) (page : List ℕ) → put_simple word x page ≡ written page (simple_text word x)
  simple_written (stmt_trees.evaluate e) page = expr_written word e page
  simple_written (stmt_trees.assign ps e) page = then_part _ _ _ (assigned_written ps page) (expr_written word e _)
  simple_written (stmt_trees.unpack p e g) page = then_part _ _ _ (then_text _ _ _ (target_written word p page))
      (value_written g p e _)
  simple_written (stmt_trees.aug p o at e g) page = aug_written g p o e page
  simple_written (stmt_trees.del ps) page = then_part _ _ _ refl (places_written true ps _)
  simple_written stmt_trees.pass page = refl
  simple_written stmt_trees.break page = refl
  simple_written stmt_trees.continue page = refl
  simple_written (stmt_trees.give_back e) page = then_part _ _ _ refl (behind_written (codes " ") e _)
  simple_written (stmt_trees.raise e) page = then_part _ _ _ refl (behind_written (codes " ") e _)
  simple_written (stmt_trees.assert e m) page = then_part _ _ _ (then_part _ _ _ refl (expr_written word e _)) (behind_written
      (codes ", ") m _)
  simple_written (stmt_trees.global ns) page = then_part _ _ _ refl (names_written true ns _)
  simple_written (stmt_trees.choose bs o) page = sym (written_nil page)
  simple_written (stmt_trees.while e b) page = sym (written_nil page)
  simple_written (stmt_trees.for w b) page = sym (written_nil page)
  simple_written (stmt_trees.try b hs o l) page = sym (written_nil page)
  simple_written (stmt_trees.define k n ps b) page = sym (written_nil page)
  simple_written (stmt_trees.class n b) page = sym (written_nil page)

  line_written : (d : ℕ) (x : StmtForm A) (page : List ℕ) → put_line word d x page ≡ written page (line d
      (simple_text word x))
  line_written d x page = then_text _ _ _ (then_part _ _ _ refl (simple_written x _))

  mutual
    stmt_written : (d : ℕ) (x : Stmt A) (page : List ℕ) → put_stmt word d x page ≡ written page (stmt_lines word d x)
    stmt_written d (stmt_trees.a_stmt l x) page = stmt_form_written d x page

    stmt_form_written : (d : ℕ) (x : StmtForm A) (page : List ℕ) → put_stmt_form word d x page ≡ written page
        (stmt_form_lines word d x)
    stmt_form_written d (stmt_trees.choose bs o) page = then_part _ _ _ (branches_written d true bs page) (block_written d
        (codes "else:") o _)
    stmt_form_written d (stmt_trees.while e b) page = then_part _ _ _ (then_text _ _ _ (then_part _ _ _ refl (then_text _ _ _
        (then_part _ _ _ refl (expr_written word e _))))) (stmts_written (suc d) b _)
    stmt_form_written d (stmt_trees.for w b) page = then_part _ _ _ (then_text _ _ _ (then_part _ _ _ refl (then_text _ _ _
        (then_part _ _ _ (walk_written word w (written page (indentation d)))
        (statement_iterable_written word w _))))) (stmts_written (suc d) b _)
    stmt_form_written d (stmt_trees.try b hs o l) page = then_part _ _ _ (then_part _ _ _ (then_part _ _ _ (then_part _ _ _
        (then_text _ _ _ (then_text _ _ _ refl)) (stmts_written (suc d) b _)) (excepts_written d hs _))
        (block_written d (codes "else:") o _)) (block_written d (codes "finally:") l _)
    stmt_form_written d (stmt_trees.define k n ps b) page = then_part _ _ _ (then_text _ _ _ (then_part _ _ _ refl
        (then_text _ _ _ (then_part _ _ _ (then_text _ _ _ (then_text _ _ _ refl)) (params_written word ps _)))))
        (stmts_written (suc d) b _)
    stmt_form_written d (stmt_trees.class n b) page = then_part _ _ _ (then_text _ _ _ (then_part _ _ _ refl (then_text _ _ _
        (then_text _ _ _ refl)))) (stmts_written (suc d) b _)
    stmt_form_written d (stmt_trees.evaluate e) page = line_written d (stmt_trees.evaluate e) page
    stmt_form_written d (stmt_trees.assign ps e) page = line_written d (stmt_trees.assign ps e) page
    stmt_form_written d (stmt_trees.unpack p e g) page = line_written d (stmt_trees.unpack p e g) page
    stmt_form_written d (stmt_trees.aug p o at e g) page = line_written d (stmt_trees.aug p o at e g) page
    stmt_form_written d (stmt_trees.del ps) page = line_written d (stmt_trees.del ps) page
    stmt_form_written d stmt_trees.pass page = line_written d stmt_trees.pass page
    stmt_form_written d stmt_trees.break page = line_written d stmt_trees.break page
    stmt_form_written d stmt_trees.continue page = line_written d stmt_trees.continue page
    stmt_form_written d (stmt_trees.give_back e) page = line_written d (stmt_trees.give_back e) page
    stmt_form_written d (stmt_trees.raise e) page = line_written d (stmt_trees.raise e) page
    stmt_form_written d (stmt_trees.assert e m) page = line_written d (stmt_trees.assert e m) page
    stmt_form_written d (stmt_trees.global ns) page = line_written d (stmt_trees.global ns) page

    stmts_written : (d : ℕ) (x : Stmts A) (page : List ℕ) → put_stmts word d x page ≡ written page
        (stmts_lines word d x)
    stmts_written d stmt_trees.no_stmts page = sym (written_nil page)
    stmts_written d (stmt_trees.stmt x xs) page = then_part _ _ _ (stmt_written d x page) (stmts_written d xs _)

    block_written : (d : ℕ) (keyword : List ℕ) (x : MaybeStmts A) (page : List ℕ) → put_block word d keyword x page
        ≡ written page (maybe_block word d keyword x)
    block_written d keyword stmt_trees.none page = sym (written_nil page)
    block_written d keyword (stmt_trees.some b) page = then_part _ _ _ (then_text _ _ _ (then_text _ _ _ refl)) (stmts_written
        (suc d) b _)

    branches_written : (d : ℕ) (first : Bool) (x : Branches A) (page : List ℕ) → put_branches word d first x page
        ≡ written page (branches_lines word d first x)
    branches_written d first stmt_trees.no_branches page = sym (written_nil page)
    branches_written d first (stmt_trees.branch e b bs) page = then_part _ _ _ (then_part _ _ _ (then_text _ _ _
        (then_part _ _ _ refl (then_text _ _ _ (then_part _ _ _ refl (expr_written word e _))))) (stmts_written
        (suc d) b _)) (branches_written d false bs _)

    excepts_written : (d : ℕ) (x : Excepts A) (page : List ℕ) → put_excepts word d x page ≡ written page
        (excepts_lines word d x)
    excepts_written d stmt_trees.no_excepts page = sym (written_nil page)
    excepts_written d (stmt_trees.except x xs) page = then_part _ _ _ (except_written d x page) (excepts_written d xs _)

    except_written : (d : ℕ) (x : Except A) (page : List ℕ) → put_except word d x page ≡ written page
        (except_lines word d x)
    except_written d (stmt_trees.an_except k n b) page = then_part _ _ _ (then_text _ _ _ (then_part _ _ _ refl
        (then_text _ _ _ (then_part _ _ _ (then_part _ _ _ refl (behind_written (codes " ") k _))
        (bound_name_written n _))))) (stmts_written (suc d) b _)

written_alone : (t : List ℕ) → written [] t ≡ t
unfolding written
written_alone t = refl

pub tree_written : {A : Type 0} (word : A → List ℕ) (xs : Stmts A) → put_stmts word 0 xs [] ≡ printed_by word xs
tree_written word xs = stmts_written word 0 xs [] ∙ written_alone (stmts_lines word 0 xs)
