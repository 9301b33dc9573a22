-- What the code knows of the lists of a tree, and what stands in the values that they are seen as.
use Rattle.std.proofs.Common.{◌≡◌, ◌<◌, ◌==◌, ◌&&◌, ℕ, zero, suc, Bool, true, List, [], ◌∷◌, codes, map, take, get_or}
use Rattle.std.proofs.Common.{length, Option, refl, sym, ap, ◌∙◌, arith}
use Rattle.std.proofs.Math.Dec.{eqb-suc-zero}
use Rattle.rp_base.specs.declared.value.Name.{Name}
use Rattle.rp_tree.specs.declared.expr.Expr.{Expr}
use Rattle.rp_tree.specs.declared.expr.Params.{Params}
use Rattle.rp_tree.specs.declared.expr.Arg.TheViews.{out-Params}
use Rattle.rp_tree.specs.declared.expr.Target as program_target
use Rattle.rp_tree.specs.declared.expr.Trailer as program_trailer
use Rattle.rp_tree.specs.Expressions as tree
use Rattle.rp_tree.specs.Expressions.{Named}
use Rattle.rp_tree.specs.ExpressionViews as views
use Rattle.rp_tree.proofs.ExpressionEquations.{params_out}
use Rattle.rp_print.specs.Expressions.{targets_count}
use Rattle.rp_print.specs.WritingSteps as step

pub exprs_counted : (es : List Expr) → step.exprs_count (views.exprs_of (map views.view_expr es)) ≡ length es
exprs_counted [] = refl
exprs_counted (e ∷ es) = ap suc (exprs_counted es)

pub targets_counted : (ps : List program_target.Target) → targets_count (views.targets_of (map views.view_target ps))
    ≡ length ps
targets_counted [] = refl
targets_counted (x ∷ xs) = ap suc (targets_counted xs)

pub no_plain : (ps : List (Named × Option Expr)) → step.has_no_plain (views.plain_of (map views.view_plain ps)) ≡
    (length ps == 0)
no_plain [] = refl
no_plain (x ∷ xs) = sym (eqb-suc-zero (length xs))

-- the openings of the first trailers
pub openings_from : (page : List ℕ) (xs : List program_trailer.Trailer) (k : ℕ) (d : program_trailer.Trailer)
    → k < length xs
    → step.put_openings (views.trailers_of (map views.view_trailer (take (suc k) xs))) page
    ≡ step.put_openings (views.trailers_of (map views.view_trailer (take k xs))) (step.put_opening (views.view_trailer
    (get_or xs k d)) page)
openings_from page [] k d h = absurd (omega arith)
openings_from page (x ∷ xs) zero d h = refl
openings_from page (x ∷ xs) (suc k) d h = ap (step.put_opening (views.view_trailer x)) (openings_from page xs k d (omega
    (arith, h)))

-- one step of the loop over trailers from the last
pub openings_step : {done q : List ℕ} (page : List ℕ) (xs : List program_trailer.Trailer) (k n : ℕ)
    (x : program_trailer.Trailer)
    → n ≡ suc k → k < length xs → x ≡ get_or xs k x → q ≡ step.put_opening (views.view_trailer x) page
    → step.put_openings (views.trailers_of (map views.view_trailer (take n xs))) page ≡ done
    → step.put_openings (views.trailers_of (map views.view_trailer (take k xs))) q ≡ done
openings_step page xs k n x one below here e h =
    ap (step.put_openings (views.trailers_of (map views.view_trailer (take k xs))))
    (e ∙ ap (λ (y : program_trailer.Trailer). step.put_opening (views.view_trailer y) page) here)
    ∙ (sym (openings_from page xs k x below)
    ∙ (sym (ap (λ (m : ℕ). step.put_openings (views.trailers_of (map views.view_trailer (take m xs))) page) one) ∙ h))

-- parameters, from what each of their three parts puts behind
pub params_from : (word : Name → List ℕ) (x : Params) (plain : List (Named × Option Expr)) (page q r : List ℕ)
    (a b : Bool)
    → plain ≡ (out-Params x).plain.items → q ≡ step.put_plain word true (views.plain_of (map views.view_plain plain)) page
    → a ≡ step.no_plain_of (views.view_params x) → r ≡ step.put_starred word a (codes "*") (out-Params x).list q
    → b ≡ step.has_no_list (views.view_params x)
    → step.put_starred word b (codes "**") (out-Params x).dict r ≡ step.put_params word (views.view_params x) page
params_from word x plain page q r a b same e no_plain_is f no_list_is =
    let first : a ≡ step.has_no_plain (views.plain_of (map views.view_plain (out-Params x).plain.items))
    = no_plain_is ∙ ap step.no_plain_of (params_out x) in
    let second : b ≡ (step.has_no_plain (views.plain_of (map views.view_plain (out-Params x).plain.items)) && step.has_none
    (out-Params x).list)
    = no_list_is ∙ ap step.has_no_list (params_out x) in
    let before : q ≡ step.put_plain word true (views.plain_of (map views.view_plain (out-Params x).plain.items)) page
    = e ∙ ap (λ (xs : List (Named × Option Expr)). step.put_plain word true (views.plain_of
    (map views.view_plain xs)) page) same in
    ap (step.put_starred word b (codes "**") (out-Params x).dict) f
    ∙ ((λ i. step.put_starred word (second i) (codes "**") (out-Params x).dict (step.put_starred word (first i)
    (codes "*") (out-Params x).list (before i)))
    ∙ sym (ap (λ (y : tree.Params). step.put_params word y page) (params_out x)))
