-- What the parts of expressions stand for.
use Rattle.std.proofs.Common.{◌≡◌, Bool, List, [], ◌∷◌, ◌++◌, length, map, Option, Some, None, Vec, Global, refl, sym, ap, ◌∙◌, rules, option_map}
use Rattle.std.proofs.lemmas.List.{map_push}
use Rattle.rp_base.specs.declared.value.Line.{Line}
use Rattle.rp_tree.specs.Expressions.{Named}
use Rattle.rp_tree.specs.declared.expr.Expr.{Expr}
use Rattle.rp_tree.specs.declared.expr.Trailer.{Trailer}
use Rattle.rp_tree.specs.declared.expr.Target.{Target}
use Rattle.rp_tree.specs.declared.expr.ExprForm.TheVariants as form
use Rattle.rp_tree.specs.declared.expr.Target.TheVariants as target
use Rattle.rp_tree.specs.declared.expr.Arg.TheFolds.{the_lemmas}
use Rattle.rp_tree.specs.Expressions as tree
use Rattle.rp_tree.specs.ExpressionViews as views
use Rattle.rp_tree.proofs.ExpressionEquations.{form_primary, target_group}
use Rattle.rp_grammar.specs.Expressions.{line_of}
use Rattle.rp_grammar.specs.Conversion as conversion
use Rattle.rp_expr.specs.Gives.{plain_item}
use Rattle.rp_grammar.specs.ExpressionReading as reading
use Rattle.rp_grammar.proofs.Loops.{front, front_more}

-- the line is seen as it is
pub view_line : (e : Expr) → line_of (views.view_expr e) ≡ e.line
view_line e = search (rules, the_lemmas)

-- an atom with at least one trailer
pub with_trailers_made : (e : Expr) (xs : Vec Trailer Global) → (length xs.items ≡ 0 → ⊥)
    → tree.node e.line (views.view_form (form.Primary e xs)) ≡ conversion.with_trailers (views.view_expr e) (views.trailers_of (map views.view_trailer xs.items))
with_trailers_made e xs some = ap (tree.node e.line) (form_primary e xs) ∙ made (views.view_expr e) e.line (view_line e) xs.items some where
  made : (f : tree.Expr) (line : Line) → line_of f ≡ line → (items : List Trailer) → (length items ≡ 0 → ⊥)
      → tree.node line (tree.primary f (views.trailers_of (map views.view_trailer items))) ≡ conversion.with_trailers f (views.trailers_of (map views.view_trailer items))
  made f line same [] some = absurd (some refl)
  made f line same (x ∷ items) some = ap (λ (l : Line). tree.node l (tree.primary f (views.trailers_of (map views.view_trailer (x ∷ items))))) (sym same)

split_before : (xs : List tree.Trailer) (y z : tree.Trailer) → conversion.before_last z (views.trailers_of (xs ++ y ∷ [])) ≡ tree.trailer z (views.trailers_of xs)
split_before [] y z = refl
split_before (x ∷ xs) y z = ap (tree.trailer z) (split_before xs y x)

split_last : (xs : List tree.Trailer) (y z : tree.Trailer) → conversion.last_of z (views.trailers_of (xs ++ y ∷ [])) ≡ y
split_last [] y z = refl
split_last (x ∷ xs) y z = split_last xs y x

-- the place that some trailers and the last name
split_place : (line : Line) (e : tree.Expr) (xs : List tree.Trailer) (y : tree.Trailer) → conversion.place_form line (tree.primary e (views.trailers_of (xs ++ y ∷ []))) ≡ conversion.trailed_place (conversion.with_trailers e (views.trailers_of xs)) y
split_place line e [] y = refl
split_place line e (x ∷ xs) y = ap (λ (l : tree.Trailers). conversion.trailed_place (conversion.with_trailers e l) (conversion.last_of x (views.trailers_of (xs ++ y ∷ [])))) (split_before xs y x) ∙ ap (conversion.trailed_place (conversion.with_trailers e (tree.trailer x (views.trailers_of xs)))) (split_last xs y x)

pub last_place : (line : Line) (e : tree.Expr) (all rest : List Trailer) (last : Trailer) → all ≡ rest ++ last ∷ []
    → conversion.trailed_place (conversion.with_trailers e (views.trailers_of (map views.view_trailer rest))) (views.view_trailer last) ≡ conversion.place_form line (tree.primary e (views.trailers_of (map views.view_trailer all)))
last_place line e all rest last is =
    sym (ap (λ (l : List tree.Trailer). conversion.place_form line (tree.primary e (views.trailers_of l))) (ap (map views.view_trailer) is ∙ map_push views.view_trailer rest last) ∙ split_place line e (map views.view_trailer rest) (views.view_trailer last))

abbrev pub to_some : {A : Type 0} → A → Option A
to_some p = Some p

no_more : (o : Option tree.Target) (os : Option tree.Targets) → conversion.one_more o os ≡ Some tree.no_targets → ⊥
no_more None os h = cc
no_more (Some p) None h = cc
no_more (Some p) (Some ps) h = cc

-- a group of the targets of at least one expression
pub group_made : (es : List Expr) (ps : Vec Target Global) → (length es ≡ 0 → ⊥) → conversion.as_targets (views.exprs_of (map views.view_expr es)) ≡ Some (views.targets_of (map views.view_target ps.items))
    → conversion.group_of (conversion.as_targets (views.exprs_of (map views.view_expr es))) ≡ Some (views.view_target (target.Group ps))
group_made es ps some is = ap conversion.group_of is ∙ made es (map views.view_target ps.items) some is ∙ ap (λ (p : tree.Target). to_some p) (sym (target_group ps)) where
  made : (es : List Expr) (ps : List tree.Target) → (length es ≡ 0 → ⊥) → conversion.as_targets (views.exprs_of (map views.view_expr es)) ≡ Some (views.targets_of ps) → conversion.group_of (Some (views.targets_of ps)) ≡ Some (tree.group (views.targets_of ps))
  made [] ps some is = absurd (some refl)
  made (e ∷ es) (p ∷ ps) some is = refl
  made (e ∷ es) [] some is = absurd (no_more (conversion.as_target (views.view_expr e)) (conversion.as_targets (views.exprs_of (map views.view_expr es))) is)

-- ---- the targets of a list

abbrev pub targets_in : List Expr → Option tree.Targets
targets_in es = conversion.as_targets (views.exprs_of (map views.view_expr es))

-- targets that were made, before those that are left
abbrev pub joined : List tree.Target → Option tree.Targets → Option tree.Targets
joined ps o = option_map (front tree.target ps) o

pub joined_none : (o : Option tree.Targets) → o ≡ joined [] o
joined_none None = refl
joined_none (Some ps) = refl

pub joined_more : (ps : List tree.Target) (p : tree.Target) (o : Option tree.Targets) → joined ps (conversion.one_more (Some p) o) ≡ joined (ps ++ p ∷ []) o
joined_more ps p None = refl
joined_more ps p (Some qs) = ap (λ (l : tree.Targets). to_some l) (sym (front_more tree.target ps p qs))

-- ---- parameters

abbrev pub plain_view : Named × Option Expr → Named × tree.Maybe
plain_view p = plain_item (views.view_plain p)

pub plains_found : (ps : List (Named × Option Expr)) (b : Bool) → front reading.with_plain (map plain_view ps) (tree.no_plain, b) ≡ (views.plain_of (map views.view_plain ps), b)
plains_found [] b = refl
plains_found (p ∷ ps) b = ap (reading.with_plain (plain_view p)) (plains_found ps b)
