-- The laws of reading: what is read is spelled so, what is spelled is read where its tokens are not too deep and its tree not
-- too high, and no tokens have two trees.
use Rattle.std.proofs.Common.{◌≡◌, ℕ, ◌+◌, ◌<◌, ◌≤◌, max, false, ◌||◌, Option, Some, refl, sym, ap, ◌∙◌, arith}
use Rattle.std.proofs.lemmas.Bool.{or_parts}
use Rattle.rp_base.specs.declared.value.Line.{Line}
use Rattle.rp_token.specs.declared.token.TokenKind.{TokenKind}
use Rattle.rp_token.specs.declared.token.TokenKind.TheVariants as kind
use Rattle.rp_tree.specs.Expressions.{Expr, Target, Params}
use Rattle.rp_tree.specs.Heights.{expr_height, target_height, params_height}
use Rattle.rp_grammar.specs.Brackets.{IsShallow}
use Rattle.rp_grammar.specs.Expressions as grammar
use Rattle.rp_grammar.specs.Expressions.{any}
use Rattle.rp_grammar.specs.Front.{goes_on, goes_on_list, goes_on_target, goes_on_params, is_comma, is_name, is_star, is_double_star, is_equal, starts, starts_trailer}
use Rattle.rp_grammar.specs.Kinds.{Tokens, first}
use Rattle.rp_grammar.specs.ExpressionReading as reading
use Rattle.rp_grammar.proofs.Follow.{binds, ends_by}
use Rattle.rp_grammar.proofs.Nest.{nest_expr}
use Rattle.rp_grammar.proofs.ExpressionSound.{readers_sound, expr_sound, expr_list_sound, target_sound, params_sound}
use Rattle.rp_grammar.proofs.ExpressionComplete.{EndsParams, readers_complete, expr_complete, expr_list_complete, target_complete, parameters_complete}
use Rattle.rp_grammar.proofs.Depth.{expr_bound, exprs_bound, target_bound, params_bound}

-- ---- what is read is spelled so

pub expr_spelled : (d : ℕ) (ts : Tokens) (x : Expr × Tokens) → reading.expr (reading.readers d) ts ≡ Some x → grammar.IsExpr x.0 ts x.1
expr_spelled d ts x h = expr_sound (reading.readers d) (readers_sound d) ts x h

pub list_spelled : (d : ℕ) (ts : Tokens) (x : Expr × Tokens) → reading.expr_list (reading.readers d) ts ≡ Some x → grammar.IsExprs x.0 ts x.1
list_spelled d ts x h = expr_list_sound (reading.readers d) (readers_sound d) ts x h

pub target_spelled : (d : ℕ) (ts : Tokens) (x : Target × Tokens) → reading.target (reading.readers d) ts ≡ Some x → (line : Line) × grammar.IsTarget x.0 line ts x.1
target_spelled d ts x h = target_sound (reading.readers d) (readers_sound d) ts x h

pub params_spelled : (d : ℕ) (ts : Tokens) (x : Params × Tokens) → reading.params (reading.readers d) ts ≡ Some x → grammar.IsParams any x.0 ts x.1
params_spelled d ts x h = params_sound (reading.readers d) (readers_sound d) ts x h

-- ---- brackets and height together bound the depth

pub expr_read : (most height d : ℕ) → most + height ≤ d → {e : Expr} {ts us : Tokens} → grammar.IsExpr e ts us → goes_on (first us) ≡ false → expr_height e ≤ height → IsShallow most 0 ts → reading.expr (reading.readers d) ts ≡ Some (e, us)
expr_read most height d enough {us = us} p ends low shallow =
    let within = expr_bound most p 0 shallow in
    expr_complete d (reading.readers d) (readers_complete d) p (omega arith) (ends_by (first us) ends)

pub list_read : (most height d : ℕ) → most + height ≤ d → {e : Expr} {ts us : Tokens} → grammar.IsExprs e ts us → goes_on_list (first us) ≡ false → expr_height e ≤ height → IsShallow most 0 ts → reading.expr_list (reading.readers d) ts ≡ Some (e, us)
list_read most height d enough {us = us} p ends low shallow =
    let k = first us in
    let within = exprs_bound most p 0 shallow in
    let (more, none) = or_parts (goes_on k || is_comma k) (starts k) ends in
    let (over, shut) = or_parts (goes_on k) (is_comma k) more in
    expr_list_complete d (reading.readers d) (readers_complete d) p (omega arith) (ends_by k over) shut none

untrailed : (k : TokenKind) → starts k ≡ false → starts_trailer k ≡ false → 1 < binds k
untrailed (kind.Text s) h i = absurd cc
untrailed kind.Dot h i = absurd cc
untrailed kind.LeftParen h i = absurd cc
untrailed kind.LeftBracket h i = absurd cc
untrailed _ h i = omega arith

pub target_read : (most height d : ℕ) → most + height ≤ d → {p : Target} {line : Line} {ts us : Tokens} → grammar.IsTarget p line ts us → goes_on_target (first us) ≡ false → target_height p ≤ height → IsShallow most 0 ts
    → reading.target (reading.readers d) ts ≡ Some (p, us)
target_read most height d enough {us = us} p ends low shallow =
    let k = first us in
    let within = target_bound most p 0 shallow in
    let (more, bare) = or_parts (is_comma k || starts k) (starts_trailer k) ends in
    let (shut, none) = or_parts (is_comma k) (starts k) more in
    target_complete d (reading.readers d) (readers_complete d) p (omega arith) (untrailed k none bare) shut none

unstarred : (k : TokenKind) → goes_on k ≡ false → (is_star k ≡ false) × (is_double_star k ≡ false)
unstarred kind.Star h = absurd cc
unstarred kind.DoubleStar h = absurd cc
unstarred _ h = (refl, refl)

ends_params : (k : TokenKind) → goes_on_params k ≡ false → EndsParams k
ends_params k ends =
    let (more, equal) = or_parts (goes_on k || is_comma k || is_name k) (is_equal k) ends in
    let (more, name) = or_parts (goes_on k || is_comma k) (is_name k) more in
    let (over, shut) = or_parts (goes_on k) (is_comma k) more in
    let (star, stars) = unstarred k over in
    record { binds = ends_by k over; comma = shut; name = name; star = star; stars = stars; equal = equal }

pub params_read : (most height d : ℕ) → most + height ≤ d → {ps : Params} {ts us : Tokens} → grammar.IsParams any ps ts us → goes_on_params (first us) ≡ false → params_height ps ≤ height → IsShallow most 0 ts → reading.params (reading.readers d) ts ≡ Some (ps, us)
params_read most height d enough {us = us} p ends low shallow =
    let within = params_bound most p 0 shallow in
    parameters_complete d (reading.readers d) (readers_complete d) p (omega arith) (ends_params (first us) ends)

-- ---- no tokens have two trees

pub one_tree : {e f : Expr} {ts us vs : Tokens} → grammar.IsExpr e ts us → grammar.IsExpr f ts vs → goes_on (first us) ≡ false → goes_on (first vs) ≡ false → (e ≡ f) × (us ≡ vs)
one_tree {e} {f} {ts} {us} {vs} p q ends ends' =
    let d = max (nest_expr p) (nest_expr q) in
    let a = expr_complete d (reading.readers d) (readers_complete d) p (omega arith) (ends_by (first us) ends) in
    let b = expr_complete d (reading.readers d) (readers_complete d) q (omega arith) (ends_by (first vs) ends') in
    let same : ◌≡◌ {A = Option (Expr × Tokens)} (Some (e, us)) (Some (f, vs)) = sym a ∙ b in
    let pair : ◌≡◌ {A = Expr × Tokens} (e, us) (f, vs) = cc in
    (ap (λ (x : Expr × Tokens). x.0) pair, ap (λ (x : Expr × Tokens). x.1) pair)
