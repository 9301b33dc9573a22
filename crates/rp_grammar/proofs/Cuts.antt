-- What a tree is spelled by is a front of the tokens, and spells it whatever stands behind. Of an expression, and of a simple
-- statement but `pass`, that front holds no `pass`.
use Rattle.std.proofs.Common.{◌≡◌, ◌<◌, Bool, true, false, List, [], ◌∷◌, ◌++◌, length, refl, sym, ap, subst, ◌∙◌, arith, append_assoc}
use Rattle.rp_base.specs.declared.value.Line.{Line}
use Rattle.rp_token.specs.declared.token.Token.{Token}
use Rattle.rp_token.specs.declared.token.TokenKind.{TokenKind}
use Rattle.rp_token.specs.declared.token.TokenKind.TheVariants as kind
use Rattle.rp_tree.specs.Expressions.{Named, Expr, Exprs, Place, Target, Targets, Params}
use Rattle.rp_tree.specs.Statements.{Stmt}
use Rattle.rp_grammar.specs.Kinds.{Tokens, first, line_at, skip}
use Rattle.rp_grammar.specs.Expressions as grammar
use Rattle.rp_grammar.specs.Expressions.{Stage}
use Rattle.rp_grammar.specs.Statements as stmt_grammar
use Rattle.rp_grammar.specs.Statements.{Context}
use Rattle.rp_grammar.proofs.Again as again_laws
use Rattle.rp_grammar.proofs.Again.{is_inner, Again}
use Rattle.rp_grammar.proofs.AgainSimple as simple_again_laws

abbrev pub is_pass : TokenKind → Bool
is_pass kind.Pass = true
is_pass _ = false

abbrev pub NoPass : Tokens → Type 0
NoPass [] = Unit {0}
NoPass (t ∷ ts) = (is_pass t.kind ≡ false) × NoPass ts

pub NoPass_both : (a b : Tokens) → NoPass a → NoPass b → NoPass (a ++ b)
NoPass_both [] b h i = i
NoPass_both (t ∷ a) b h i = (h.0, NoPass_both a b h.1 i)

-- how what X says holds of the tokens between ts and us alone
pub record Cut (X : Tokens → Tokens → Type 0) (ts us : Tokens) : Type 0 where
  pub front : Tokens
  pub parts : ts ≡ front ++ us
  pub no_pass : NoPass front
  pub moves : (vs : Tokens) → X (front ++ vs) vs

-- a token of a kind at a line
pub data At (k : TokenKind) (line : Line) : Tokens → Tokens → Type 0 where
  at : {ts : Tokens} → first ts ≡ k → line_at ts ≡ line → At k line ts (skip ts)

pub data Seq (X Y : Tokens → Tokens → Type 0) : Tokens → Tokens → Type 0 where
  seq : {ts us vs : Tokens} → X ts us → Y us vs → Seq X Y ts vs

pub cut_token : (k : TokenKind) (ts : Tokens) → first ts ≡ k → (kind.End ≡ k → ⊥) → is_pass k ≡ false → Cut (At k (line_at ts)) ts (skip ts)
cut_token k [] h other not_pass = absurd (other h)
cut_token k (x ∷ ts) h other not_pass = record { front = x ∷ []; parts = refl; no_pass = (ap is_pass h ∙ not_pass, tt); moves = λ vs. at h refl }

pub cut_then : {X Y : Tokens → Tokens → Type 0} {ts us vs : Tokens} → Cut X ts us → Cut Y us vs → Cut (Seq X Y) ts vs
cut_then {X} {Y} {ts} {us} {vs} c d = record {
  front = c.front ++ d.front;
  parts = c.parts ∙ ap (λ r. c.front ++ r) d.parts ∙ sym (append_assoc c.front d.front vs);
  no_pass = NoPass_both c.front d.front c.no_pass d.no_pass;
  moves = λ ws. subst (λ r. Seq X Y r ws) (sym (append_assoc c.front d.front ws)) (seq (c.moves (d.front ++ ws)) (d.moves ws));
}

pub cut_map : {X Y : Tokens → Tokens → Type 0} {ts us : Tokens} → ((ts us : Tokens) → X ts us → Y ts us) → Cut X ts us → Cut Y ts us
cut_map f c = record { front = c.front; parts = c.parts; no_pass = c.no_pass; moves = λ vs. f (c.front ++ vs) vs (c.moves vs) }

-- nothing is taken
pub cut_none : {X : Tokens → Tokens → Type 0} {ts : Tokens} → ((vs : Tokens) → X vs vs) → Cut X ts ts
cut_none f = record { front = []; parts = refl; no_pass = tt; moves = f }

-- where a token is taken, the line at which it begins stays
pub cut_line : {X : Tokens → Tokens → Type 0} {ts us : Tokens} (c : Cut X ts us) → length us < length ts → (vs : Tokens) → line_at (c.front ++ vs) ≡ line_at ts
cut_line {X} {ts} {us} c less vs = by c.front c.parts
  where
    by : (f : Tokens) → ts ≡ f ++ us → line_at (f ++ vs) ≡ line_at ts
    by [] is = let same : length ts ≡ length us = ap length is in absurd (omega arith)
    by (x ∷ f) is = ap line_at (sym is)

-- the front of ts that is before us, without `pass`
pub record Before (us ts front : Tokens) : Type 0 where
  pub parts : ts ≡ front ++ us
  pub no_pass : NoPass front

inner_no_pass : (k : TokenKind) → is_inner k ≡ true → is_pass k ≡ false
inner_no_pass kind.Pass h = absurd cc
inner_no_pass kind.End h = refl
inner_no_pass _ h = refl

pub before_step : (us : Tokens) (x : Token) (ts b : Tokens) → is_inner x.kind ≡ true → Before us ts b → Before us (x ∷ ts) (x ∷ b)
before_step us x ts b inner w = record { parts = ap (λ (z : Tokens). x ∷ z) w.parts; no_pass = (inner_no_pass x.kind inner, w.no_pass) }

pub before_none : (us : Tokens) → Before us us []
before_none us = record { parts = refl; no_pass = tt }

pub cut_of : {X : Tokens → Tokens → Type 0} {ts us : Tokens} → Again (Before us) X ts [] → Cut X ts us
cut_of c = record { front = c.0; parts = c.1.parts; no_pass = c.1.no_pass; moves = c.2 }

-- ---- parts of expressions

pub place_cut : {p : Place} {ts us : Tokens} → grammar.IsPlace p ts us → Cut (grammar.IsPlace p) ts us
place_cut {us = us} p = cut_of (again_laws.place_again (Before us) (before_step us) p (before_none us))

pub group_cut : {p : Target} {line : Line} {ts us : Tokens} → grammar.IsGroup p line ts us → Cut (grammar.IsGroup p line) ts us
group_cut {us = us} p = cut_of (again_laws.group_again (Before us) (before_step us) p (before_none us))

pub parts_cut : {ps : Targets} {line : Line} {ts us : Tokens} → grammar.Parts ps line ts us → Cut (grammar.Parts ps line) ts us
parts_cut {us = us} p = cut_of (again_laws.parts_again (Before us) (before_step us) p (before_none us))

pub target_cut : {p : Target} {line : Line} {ts us : Tokens} → grammar.IsTarget p line ts us → Cut (grammar.IsTarget p line) ts us
target_cut {us = us} p = cut_of (again_laws.target_again (Before us) (before_step us) p (before_none us))

pub params_cut : {stage : Stage} {ps : Params} {ts us : Tokens} → grammar.IsParams stage ps ts us → Cut (grammar.IsParams stage ps) ts us
params_cut {us = us} p = cut_of (again_laws.params_again (Before us) (before_step us) p (before_none us))

pub listed_cut : {es : Exprs} {ts us : Tokens} → grammar.Listed es ts us → Cut (grammar.Listed es) ts us
listed_cut {us = us} p = cut_of (again_laws.listed_again (Before us) (before_step us) p (before_none us))

pub primary_cut : {e : Expr} {ts us : Tokens} → grammar.Primary e ts us → Cut (grammar.Primary e) ts us
primary_cut {us = us} p = cut_of (again_laws.primary_again (Before us) (before_step us) p (before_none us))

pub or_cut : {e : Expr} {ts us : Tokens} → grammar.Or e ts us → Cut (grammar.Or e) ts us
or_cut {us = us} p = cut_of (again_laws.or_again (Before us) (before_step us) p (before_none us))

pub expr_cut : {e : Expr} {ts us : Tokens} → grammar.IsExpr e ts us → Cut (grammar.IsExpr e) ts us
expr_cut {us = us} p = cut_of (again_laws.expr_again (Before us) (before_step us) p (before_none us))

pub exprs_cut : {e : Expr} {ts us : Tokens} → grammar.IsExprs e ts us → Cut (grammar.IsExprs e) ts us
exprs_cut {us = us} p = cut_of (again_laws.exprs_again (Before us) (before_step us) p (before_none us))

-- ---- parts of simple statements, and they

pub names_cut : {ns : List Named} {ts us : Tokens} → stmt_grammar.IsNames ns ts us → Cut (stmt_grammar.IsNames ns) ts us
names_cut {us = us} p = cut_of (simple_again_laws.names_again (Before us) (before_step us) p (before_none us))

pub places_cut : {ps : List Place} {ts us : Tokens} → stmt_grammar.IsPlaces ps ts us → Cut (stmt_grammar.IsPlaces ps) ts us
places_cut {us = us} p = cut_of (simple_again_laws.places_again (Before us) (before_step us) p (before_none us))

pub assigned_cut : {ps : List Place} {ts us : Tokens} → stmt_grammar.Assigned ps ts us → Cut (stmt_grammar.Assigned ps) ts us
assigned_cut {us = us} p = cut_of (simple_again_laws.assigned_again (Before us) (before_step us) p (before_none us))

pub unpacked_cut : {p : Target} {line : Line} {ts us : Tokens} → stmt_grammar.IsUnpacked p line ts us → Cut (stmt_grammar.IsUnpacked p line) ts us
unpacked_cut {us = us} p = cut_of (simple_again_laws.unpacked_again (Before us) (before_step us) p (before_none us))

pub simple_cut : {c : Context} {x : Stmt} {ts us : Tokens} → stmt_grammar.IsSimple c x ts us → (first ts ≡ kind.Pass → ⊥) → Cut (stmt_grammar.IsSimple c x) ts us
simple_cut {us = us} p no_pass = cut_of (simple_again_laws.simple_again (Before us) (before_step us) ⊥ (λ no. absurd no) p no_pass (before_none us))
