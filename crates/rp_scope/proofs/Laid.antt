-- Tables of scopes that grow by the code blocks in the parts of a tree, one part after the other.
use Rattle.std.proofs.Common.{◌≡◌, List, [], ◌∷◌, ◌++◌, Option, Some, None, option_map, Vec, Global, ap, ◌∙◌, refl, append_assoc}
use Rattle.std.proofs.lemmas.List.{append-nil}
use Rattle.rp_base.specs.declared.value.Name.{Name}
use Rattle.rp_tree.specs.declared.expr.Expr.{Expr}
use Rattle.rp_tree.specs.declared.stmt.Stmt.{Stmt}
use Rattle.rp_tree.specs.ExpressionViews.{view_expr, maybe_of}
use Rattle.rp_tree.specs.StatementViews.{view_stmts, view_maybe_stmts, block_items}
use Rattle.rp_scope.specs.Blocks.{Telling, maybe_blocks, stmts_blocks, maybe_stmts_blocks}

-- a block that may be missing
pub maybe_block : {X Y : Type 0} (tell : Telling Name X Y) (around : X) (o : Option (Vec Stmt Global)) → maybe_stmts_blocks tell around (view_maybe_stmts o) ≡ stmts_blocks tell around (view_stmts (block_items o))
maybe_block tell around None = refl
maybe_block tell around (Some v) = refl

-- a default that is missing
pub missing_default : {X Y : Type 0} (tell : Telling Name X Y) (around : X) (o : Option Expr) → ((x : Expr) → o ≡ Some x → ⊥) → maybe_blocks tell around (maybe_of (option_map view_expr o)) ≡ []
missing_default tell around None missing = refl
missing_default tell around (Some x) missing = absurd (missing x refl)

pub ruleset laid = (append_assoc, append-nil, maybe_block)

pub grown_two : {B : Type 0} (old xs ys l1 l2 : List B) → l1 ≡ old ++ xs → l2 ≡ l1 ++ ys → l2 ≡ old ++ (xs ++ ys)
grown_two old xs ys l1 l2 p q = q ∙ (ap (λ v. v ++ ys) p ∙ append_assoc old xs ys)

pub grown_three : {B : Type 0} (old xs ys zs l1 l2 l3 : List B) → l1 ≡ old ++ xs → l2 ≡ l1 ++ ys → l3 ≡ l2 ++ zs → l3 ≡ old ++ (xs ++ ys ++ zs)
grown_three old xs ys zs l1 l2 l3 p q r = grown_two old (xs ++ ys) zs l2 l3 (grown_two old xs ys l1 l2 p q) r

pub grown_four : {B : Type 0} (old xs ys zs ws l1 l2 l3 l4 : List B) → l1 ≡ old ++ xs → l2 ≡ l1 ++ ys → l3 ≡ l2 ++ zs → l4 ≡ l3 ++ ws → l4 ≡ old ++ (xs ++ ys ++ zs ++ ws)
grown_four old xs ys zs ws l1 l2 l3 l4 p q r u = grown_two old (xs ++ ys ++ zs) ws l3 l4 (grown_three old xs ys zs l1 l2 l3 p q r) u

-- a block, and then what stands in its parts
pub block_two : {B : Type 0} (old : List B) (x : B) (ys zs l1 l2 l3 : List B) → l1 ≡ old ++ x ∷ [] → l2 ≡ l1 ++ ys → l3 ≡ l2 ++ zs → l3 ≡ old ++ x ∷ (ys ++ zs)
block_two old x ys zs l1 l2 l3 p q r = grown_three old (x ∷ []) ys zs l1 l2 l3 p q r

pub block_three : {B : Type 0} (old : List B) (x : B) (ys zs ws l1 l2 l3 l4 : List B) → l1 ≡ old ++ x ∷ [] → l2 ≡ l1 ++ ys → l3 ≡ l2 ++ zs → l4 ≡ l3 ++ ws → l4 ≡ old ++ x ∷ (ys ++ zs ++ ws)
block_three old x ys zs ws l1 l2 l3 l4 p q r u = grown_four old (x ∷ []) ys zs ws l1 l2 l3 l4 p q r u
