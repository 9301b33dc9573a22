-- What the leaves of a tree are, from those of its tokens.
use Rattle.std.proofs.Common.{◌≡◌, refl, ℕ, suc, true, List, [], ◌∷◌, length, arith}
use Rattle.std.specs.List.{All}
use Rattle.std.proofs.lemmas.Bool.{lt-ltb}
use Rattle.rp_base.specs.declared.value.Name.{Name}
use Rattle.rp_grammar.specs.Kinds.{Tokens}
use Rattle.rp_grammar.specs.Leaves.{HasLeavesOf, kind_passes, tokens_pass}
use Rattle.rp_token.specs.declared.token.TokenKind.{TokenKind}
use Rattle.rp_token.specs.declared.token.TokenKind.TheVariants as kind
use Rattle.rp_token.specs.View.{IsHeld, IsHeldKind}
use Rattle.rp_tree.specs.StatementTrees.{Stmts}
use Rattle.rp_program.specs.Leaves.{IsTreeHeld, IsUnnumbered, below, unnumbered}

held_kind : (names : List (List ℕ)) (k : TokenKind) → IsHeldKind names k → kind_passes (below (length names)) k ≡ true
held_kind names (kind.Name n) held = lt-ltb n.0 (length names) held
held_kind names (kind.Int n) held = refl
held_kind names _ held = refl

held_tokens : (names : List (List ℕ)) (ts : Tokens) → All (IsHeld names) ts → tokens_pass (below (length names)) ts ≡ true
held_tokens names [] held = refl
held_tokens names (t ∷ ts) held = rw (held_kind names t.kind (held 0 t (omega arith)), held_tokens names ts (λ k d within. held (suc k) d (omega arith))) refl

pub tree_held : (names : List (List ℕ)) (ts : Tokens) (tree : Stmts Name) → All (IsHeld names) ts → HasLeavesOf ts tree → IsTreeHeld names tree
tree_held names ts tree held leaves = leaves (below (length names)) refl refl (held_tokens names ts held)

any_kind : (k : TokenKind) → kind_passes unnumbered k ≡ true
any_kind (kind.Name n) = refl
any_kind (kind.Int n) = refl
any_kind _ = refl

any_tokens : (ts : Tokens) → tokens_pass unnumbered ts ≡ true
any_tokens [] = refl
any_tokens (t ∷ ts) = rw (any_kind t.kind, any_tokens ts) refl

pub tree_unnumbered : (ts : Tokens) (tree : Stmts Name) → HasLeavesOf ts tree → IsUnnumbered tree
tree_unnumbered ts tree leaves = leaves unnumbered refl refl (any_tokens ts)
