-- The tree that was read is the one with each name in the place of its word.
use Rattle.std.proofs.Common.{◌≡◌, ℕ, List, length, ap, refl, sym, ◌∙◌}
use Rattle.std.proofs.lemmas.Bool.{ltb-true}
use Rattle.rp_base.specs.Names.{HoldsEachOnce, word_of}
use Rattle.rp_session.specs.Played.{placed}
use Rattle.rp_grammar.proofs.Kept.{stmts_kept}
use Rattle.rp_meaning.specs.BuiltIn.{name_of}
use Rattle.rp_program.specs.Leaves.{IsTreeHeld, below}
use Rattle.rp_scope.specs.Numbers.{HasNumbers, IsNumbered}
use Rattle.rp_tree.specs.Maps.{named, names_by, no_blocks, without_blocks}
use Rattle.rp_tree.specs.Statements.{Stmts}
use Rattle.rp_tree.proofs.MapLaws.{stmts_after}
use Rattle.rp_world.proofs.Seen.{name-back}

pub placed-back : (names : List (List ℕ)) → HoldsEachOnce names → (tree : Stmts) → IsTreeHeld names tree → placed names (named (word_of names) tree) ≡ tree
placed-back names once tree held =
    stmts_after (names_by (word_of names)) (names_by (name_of names)) tree
    ∙ stmts_kept (below (length names)) (names_by (λ n. name_of names (word_of names n)))
    (λ n ok. name-back names once n (ltb-true n.0 (length names) ok)) (λ k. refl) (λ b ok. refl) (λ s g ok. refl) tree held

-- so is one of which the numbers of code blocks were taken off
placed-unnumbered : (names : List (List ℕ)) → HoldsEachOnce names → (tree : Stmts) → IsTreeHeld names tree → placed names (without_blocks (named (word_of names) tree)) ≡ without_blocks tree
placed-unnumbered names once tree held =
    stmts_after no_blocks (names_by (name_of names)) (named (word_of names) tree)
    ∙ sym (stmts_after (names_by (name_of names)) no_blocks (named (word_of names) tree))
    ∙ ap without_blocks (placed-back names once tree held)

-- a tree that has its numbers is that one, numbered
pub numbered-back : (names : List (List ℕ)) → HoldsEachOnce names → (tree : Stmts) → IsTreeHeld names tree → HasNumbers tree
    → IsNumbered (placed names (without_blocks (named (word_of names) tree))) tree
numbered-back names once tree held has = record {
  is_source = sym (stmts_after no_blocks no_blocks tree) ∙ ap without_blocks (sym (placed-unnumbered names once tree held));
  has_numbers = has;
}
