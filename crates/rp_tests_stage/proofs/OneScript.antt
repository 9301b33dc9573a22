-- The trees and the tables of one script.
use Rattle.std.proofs.Common.{◌≡◌, List, [], ◌∷◌, sym, subst}
use Rattle.std.specs.List.{AllZip}
use Rattle.rp_scope.specs.Scopes.{Scope}
use Rattle.rp_session.specs.Programs.{IsResolved}
use Rattle.rp_tree.specs.declared.stmt.Tree.{Tree}

pub one_resolved : (trees : List Tree) (tables : List (List Scope)) (tree : Tree) (table : List Scope) → trees ≡ tree ∷ [] → tables ≡ table ∷ []
    → IsResolved tree table → AllZip IsResolved trees tables
one_resolved trees tables tree table is kept resolved =
    subst (λ (ts : List Tree). AllZip IsResolved ts tables) (sym is) (subst (λ (ls : List (List Scope)). AllZip IsResolved (tree ∷ []) ls) (sym kept) (resolved, tt))
