-- Whoever takes the statements of a script turn by turn has taken those of the tree that its tokens spell.
use Rattle.std.proofs.Common.{◌≡◌, refl, ap, ◌∙◌, Bool, false, List, [], ◌∷◌, ◌++◌}
use Rattle.rp_tree.specs.declared.stmt.Stmt.{Stmt}
use Rattle.rp_tree.specs.Statements as stmt_tree
use Rattle.rp_tree.specs.Statements.{Stmts}
use Rattle.rp_tree.specs.StatementViews.{view_stmt, view_stmts}
use Rattle.rp_grammar.specs.Kinds.{Tokens}
use Rattle.rp_grammar.specs.Statements.{joined}
use Rattle.rp_grammar.proofs.StatementSound.{program_spells}
use Rattle.rp_grammar.proofs.Unmarked.{leaves_spelled, no_guards_spelled}
use Rattle.rp_parse.specs.Visits.{Handed, Hands, TakesTree, TakesWhole, no_stmts}
use Rattle.rp_parse.proofs.Scripted.{passes_behind, passes_none, passes_then}
use Rattle.rp_parse.proofs.Turns.{joined_joined}

-- what statements are, those of two lists one behind the other
pub view_joined : (xs ys : List Stmt) → view_stmts (xs ++ ys) ≡ joined (view_stmts xs) (view_stmts ys)
view_joined [] ys = refl
view_joined (x ∷ xs) ys = ap (stmt_tree.stmt (view_stmt x)) (view_joined xs ys)

-- statements that are kept behind those before
pub kept_joined : (start taken : Stmts) (before next after : List Stmt) → view_stmts before ≡ joined start taken → after ≡ before ++ next → view_stmts after ≡ joined start (joined taken (view_stmts next))
kept_joined start taken before next after was is =
    ap view_stmts is ∙ view_joined before next ∙ ap (λ (l : Stmts). joined l (view_stmts next)) was ∙ joined_joined start taken (view_stmts next)

-- all statements that are kept, where none were before
pub kept_whole : (start end : List Stmt) (found : Stmts) → start ≡ [] → view_stmts end ≡ joined (view_stmts start) found → view_stmts end ≡ found
kept_whole start end found none is = is ∙ ap (λ (l : List Stmt). joined (view_stmts l) found) none

module _ {V : Type 0} (takes : V → Stmts → V → Type 0) where
  pub handed_none : (start : V) (ts : Tokens) → takes start no_stmts start → Handed takes start ts start false ts
  handed_none start ts begins = record { found = no_stmts; passes = passes_none no_stmts false ts; taken = begins }

  pub handed_then : {start now after : V} {ts us vs : Tokens} {b d : Bool} → Handed takes start ts now b us → Hands takes now b us after d vs → Handed takes start ts after d vs
  handed_then {start = start} h next = record {
    found = joined h.found next.next;
    passes = passes_then h.passes (passes_behind h.found next.passes);
    taken = next.taken start h.found h.taken;
  }

  pub takes_tree : (start end : V) (ts : Tokens) → TakesWhole takes start ts end → TakesTree takes start ts end
  takes_tree start end ts whole =
      let spelled = program_spells 650 ts (whole.found, whole.rest) whole.read in
      record {
        tree = whole.found;
        spelled = spelled;
        plain = no_guards_spelled whole.found ts spelled;
        leaves = leaves_spelled whole.found ts spelled;
        taken = whole.taken;
      }
