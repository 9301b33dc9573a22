-- The global names of a module begin with those of the declared classes and objects, by whatever names these were read into.
use Rattle.std.proofs.Common.{◌≡◌, ℕ, List, [], ◌∷◌, map, refl, sym, ap, ◌∙◌}
use Rattle.std.specs.List.{All}
use Rattle.std.proofs.lemmas.List.Elements.{All-head, All-tail}
use Rattle.rp_base.specs.Names.{HoldsEachOnce}
use Rattle.rp_base.specs.declared.value.Name.{Name}
use Rattle.rp_decl.specs.Places.{GrowsTo, IsHeld, IsHeldBy}
use Rattle.rp_decl.specs.Records.{Declarations}
use Rattle.rp_decl.specs.View.{Placed, declarations_view, name_text}
use Rattle.rp_session.specs.Runs.{module_in, program_in}
use Rattle.rp_world.proofs.GlobalWords.{names-held, names-view}
use Rattle.rp_world.specs.Globals.{global_names, placed_names}
use Rattle.rp_meaning.specs.BuiltIn.{name_of}
use Rattle.rp_proxy.proofs.LaterRecords.{declarations-later, held-later}
use Rattle.rp_tree.specs.Statements.{Stmts}
use Rattle.rp_world.proofs.Seen.{name-back}

module _ (names : List (List ℕ)) (d : Placed) where
  -- the places of the declared words
  backs : HoldsEachOnce names → (ns : List Name) → All (IsHeld names) ns → map (name_of names) (map (name_text names) ns) ≡ ns
  backs distinct [] held = refl
  backs distinct (n ∷ ns) held = λ i. name-back names distinct n (All-head (IsHeld names) n ns held) i ∷ backs distinct ns (All-tail (IsHeld names) n ns held) i

  names-are : HoldsEachOnce names → IsHeldBy names d → map (name_of names) (global_names (declarations_view names d)) ≡ placed_names d
  names-are distinct held = ap (map (name_of names)) (names-view names d) ∙ backs distinct (placed_names d) (names-held names d held)

  pub module-is : HoldsEachOnce names → IsHeldBy names d → (body : Stmts) → program_in (placed_names d) body ≡ module_in names (declarations_view names d) body
  module-is distinct held body = ap (λ (ns : List Name). program_in ns body) (sym (names-are distinct held))

-- declarations that say the same, by names that came later, have the same names in their places
pub placed-same : (names later : List (List ℕ)) (d e : Placed) → HoldsEachOnce later → GrowsTo names later → IsHeldBy names d → IsHeldBy later e
    → declarations_view later e ≡ declarations_view names d → placed_names e ≡ placed_names d
placed-same names later d e distinct grown held kept same =
    sym (names-are later e distinct kept)
    ∙ ap (λ (ds : Declarations). map (name_of later) (global_names ds)) (same ∙ sym (declarations-later names later grown d held))
    ∙ names-are later d distinct (held-later names later grown d held)
