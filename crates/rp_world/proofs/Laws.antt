-- The store that is filled is the one in which the module begins.
use Rattle.std.proofs.Common.{◌≡◌, ℕ, ◌+◌, ◌-◌, List, ◌++◌, length, map, Some, None, sym, ap, ◌∙◌}
use Rattle.std.specs.List.{All}
use Rattle.std.proofs.lemmas.List.{length-map}
use Rattle.rp_base.specs.Names.{HoldsEachOnce}
use Rattle.rp_decl.specs.Places.{IsHeldBy}
use Rattle.rp_decl.specs.View.{Placed, declarations_view}
use Rattle.rp_world.proofs.Apart.{AreApart}
use Rattle.rp_meaning.specs.Expressions.{empty_slots}
use Rattle.rp_meaning.specs.Load.{module_scope, trusted}
use Rattle.rp_store.specs.Object.{scope}
use Rattle.rp_store.specs.Store.{added}
use Rattle.rp_world.proofs.Seen.{bind, declared-seen}
use Rattle.rp_world.specs.PlacingSteps.{SlotsMade, declared_placed, filled, globals_behind, nothing}
use Rattle.rp_world.specs.Worlds.{made_of}

module _ (names : List (List ℕ)) (d : Placed) (once : HoldsEachOnce names) (known : IsHeldBy names d) (apart : All AreApart d.objects) where
  seen : bind (made_of names d) ≡ declared_placed d nothing
  seen = declared-seen names once d known apart

  pub filled-seen : (locals : ℕ) → filled d locals nothing ≡ added (made_of names d).1 trusted (module_scope names (declarations_view names d) locals (made_of names d).0)
  filled-seen locals =
      sym (ap (globals_behind locals) seen)
      ∙ ap (λ n. added (made_of names d).1 trusted (scope (Some 0) None (map Some (made_of names d).0 ++ empty_slots (locals - n)))) (length-map (made_of names d).0 Some)

  pub place-seen : length (declared_placed d nothing).1.heap ≡ length (made_of names d).1.heap
  place-seen = sym (ap (λ (r : SlotsMade). length r.1.heap) seen)
