-- What stays of a world over a decision.
use Rattle.std.proofs.Common.{subst, zero, suc, ◌≡◌, ℕ, Bool, List, [], ◌∷◌, ◌++◌, Option, Some, None, IsNone, IsSome, refl, sym, arith, inl, inr}
use Rattle.std.proofs.lemmas.List.Elements.{All-append}
use Rattle.std.specs.List.{All}
use Rattle.std.specs.Map.{lookup}
use Rattle.rp_decl.specs.declared.records.Perm.{Perm}
use Rattle.rp_decl.specs.declared.row.Row.{Row}
use Rattle.rp_decl.specs.declared.row.Row.TheVariants.{Public, Needs, Default, Forbidden}
use Rattle.rp_interact.specs.Interacting.{Interacting}
use Rattle.rp_interact.specs.Kept.{IsKeptOrNot, is_perm, keeping, most_kept, used}
use Rattle.rp_trail.specs.View.{IsEntryHeld}
use Rattle.rp_trail.specs.declared.entry.Entry.{Entry}
use Rattle.rp_proxy.specs.Faithful.{IsFaithful}
use Rattle.rp_proxy.specs.View.{IsAsked, OnlyDecides}
use Rattle.rp_proxy.specs.declared.world.World.{World}

kept_only : (old new : Interacting) (kept : List (Perm × Bool)) → new ≡ record old { kept = kept } → new ≡ record old { kept = new.kept }
kept_only old new kept e = rw e

decided_keeps : (permission : Perm) (old new : Interacting) (found : Option Bool)
    → (IsSome found → (kept : List (Perm × Bool)) × (new ≡ record old { kept = kept })) → (IsNone found → (kept : List (Perm × Bool)) × (new ≡ record old { kept = kept }))
    → new ≡ record old { kept = new.kept }
decided_keeps permission old new None held other = let h = other refl in kept_only old new h.0 h.1
decided_keeps permission old new (Some b) held other = let h = held refl in kept_only old new h.0 h.1

kept_or_not : (permission : Perm) (old new : Interacting) → IsKeptOrNot old permission new → (kept : List (Perm × Bool)) × (new ≡ record old { kept = kept })
kept_or_not permission old new h = elim h [ inl e ↦ ((keeping most_kept old permission).kept, e) | inr e ↦ (old.kept, e) ]

-- an interaction that was asked for a permission keeps other answers, and is else as it was
pub asked_keeps : (row : Row) (old new : Interacting) → IsAsked row old new → new ≡ record old { kept = new.kept }
asked_keeps Public old new h = kept_only old new old.kept h
asked_keeps (Needs permission) old new h =
    decided_keeps permission old new (lookup (is_perm permission) old.kept)
    (λ s. ((used old permission).kept, h.held s)) (λ n. kept_or_not permission old new (h.other n))
asked_keeps Default old new h = kept_only old new old.kept h
asked_keeps Forbidden old new h = kept_only old new old.kept h

-- the world after a decision
abbrev pub after : World → ℕ → List Entry → Interacting → World
after w used trail i = record w {
  store = record w.store { used = used };
  trail = trail;
  running = record w.running { interaction = i };
}

pub after-OnlyDecides : (w : World) (used : ℕ) (trail : List Entry) (i : Interacting) → i ≡ record w.running.interaction { kept = i.kept } → OnlyDecides w (after w used trail i)
after-OnlyDecides w used trail i e = record { world = refl; interaction = e }

faithful_keeping : (w : World) (used : ℕ) (trail : List Entry) (kept : List (Perm × Bool)) → IsFaithful w → All (IsEntryHeld w.names w.decl.permissions) trail
    → IsFaithful (after w used trail (record w.running.interaction { kept = kept }))
faithful_keeping w used trail kept f entries = record {
  read = f.read;
  ordered = f.ordered;
  rows = f.rows;
  rows_within = f.rows_within;
  grants = λ later grows. record { has = (f.grants later grows).has; why = (f.grants later grows).why };
  classes = f.classes;
  entries = entries;
}

-- a world that answers as its declarations say still does
pub after-IsFaithful : (w : World) (used : ℕ) (trail : List Entry) (i : Interacting) → i ≡ record w.running.interaction { kept = i.kept }
    → IsFaithful w → All (IsEntryHeld w.names w.decl.permissions) trail → IsFaithful (after w used trail i)
after-IsFaithful w used trail i e f entries =
    subst (λ (j : Interacting). IsFaithful (after w used trail j)) (sym e) (faithful_keeping w used trail i.kept f entries)

one_held : (names permissions : List (List ℕ)) (entry : Entry) → IsEntryHeld names permissions entry → All (IsEntryHeld names permissions) (entry ∷ [])
one_held names permissions entry h zero d l = h
one_held names permissions entry h (suc k) d l = absurd (omega arith)

-- an entry more that is held
pub push-held : (names permissions : List (List ℕ)) (trail : List Entry) (entry : Entry) → All (IsEntryHeld names permissions) trail → IsEntryHeld names permissions entry
    → All (IsEntryHeld names permissions) (trail ++ entry ∷ [])
push-held names permissions trail entry all one = All-append (IsEntryHeld names permissions) trail (entry ∷ []) all (one_held names permissions entry one)
