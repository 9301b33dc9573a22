-- What the loading of declarations comes to.
use Rattle.std.specs.Prelude.{◌≡◌, ◌≤◌, ℕ, true, List, [], Result, Err, is_ok}
use Rattle.rp_decl.specs.Records.{Declarations}
use Rattle.rp_grammar.specs.Program.{highest}
use Rattle.rp_meaning.specs.Load.{Refused, load, module_ended}
use Rattle.rp_meaning.specs.Sessions.{World}
use Rattle.rp_meaning.specs.State.{State, Outcome, Flow}
use Rattle.rp_scope.specs.Numbers.{HasNumbers}
use Rattle.rp_scope.specs.Scopes.{scopes}
use Rattle.rp_session.specs.Runs.{run_of}
use Rattle.rp_session.specs.declared.loading.Loaded.{Loaded}
use Rattle.rp_tree.specs.Heights.{stmts_height}
use Rattle.rp_tree.specs.Marks.{HasNoGuards}
use Rattle.rp_tree.specs.Statements.{Stmts}
use Rattle.rp_tree.specs.StatementViews.{view_tree}
use Rattle.rp_world.specs.Globals.{placed_names}

-- Declarations whose module has these statements come to this, a world or why there is none: the statements are run by trusted code (zope.security)
-- before there is any script.
abbrev pub Loads : List (List ℕ) → Declarations → Stmts → ℕ → Result World Refused → Type 0
Loads names d body cells result = load (run_of names d body []) names d cells ≡ result

-- The module beside a world has no guards, its code blocks have their numbers, no statement is higher than one of a program may be, and its table is that
-- of its scopes, where its global names begin with those of the declared classes and objects.
pub record HasModule (x : Loaded) : Type 0 where
  pub plain : HasNoGuards (view_tree x.module)
  pub numbers : HasNumbers (view_tree x.module)
  pub low : stmts_height (view_tree x.module) ≤ highest
  pub table : x.layouts ≡ scopes (placed_names x.world.decl) (view_tree x.module)

-- a module ended well, in a state
abbrev pub EndsWell : State → Outcome Flow → Type 0
EndsWell s o = (o.state ≡ s) × (is_ok o.answer ≡ true)

-- there is no world, as a module ended otherwise
abbrev pub Breaks : Outcome Flow → Result World Refused → Type 0
Breaks o (Err (module_ended e)) = o.answer ≡ Err e
Breaks o _ = ⊥
