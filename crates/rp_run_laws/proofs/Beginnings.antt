-- A world that loading gives has no sessions, and each tree has a numbering.
use Rattle.std.proofs.Common.{◌≡◌, ℕ, List, [], ◌∷◌, length, map, Option, Some, None, Result, Ok, Err, IfOk, refl}
use Rattle.std.proofs.Common.{subst}
use Rattle.std.specs.List.{AllZip}
use Rattle.rp_base.specs.declared.value.Name.{Name}
use Rattle.rp_base.specs.declared.value.Oid.{Oid}
use Rattle.rp_base.specs.declared.value.Value.{Value}
use Rattle.rp_decl.specs.Order.{least}
use Rattle.rp_decl.specs.Records.{Declarations}
use Rattle.rp_meaning.specs.Frame.{Run}
use Rattle.rp_meaning.specs.Load.{Refused, declared_made, exposed_value, load, loaded, loaded_after, locals_of}
use Rattle.rp_meaning.specs.Load.{module_state, trusted}
use Rattle.rp_meaning.specs.Load.{unbound}
use Rattle.rp_meaning.specs.Meaning.{block}
use Rattle.rp_meaning.specs.Running.{program_frame}
use Rattle.rp_meaning.specs.Sessions.{World}
use Rattle.rp_meaning.specs.State.{State, Outcome, Flow}
use Rattle.rp_ops.specs.Outcome.{End}
use Rattle.rp_run.specs.Told.{IsLoaded, module_names}
use Rattle.rp_session.specs.Played.{placed}
use Rattle.rp_session.specs.Runs.{run_of}
use Rattle.rp_run_laws.proofs.Numbered.{a_numbering}
use Rattle.rp_scope.specs.Numbers.{IsNumbered}
use Rattle.rp_tree.specs.Statements.{Stmts}
use Rattle.rp_tree.specs.StatementTrees.{Stmts as TextStmts}

abbrev IsFresh : World → Type 0
IsFresh w = w.sessions ≡ []

loaded-fresh : (limit : ℕ) (exposed : List (Option Value)) (s : State) → IfOk (loaded limit exposed s) IsFresh
loaded-fresh limit exposed s = by (least (unbound s.declarations.expose exposed)) refl where
  by : (o : Option (List ℕ)) → least (unbound s.declarations.expose exposed) ≡ o
      → IfOk (loaded limit exposed s) IsFresh
  by None none = rw none refl
  by (Some word) found = rw found tt

ran-fresh : (locals : List Name) (limit : ℕ) (globals : Oid) (o : Outcome Flow)
    → IfOk (loaded_after locals limit globals o) IsFresh
ran-fresh locals limit globals o = by o.answer where
  by : (answer : Result Flow End)
      → IfOk (loaded_after locals limit globals (record { answer = answer; state = o.state })) IsFresh
  by (Err e) = tt
  by (Ok flow) =
      loaded-fresh limit (map (exposed_value locals globals o.state) o.state.declarations.expose) o.state

load-fresh : (run : Run) (names : List (List ℕ)) (d : Declarations) (limit : ℕ)
    → IfOk (load run names d limit) IsFresh
load-fresh run names d limit =
    let all = declared_made names d in
    let globals : Oid = record { 0 = length all.1.heap } in
    let s : State = module_state names d (length (locals_of (run.programs trusted))) all in
    ran-fresh (locals_of (run.programs trusted)) limit globals
    (block (run.programs trusted).body (program_frame run trusted globals) s)

pub fresh-world : (d : Declarations) (cells : ℕ) (body : Stmts) (w : World) → IsLoaded d cells body (Ok w)
    → w.sessions ≡ []
fresh-world d cells body w is =
    subst (λ (r : Result World Refused). IfOk r IsFresh) is.comes
    (load-fresh (run_of (module_names d) d body []) (module_names d) d cells)

pub numbered-all : (names : List (List ℕ)) (trees : List (TextStmts (List ℕ)))
    → (scripts : List Stmts) × AllZip (λ tree script. IsNumbered (placed names tree) script) trees scripts
numbered-all names [] = ([], tt)
numbered-all names (tree ∷ trees) =
    let one = a_numbering (placed names tree) in
    let rest = numbered-all names trees in
    (one.0 ∷ rest.0, (one.1, rest.1))
