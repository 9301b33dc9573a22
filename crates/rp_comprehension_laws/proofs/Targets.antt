-- What binds a target goes on to what is next.
use Rattle.std.proofs.Common.{◌≡◌, refl, sym, subst, List, [], ◌∷◌, length, Option, Some, None}
use Rattle.rp_base.specs.Names.{word_of}
use Rattle.rp_base.specs.declared.value.Name.{Name}
use Rattle.rp_base.specs.declared.value.Value.{Value}
use Rattle.rp_base.specs.declared.word.TheConstants.{SET_ITEM}
use Rattle.rp_attributes.specs.Attributes as attributes
use Rattle.rp_checker.specs.RowOf.{reading, setting}
use Rattle.rp_items.specs.Items as items
use Rattle.rp_ops.specs.Outcome.{on_value}
use Rattle.rp_proxy.specs.Decide.{Decision, Monitor}
use Rattle.rp_tree.specs.Expressions as tree
use Rattle.rp_meaning.specs.Access as access
use Rattle.rp_meaning.specs.Access.{called}
use Rattle.rp_meaning.specs.Binding.{only}
use Rattle.rp_meaning.specs.Expressions.{Clause}
use Rattle.rp_meaning.specs.Frame.{Frame, decided}
use Rattle.rp_meaning.specs.Meaning as meaning
use Rattle.rp_meaning.specs.Meaning.{eval}
use Rattle.rp_meaning.specs.Special.{Special, on_special, special}
use Rattle.rp_meaning.specs.State.{State, Outcome, Flow, next, done, heap_of, monitor_of, on_flow, on_next, plainly}
use Rattle.rp_meaning.specs.State.{plainly_done}
use Rattle.rp_meaning.specs.Statements as statement
use Rattle.rp_meaning.specs.Statements.{Store}
use Rattle.rp_meaning.specs.Walks.{walk}
use Rattle.rp_more_laws.proofs.Going.{Holds, bind, decided_held, then_held}

abbrev pub IsNext : Flow → State → Type 0
IsNext flow s = flow ≡ next

-- where it is done, what is next goes on
abbrev pub GoesOn : Outcome Flow → Type 0
GoesOn o = Holds o IsNext

abbrev pub Binds : Store → Type 0
Binds store = (v : Value) (frame : Frame) (s : State) → GoesOn (store v frame s)

abbrev pub AllBind : List Store → Type 0
AllBind [] = Unit {0}
AllBind (d ∷ ds) = Binds d × AllBind ds

abbrev pub EachBinds : List Clause → Type 0
EachBinds [] = Unit {0}
EachBinds (c ∷ cs) = Binds c.bind × EachBinds cs

done_then : {A : Type 0} (o : Outcome A) → GoesOn (on_value o (λ _ s. done s))
done_then o = bind o (λ _ s. done s) IsNext (λ a s e. refl)

next_then : (o : Outcome Flow) (go : State → Outcome Flow) → GoesOn o → ((s : State) → GoesOn (go s))
    → GoesOn (on_next o go)
next_then o go h more =
    then_held o (λ flow s. on_flow flow s go) IsNext IsNext h
    (λ flow s _ e. subst (λ flow. GoesOn (on_flow flow s go)) (sym e) (more s))

decided_then : (d : Decision × Monitor) (s : State) (go : State → Outcome Flow) → ((u : State) → GoesOn (go u))
    → GoesOn (decided d s go)
decided_then d s go more = decided_held d s go IsNext (λ u _. more u)

special_then : (m : Option Special) (call : Special → State → Outcome Flow) (other : State → Outcome Flow) (s : State)
    → ((m : Special) → GoesOn (call m s)) → GoesOn (other s) → GoesOn (on_special m call other s)
special_then (Some m) call other s h k = h m
special_then None call other s h k = k

set_attribute_then : (o : Value) (n : Name) (v : Value) (frame : Frame) (s : State)
    → GoesOn (access.set_attribute o n v frame s)
set_attribute_then o n v frame s =
    decided_then (frame.run.decide o (setting (word_of s.names n)) (monitor_of s)) s
    (λ s. plainly_done (attributes.set_attribute o n (word_of s.names n) v) s)
    (λ u. done_then (plainly (attributes.set_attribute o n (word_of u.names n) v) u))

set_item_then : (o i v : Value) (frame : Frame) (s : State) → GoesOn (access.set_item o i v frame s)
set_item_then o i v frame s =
    decided_then (frame.run.decide o (reading (word_of s.names SET_ITEM)) (monitor_of s)) s
    (λ s. on_special (special (heap_of s) o SET_ITEM)
    (λ m s. called (frame.calls m.function (only (m.of ∷ i ∷ v ∷ [])) s)) (plainly_done (items.set_item o i v)) s)
    (λ u. special_then (special (heap_of u) o SET_ITEM)
    (λ m s. called (frame.calls m.function (only (m.of ∷ i ∷ v ∷ [])) s)) (plainly_done (items.set_item o i v)) u
    (λ m. done_then (frame.calls m.function (only (m.of ∷ i ∷ v ∷ [])) u))
    (done_then (plainly (items.set_item o i v) u)))

place_binds : (p : tree.Place) → Binds (meaning.place p)
place_binds (tree.to_name x) v frame s = refl
place_binds (tree.to_attr x a g) v frame s =
    bind (eval x frame s) (λ o s. access.set_attribute o a.name v frame s) IsNext
    (λ o s e. set_attribute_then o a.name v frame s)
place_binds (tree.to_item x i g) v frame s =
    bind (eval x frame s) (λ o s. on_value (eval i frame s) (λ k s. access.set_item o k v frame s)) IsNext (λ o s e.
    bind (eval i frame s) (λ k s. access.set_item o k v frame s) IsNext (λ k s e. set_item_then o k v frame s))

each_binds : (ds : List Store) → AllBind ds → (vs : List Value) (frame : Frame) (s : State)
    → GoesOn (statement.store_each ds vs frame s)
each_binds [] h vs frame s = refl
each_binds (d ∷ ds) h [] frame s = refl
each_binds (d ∷ ds) h (v ∷ vs) frame s =
    next_then (d v frame s) (statement.store_each ds vs frame) (h.0 v frame s) (each_binds ds h.1 vs frame)

unpack_binds : (ds : List Store) → AllBind ds → Binds (statement.unpack ds)
unpack_binds ds h v frame s =
    bind (walk v frame s)
    (λ w s. on_value (statement.exactly (length ds) w frame s) (λ vs s. statement.store_each ds vs frame s)) IsNext
    (λ w s e. bind (statement.exactly (length ds) w frame s) (λ vs s. statement.store_each ds vs frame s) IsNext
    (λ vs s e. each_binds ds h vs frame s))

mutual
  pub target_binds : (p : tree.Target) → Binds (meaning.target p)
  target_binds (tree.to_place p) = place_binds p
  target_binds (tree.group ps) = unpack_binds (meaning.targets ps) (targets_bind ps)

  pub targets_bind : (ps : tree.Targets) → AllBind (meaning.targets ps)
  targets_bind tree.no_targets = tt
  targets_bind (tree.target p ps) = (target_binds p, targets_bind ps)

pub clause_binds : (c : tree.Clause) → Binds (meaning.clause c).bind
clause_binds (tree.a_clause (tree.a_walk p x g) es) = target_binds p

pub clauses_bind : (cs : tree.Clauses) → EachBinds (meaning.clauses cs)
clauses_bind tree.no_clauses = tt
clauses_bind (tree.clause c cs) = (clause_binds c, clauses_bind cs)
