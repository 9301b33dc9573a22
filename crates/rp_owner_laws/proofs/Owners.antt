-- The laws of owners, from what is kept.
use Rattle.std.proofs.Common.{◌≡◌, refl, sym, ap, ◌∙◌, ℕ, zero, suc, Bool, true, false, List, [], ◌∷◌, slice_get}
use Rattle.std.proofs.Common.{Some, Ok, Err, nat_eq, ◌+◌}
use Rattle.std.proofs.lemmas.Bool.{eqb-true}
use Rattle.std.specs.Prelude.{nat_lt, if◌then◌else◌, option_map}
use Rattle.rp_base.specs.declared.value.Value.{Value}
use Rattle.rp_base.specs.declared.value.Value.TheVariants as value
use Rattle.rp_checker.specs.RowOf.{Operation}
use Rattle.rp_ops.specs.Outcome.{no_cell}
use Rattle.rp_proxy.specs.Decide.{Decision, Monitor, decide, entry_of, class_at, logged, outcome}
use Rattle.rp_trail.specs.Entry.{Entry}
use Rattle.rp_store.specs.Heap.{Owned}
use Rattle.rp_store.specs.Shape.{shaped}
use Rattle.rp_meaning.specs.Frame.{Frame}
use Rattle.rp_meaning.specs.Meaning as meaning
use Rattle.rp_meaning.specs.Meaning.{eval, exec}
use Rattle.rp_meaning.specs.Running.{calls, frame_in}
use Rattle.rp_meaning.specs.State.{Outcome, State, heap_of}
use Rattle.rp_apart_laws.specs.Apart.{Each}
use Rattle.rp_owner_laws.specs.Code.{IsEnd, IsSuch}
use Rattle.rp_owner_laws.specs.Kept.{Acts, Fits, Keeper, Kept, StayFrom, StaysBy, Usable, own, shapes}
use Rattle.rp_owner_laws.specs.Owners.{BlocksKeepOwners, BlocksLeaveOthers, CutRunsAreSuch, ExpressionsKeepOwners}
use Rattle.rp_owner_laws.specs.Owners.{ExpressionsLeaveOthers, FunctionsKeepOwners, FunctionsLeaveOthers}
use Rattle.rp_owner_laws.specs.Owners.{KeepsOwners, LeavesOthers, OthersStay, OwnersStay, StatementsKeepOwners}
use Rattle.rp_owner_laws.specs.Owners.{StatementsLeaveOthers, decide_until, stopping}
use Rattle.rp_scope.specs.Blocks.{expr_blocks, stmt_blocks, stmts_blocks}
use Rattle.rp_meaning.specs.Blocks.{Codes, of_expr, of_stmt, of_stmts}
use Rattle.rp_keeper_laws.specs.Blocks.{Around, telling_around}
use Rattle.rp_keeper_laws.proofs.Going.{Any, Held, KeepsAt, Saying}
use Rattle.rp_keeper_laws.proofs.Programs.{calls_keep, frame_fits, spot}
use Rattle.rp_keeper_laws.proofs.Trees.{Has, block, expression, statement}
use Rattle.rp_keeper_laws.proofs.Everything.{any_each}
use Rattle.rp_base.specs.declared.value.Oid.{Oid}
use Rattle.rp_base.specs.declared.value.Side.{Side}
use Rattle.rp_meaning.specs.Frame.{Run}
use Rattle.rp_owner_laws.proofs.OwnerKeeper.{owner_keeper}

-- ---- owners and kinds

shapes_from : (old heap : List Owned) → StayFrom (shapes old) heap heap
shapes_from old [] = tt
shapes_from old (o ∷ os) = (refl, shapes_from old os)

shapes_stay : (old olds heap : List Owned) (i : ℕ) (o : Owned) → StayFrom (shapes old) olds heap
    → slice_get olds i ≡ Some o → option_map shaped (slice_get heap i) ≡ Some (shaped o)
shapes_stay old [] heap i o h e = absurd (cc)
shapes_stay old (p ∷ ps) [] i o h e = absurd h
shapes_stay old (p ∷ ps) (x ∷ xs) zero o h e =
    let f : p ≡ o = cc in ap Some h.0 ∙ ap (λ (o : Owned). Some (shaped o)) f
shapes_stay old (p ∷ ps) (x ∷ xs) (suc i) o h e = shapes_stay old ps xs i o h.1 e

owners_stay : (old heap : List Owned) → Kept (shapes old) heap → OwnersStay old heap
owners_stay old heap h at o e = shapes_stay old old heap at.0 o h e

-- what is done in a frame keeps it
abbrev Keeping : {A : Type 0} → (Keeper → Frame → Saying A) → (Frame → State → Outcome A) → Type 0
Keeping P does = (k : Keeper) (side : Side) (number : ℕ) → KeepsAt (owner_keeper k) (spot side number) (P k) does

-- nothing is asked of functions and blocks
any_has : (k : Keeper) (side : Side) (codes : Codes) (blocks : List Around) → Has (owner_keeper k) side codes blocks
any_has k side codes blocks = record { functions = any_each codes; blocks = any_each blocks }

kept_behind : {A : Type 0} {P : Keeper → Frame → Saying A} (does : Frame → State → Outcome A) → Keeping P does
    → (k : Keeper) (run : Run) → IsSuch k run → (side : Side) (number : ℕ) (scope : Oid) (s : State) → Acts k side
    → Usable k scope → Kept k (heap_of s)
    → Kept k (heap_of (does (frame_in run (calls run) side number scope) s).state)
kept_behind does i k run such side number scope s acts usable h =
    (i k side number (frame_in run (calls run) side number scope)
    (frame_fits (owner_keeper k) run such side number scope acts) s (h, usable)).there.0

expression_keeps : (x : _) → Keeping (λ k. Held (owner_keeper k)) (eval x)
expression_keeps x k side number = expression (owner_keeper k) (spot side number) x
    (any_has k side (of_expr x) (expr_blocks telling_around number x))

statement_keeps : (x : _) → Keeping (λ k. Any) (exec x)
statement_keeps x k side number = statement (owner_keeper k) (spot side number) x
    (any_has k side (of_stmt x) (stmt_blocks telling_around number x))

block_keeps : (b : _) → Keeping (λ k. Any) (meaning.block b)
block_keeps b k side number = block (owner_keeper k) (spot side number) b
    (any_has k side (of_stmts b) (stmts_blocks telling_around number b))

keeps_owners : {A : Type 0} {P : Keeper → Frame → Saying A} (does : Frame → State → Outcome A) → Keeping P does
    → KeepsOwners does
keeps_owners {P = P} does i run quiet side number scope s =
    owners_stay (heap_of s) _ (kept_behind {P = P} does i (shapes (heap_of s)) run
    (record { quiet = quiet; tight = tt })
    side number scope s tt tt (shapes_from (heap_of s) (heap_of s)))

pub expressions_keep_owners : ExpressionsKeepOwners
expressions_keep_owners x = keeps_owners {P = λ k. Held (owner_keeper k)} (eval x) (expression_keeps x)

pub statements_keep_owners : StatementsKeepOwners
statements_keep_owners x = keeps_owners {P = λ k. Any} (exec x) (statement_keeps x)

pub blocks_keep_owners : BlocksKeepOwners
blocks_keep_owners b = keeps_owners {P = λ k. Any} (meaning.block b) (block_keeps b)

pub functions_keep_owners : FunctionsKeepOwners
functions_keep_owners run quiet at a s =
    owners_stay (heap_of s) _ (calls_keep (owner_keeper (shapes (heap_of s))) run (record { quiet = quiet; tight = tt })
    at a s tt (shapes_from (heap_of s) (heap_of s))).there

-- ---- the objects of others

stays_itself : (n : ℕ) (old : List Owned) (o : Owned) → (o.owner.0 ≡ suc n → Fits (own n old) o.content)
    → StaysBy (own n old) (nat_eq o.owner.0 (suc n)) o o
stays_itself n old o p = by (nat_eq o.owner.0 (suc n)) refl
  where
    by : (b : Bool) → nat_eq o.owner.0 (suc n) ≡ b → StaysBy (own n old) b o o
    by true e = (refl, p (eqb-true o.owner.0 (suc n) e))
    by false e = refl

pub others_from : (n : ℕ) (old heap : List Owned)
    → Each (λ (o : Owned). o.owner.0 ≡ suc n → Fits (own n old) o.content) heap
    → StayFrom (own n old) heap heap
others_from n old [] p = tt
others_from n old (o ∷ os) p = (stays_itself n old o p.0, others_from n old os p.1)

other_stays : (n : ℕ) (old : List Owned) (b : Bool) (o new : Owned) → nat_eq o.owner.0 (suc n) ≡ b
    → StaysBy (own n old) b o new → (o.owner.0 ≡ suc n → ⊥) → new ≡ o
other_stays n old true o new e h other = absurd (other (eqb-true o.owner.0 (suc n) e))
other_stays n old false o new e h other = h

others_stay_from : (n : ℕ) (old olds heap : List Owned) (i : ℕ) (o : Owned) → StayFrom (own n old) olds heap
    → slice_get olds i ≡ Some o → (o.owner.0 ≡ suc n → ⊥) → slice_get heap i ≡ Some o
others_stay_from n old [] heap i o h e other = absurd (cc)
others_stay_from n old (p ∷ ps) [] i o h e other = absurd h
others_stay_from n old (p ∷ ps) (x ∷ xs) zero o h e other =
    let f : p ≡ o = cc in
    ap Some (other_stays n old (nat_eq p.owner.0 (suc n)) p x refl h.0
    (λ q. other (sym (ap (λ (o : Owned). o.owner.0) f) ∙ q)) ∙ f)
others_stay_from n old (p ∷ ps) (x ∷ xs) (suc i) o h e other = others_stay_from n old ps xs i o h.1 e other

pub others_stay : (n : ℕ) (old heap : List Owned) → Kept (own n old) heap → OthersStay n old heap
others_stay n old heap h at o e other = others_stay_from n old old heap at.0 o h e other

leaves_others : {A : Type 0} {P : Keeper → Frame → Saying A} (does : Frame → State → Outcome A) → Keeping P does
    → LeavesOthers does
leaves_others {P = P} does i run quiet tight n number scope s ordered mine =
    others_stay n (heap_of s) _
    (kept_behind {P = P} does i (own n (heap_of s)) run (record { quiet = quiet; tight = tight }) (record { 0 = suc n })
    number scope s refl mine (others_from n (heap_of s) (heap_of s) ordered))

pub expressions_leave_others : ExpressionsLeaveOthers
expressions_leave_others x = leaves_others {P = λ k. Held (owner_keeper k)} (eval x) (expression_keeps x)

pub statements_leave_others : StatementsLeaveOthers
statements_leave_others x = leaves_others {P = λ k. Any} (exec x) (statement_keeps x)

pub blocks_leave_others : BlocksLeaveOthers
blocks_leave_others b = leaves_others {P = λ k. Any} (meaning.block b) (block_keeps b)

pub functions_leave_others : FunctionsLeaveOthers
functions_leave_others run quiet tight n at a s ordered mine =
    others_stay n (heap_of s) _
    (calls_keep (owner_keeper (own n (heap_of s))) run (record { quiet = quiet; tight = tight }) at a s mine
    (others_from n (heap_of s) (heap_of s) ordered)).there

-- ---- up to the first that is allowed

stopped : (d : Decision) → IsEnd (stopping d)
stopped (Ok nothing) = tt
stopped (Err e) = tt

-- what is decided of a proxy, by whether no cell is left
abbrev pub decided_as : Bool → Monitor → Entry → Decision × Monitor
decided_as full m e = if full then (Err no_cell, m) else (outcome e.name e.verdict, logged m e)

quiet_as : (full : Bool) (m : Monitor) (e : Entry) → (decided_as full m e).1.store.heap ≡ m.store.heap
quiet_as true m e = refl
quiet_as false m e = refl

until_quiet : (v : Value) (op : Operation) (m : Monitor) → (decide_until v op m).1.store.heap ≡ m.store.heap
until_quiet (value.Rock r) op m = refl
until_quiet (value.Ref at) op m = refl
until_quiet (value.Prox at) op m =
    quiet_as (nat_lt m.store.limit (m.store.used + 1)) m (entry_of m op (class_at m.store.heap at))

pub cut_runs_are_such : CutRunsAreSuch
cut_runs_are_such run natives lengths = (
  record { decides = until_quiet; natives = natives },
  record { proxies = λ at op m. stopped (decide (value.Prox at) op m).0; lengths = lengths },
)
