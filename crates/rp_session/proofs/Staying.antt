-- What the run of a module leaves as it was.
use Rattle.std.proofs.Common.{◌≡◌, ◌==◌, true, ℕ, List, [], length, map, Option, Some, None, option_map, Result, Ok, Err, IfErr, IfOk, IsErrAnd, OnOk, is_ok, sym, ap, subst, ◌∙◌, arith}
use Rattle.std.proofs.lemmas.Bool.Decides.{nat_tests}
use Rattle.std.proofs.lemmas.List.{length-map, nil_from_length}
use Rattle.rp_access.specs.Comes.{Comes}
use Rattle.rp_access.specs.Moment.{state_of}
use Rattle.rp_base.specs.declared.value.OpEnd.{OpEnd}
use Rattle.rp_base.specs.declared.value.Oid.{Oid}
use Rattle.rp_base.specs.declared.value.Value.{Value}
use Rattle.rp_decl.specs.Records.{Declarations}
use Rattle.rp_decl.specs.View.{declarations_view, name_text}
use Rattle.rp_engine.specs.Does as does
use Rattle.rp_engine.specs.Moment as engine
use Rattle.rp_engine.specs.declared.halt.Halt.{Halt}
use Rattle.rp_engine.specs.declared.units.Units.{Units}
use Rattle.rp_meaning.specs.Frame.{Run}
use Rattle.rp_meaning.specs.Load.{trusted}
use Rattle.rp_meaning.specs.Running.{program_frame}
use Rattle.rp_meaning.specs.State.{State}
use Rattle.rp_proxy.specs.declared.world.World.{World}
use Rattle.rp_session.specs.Loads.{EndsWell}
use Rattle.rp_session.proofs.Settled.{does-keep}
use Rattle.rp_session_laws.proofs.Going.{begins}
use Rattle.rp_session_laws.proofs.Programs.{functions-keep}
use Rattle.rp_session_laws.proofs.Statements as statement
use Rattle.rp_session_laws.specs.Setting.{Stays, setting_of}
use Rattle.rp_step.specs.Left.{flows}
use Rattle.rp_step.specs.declared.unwinding.Left.{Left}
use Rattle.rp_store.specs.Heap.{Owned, content_at}
use Rattle.rp_store.specs.Object.{Content, list, tuple, dict, instance, class, function, method, scope}
use Rattle.rp_store.specs.Shape.{KeepsShape, shape}
use Rattle.rp_tree.specs.declared.stmt.Stmt.{Stmt}
use Rattle.rp_world.specs.Worlds.{HasExposed}

block-settles : (run : Run) (xs : List Stmt) (globals : Oid) (s : State) → Stays (setting_of s) (setting_of (does.block xs (program_frame run trusted globals) s).state)
block-settles run xs globals s =
    (statement.block (map does.stmt xs) (does-keep xs) (setting_of s) (program_frame run trusted globals) (λ at a u i. functions-keep run (setting_of s) at a u i) s (begins s)).setting

-- the setting stays, where the statements ended well
pub settles : (run : Run) (xs : List Stmt) (globals : Oid) (s t : State) → EndsWell t (does.block xs (program_frame run trusted globals) s) → Stays (setting_of s) (setting_of t)
settles run xs globals s t well = subst (λ (t : State). Stays (setting_of s) (setting_of t)) well.0 (block-settles run xs globals s)

-- whether a module has statements

pub no-element : (xs : List Stmt) → (length xs == 0) ≡ true → xs ≡ []
no-element xs e = nil_from_length xs (grind (arith, nat_tests))

-- what holds for each, where there is an answer
pub at-each : {A E X : Type 0} (P : A → X → Type 0) (r : Result A E) → IfOk r (λ a. (x : X) → P a x) → (x : X) → IfOk r (λ a. P a x)
at-each P (Ok a) h x = h x
at-each P (Err e) h x = tt

-- of an answer that is handed on

pub ok-always : {A E P : Type 0} (r : Result A E) → P → OnOk r P
ok-always (Ok a) h = h
ok-always (Err e) h = tt

pub both-then : {A E : Type 0} {P Q R : A → Type 0} (r : Result A E) → ((a : A) → P a → Q a → R a) → IfOk r P → IfOk r Q → IfOk r R
both-then (Ok a) go h i = go a h i
both-then (Err e) go h i = tt

-- of a cause that is handed on
pub err-on : {A E : Type 0} (P : E → Type 0) (r : Result A E) (cause : E) → IsErrAnd r (λ e. e ≡ cause) → P cause → IfErr r P
err-on P (Ok a) cause is h = absurd is
err-on P (Err e) cause is h = subst P (sym is) h

-- what holds where there is an answer, and there is one
pub when-ok : {A E P : Type 0} (r : Result A E) → OnOk r P → is_ok r ≡ true → P
when-ok (Ok a) h e = h
when-ok (Err end) h e = absurd (cc)

-- the statements of a module came to this, by any run of its units
pub came : (units : Units) (xs : List Stmt) (globals : Oid) (w v : World) (r : Result (Result Left OpEnd) Halt)
    → IfOk r (λ e. (base : Run) → Comes (flows e) (state_of v) (does.block xs (program_frame (engine.run_of base units) trusted globals) (state_of w)))
    → (base : Run) → IfOk r (λ e. Comes (flows e) (state_of v) (does.block xs (program_frame (engine.run_of base units) trusted globals) (state_of w)))
came units xs globals w v r law base =
    at-each (λ e (base : Run). Comes (flows e) (state_of v) (does.block xs (program_frame (engine.run_of base units) trusted globals) (state_of w))) r law base

abbrev first : Oid
first = record { 0 = 0 }

-- a scope that has kept its shape
record IsScopeAlike (old : List (Option Value)) (c : Option Content) : Type 0 where
  slots : List (Option Value)
  is : c ≡ Some (scope None None slots)
  many : length slots ≡ length old

-- slots without their values
abbrev emptied : List (Option Value) → List (Option Value)
emptied slots = map (λ _. None) slots

scope-alike : (old : List (Option Value)) (c : Option Content) → option_map shape c ≡ Some (scope None None (emptied old)) → IsScopeAlike old c
scope-alike old None e = absurd (cc)
scope-alike old (Some (list xs)) e = absurd (cc)
scope-alike old (Some (tuple xs)) e = absurd (cc)
scope-alike old (Some (dict es)) e = absurd (cc)
scope-alike old (Some (instance of fs)) e = absurd (cc)
scope-alike old (Some (class n d ms)) e = absurd (cc)
scope-alike old (Some (function n u b w ds)) e = absurd (cc)
scope-alike old (Some (method r q)) e = absurd (cc)
scope-alike old (Some (scope b p slots)) e =
    let no_block : b ≡ None = cc in
    let no_parent : p ≡ None = cc in
    let same : emptied slots ≡ emptied old = cc in
    record {
      slots = slots;
      is = λ k. Some (scope (no_block k) (no_parent k) slots);
      many = sym (length-map slots (λ _. None)) ∙ ap length same ∙ length-map old (λ _. None);
    }

-- so does the scope of the exposed names
pub exposing-stays : (n k : ℕ) (old new : List Owned) → HasExposed n old → KeepsShape old new → k ≡ n → HasExposed k new
exposing-stays n k old new has keeps same =
    let alike = scope-alike has.slots (content_at new first) (keeps.shape first (scope None None (emptied has.slots)) (ap (option_map shape) has.content)) in
    record {
      slots = alike.slots;
      many = alike.many ∙ has.many ∙ sym same;
      content = alike.is;
      owner = keeps.owner first trusted has.owner;
    }

-- as many names are exposed
pub expose-many : (w v : World) → declarations_view v.names v.decl ≡ declarations_view w.names w.decl → length v.decl.expose ≡ length w.decl.expose
expose-many w v same =
    sym (length-map v.decl.expose (name_text v.names))
    ∙ ap (λ (d : Declarations). length d.expose) same
    ∙ length-map w.decl.expose (name_text w.names)
