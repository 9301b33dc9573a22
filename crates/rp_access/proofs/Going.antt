-- How going on composes with what is known of a part.
use Rattle.std.proofs.Common.{◌≡◌, Result, Ok, Err, refl, sym, ap, subst}
use mathlib.Core.Path.{fun_ext}
use Rattle.rp_base.specs.Names.{word_of}
use Rattle.rp_base.specs.declared.value.Name.{Name}
use Rattle.rp_base.specs.declared.value.OpEnd.{OpEnd}
use Rattle.rp_base.specs.declared.value.OpEnd.TheVariants as end
use Rattle.rp_base.specs.declared.value.Raised.{Raised}
use Rattle.rp_base.specs.declared.value.Value.{Value}
use Rattle.rp_checker.specs.RowOf.{reading}
use Rattle.rp_meaning.specs.Frame.{Frame, decided, on_decision, asked_for}
use Rattle.rp_meaning.specs.State.{State, Outcome, lifted, monitor_of, with_monitor}
use Rattle.rp_ops.specs.Outcome as plain
use Rattle.rp_ops.specs.Outcome.{Raises, gives, ends, on_value, raised}
use Rattle.rp_proxy.specs.Decide.{Decision, Monitor, decide}
use Rattle.rp_access.specs.Comes.{Comes, IsEnd}
use Rattle.rp_access.specs.Moment.{decided_frame}
use Rattle.rp_access.specs.Parts.{asking}

-- an end passes through
pub IsEnd-then : {A B : Type 0} (e : OpEnd) (s : State) (o : Outcome A) (go : A → State → Outcome B) → IsEnd e s o → IsEnd e s (on_value o go)
IsEnd-then (end.Raised r) s o go is = ap (λ o. on_value o go) is
IsEnd-then end.StopSteps s o go is = ap (λ o. on_value o go) is
IsEnd-then end.StopCells s o go is = ap (λ o. on_value o go) is
IsEnd-then end.Memory s o go is = tt

-- a value is gone on with
pub gives-then : {A B : Type 0} (a : A) (s : State) (o : Outcome A) (go : A → State → Outcome B) → o ≡ gives a s → on_value o go ≡ go a s
gives-then a s o go is = ap (λ o. on_value o go) is

-- the same outcome
pub IsEnd-same : {A : Type 0} (e : OpEnd) (s : State) (o p : Outcome A) → o ≡ p → IsEnd e s p → IsEnd e s o
IsEnd-same e s o p same is = subst (IsEnd e s) (sym same) is

pub Comes-same : {A : Type 0} (r : Result A OpEnd) (s : State) (o p : Outcome A) → o ≡ p → Comes r s p → Comes r s o
Comes-same r s o p same is = subst (Comes r s) (sym same) is

-- a plain operation is one of the whole state
pub Comes-lifted : {A : Type 0} (r : Result A OpEnd) (s : State) (p : plain.State) (o : plain.Outcome A) → plain.Meets r p o → Comes r (record s { plain = p }) (lifted o s)
Comes-lifted (Ok a) s p o is = ap (λ o. lifted o s) is
Comes-lifted (Err (end.Raised r)) s p o is = ap (λ o. lifted o s) is
Comes-lifted (Err end.StopSteps) s p o is = ap (λ o. lifted o s) is
Comes-lifted (Err end.StopCells) s p o is = ap (λ o. lifted o s) is
Comes-lifted (Err end.Memory) s p o is = tt

decision_then : {A : Type 0} (d : Decision) (s : State) (go : State → Outcome A) → on_decision d s go ≡ on_value (on_decision d s (gives (tt {0}))) (λ _ s. go s)
decision_then (Ok nothing) s go = refl
decision_then (Err e) s go = refl

pub decided_then : {A : Type 0} (d : Decision × Monitor) (s : State) (go : State → Outcome A) → decided d s go ≡ on_value (decided d s (gives (tt {0}))) (λ _ s. go s)
decided_then d s go = decision_then d.0 (with_monitor d.1 s) go

-- two ways to go on that are the same
pub on_same : {A B : Type 0} (o : Outcome A) (go more : A → State → Outcome B) → ((a : A) (s : State) → go a s ≡ more a s) → on_value o go ≡ on_value o more
on_same o go more same = ap (on_value o) (fun_ext (λ a. fun_ext (λ s. same a s)))

-- a decision in a frame whose operations are decided
pub asked_then : {A : Type 0} (frame : Frame) (name : Name) (v : Value) (s : State) (go : State → Outcome A)
    → asked_for (decided_frame frame) name v s go ≡ on_value (asking name v s) (λ _ s. go s)
asked_then frame name v s go = decided_then (decide v (reading (word_of s.names name)) (monitor_of s)) s go

-- an exception that is raised
pub raises_end : (A : Type 0) (e : OpEnd) (r : Raised) (s : State) → Raises e r → IsEnd {A = A} e s (ends (raised r) s)
raises_end A (end.Raised x) r s h = ap (λ z. ends (raised z) s) (sym h)
raises_end A end.StopSteps r s h = absurd h
raises_end A end.StopCells r s h = absurd h
raises_end A end.Memory r s h = tt
