-- How going on keeps what is kept.
use Rattle.std.proofs.Common.{◌≡◌, refl, sym, subst, ℕ, zero, suc, ◌+◌, Bool, true, false, List, [], ◌∷◌}
use Rattle.std.proofs.Common.{Option, Some, None, Result, Ok, Err, if◌then◌else◌}
use Rattle.std.specs.Prelude.{nat_lt}
use Rattle.rp_base.specs.Names.{word_of}
use Rattle.rp_base.specs.declared.value.Name.{Name}
use Rattle.rp_base.specs.declared.value.Oid.{Oid}
use Rattle.rp_base.specs.declared.value.Raised.{Raised}
use Rattle.rp_base.specs.declared.value.Side.{Side}
use Rattle.rp_base.specs.declared.value.Value.{Value}
use Rattle.rp_base.specs.declared.value.Value.TheVariants as value
use Rattle.rp_checker.specs.RowOf.{Operation, reading, setting}
use Rattle.rp_ops.specs.Outcome as plain
use Rattle.rp_ops.specs.Outcome.{End, ends, gives, no_cell, on_answer, on_value, on_found}
use Rattle.rp_proxy.specs.Decide.{Decision, Monitor}
use Rattle.rp_store.specs.Cost.{cost}
use Rattle.rp_store.specs.Heap.{Owned, changed_at}
use Rattle.rp_store.specs.Object.{Content}
use Rattle.rp_store.specs.Store.{made as stored}
use Rattle.rp_meaning.specs.Binding.{Arguments}
use Rattle.rp_meaning.specs.Frame.{Calls, Frame, asked, asked_for, asked_to_set, asked_if, asked_each, got}
use Rattle.rp_meaning.specs.Frame.{on_decision, takes, through}
use Rattle.rp_meaning.specs.Special.{Special, on_special, special}
use Rattle.rp_meaning.specs.State.{State, Outcome, Flow, next, broke, continued, returned, choose, on_flow, on_next}
use Rattle.rp_meaning.specs.State.{stepped, charged, lifted, makes, monitor_of, with_monitor, heap_of, with_change}
use Rattle.rp_meaning.specs.Walks.{More, on_turn, on_more, turns}
use Rattle.rp_apart_laws.specs.Apart.{Each, Nothing, OnSome, OnValue}
use Rattle.rp_fixed_laws.specs.Fixed.{IsQuietRun}
use Rattle.rp_keeper_laws.specs.Keepers.{Goes, Keeper, Refers, next_place, with_new}
use Rattle.rp_keeper_laws.specs.PlainKeepers.{Bare, Mild}
use Rattle.rp_keeper_laws.proofs.Mildly.{IsMade, made_fits}
use Rattle.rp_keeper_laws.proofs.Plainly as plainly
use Rattle.rp_keeper_laws.proofs.Plainly.{Leaves}

-- ---- states, and what something comes to

abbrev pub IsKept : Keeper → State → Type 0
IsKept k s = k.Kept s.declarations.classes (heap_of s)

-- a state in which code of a frame runs
abbrev pub IsIn : Keeper → Frame → State → Type 0
IsIn k f s = IsKept k s × k.Scope (heap_of s) f.side f.block f.scope

-- what is said of what is given, among the objects that there are then
abbrev pub Saying : Type 0 → Type 1
Saying A = List Owned → A → Type 0

abbrev pub Anything : {A : Type 0} → Saying A
Anything heap = Nothing

pub record Leads {A : Type 0} (k : Keeper) (old : List Owned) (o : Outcome A) : Type 0 where
  pub there : IsKept k o.state
  pub grows : k.Grows old (heap_of o.state)

pub record Keeps {A : Type 0} (k : Keeper) (f : Frame) (old : List Owned) (P : Saying A) (o : Outcome A) : Type 0 where
  pub there : IsIn k f o.state
  pub grows : k.Grows old (heap_of o.state)
  pub gives : OnValue (P (heap_of o.state)) o.answer

abbrev pub CallsKeep : Keeper → Calls → Type 0
CallsKeep k calls = (at : Oid) (a : Arguments) (s : State) → k.Usable at → IsKept k s
    → Leads k (heap_of s) (calls at a s)

-- the code block of a side
pub record Spot : Type 0 where
  pub side : Side
  pub block : ℕ

-- a frame of its code
pub record FitIn (k : Keeper) (t : Spot) (f : Frame) : Type 0 where
  pub calls : CallsKeep k f.calls
  pub runs : k.Runs f.run
  pub acts : k.Acts f.side
  pub side : f.side ≡ t.side
  pub block : f.block ≡ t.block

-- something is done in a state
abbrev pub Does : {A : Type 0} → Keeper → Frame → Saying A → (State → Outcome A) → Type 0
Does k f P does = (s : State) → IsIn k f s → Keeps k f (heap_of s) P (does s)

-- and behind another that was done before
abbrev pub DoesBehind : {A : Type 0} → Keeper → Frame → List Owned → Saying A → (State → Outcome A) → Type 0
DoesBehind k f old P does = (s : State) → k.Grows old (heap_of s) → IsIn k f s → Keeps k f (heap_of s) P (does s)

-- the same in any frame
abbrev pub KeepsAt : {A : Type 0} → Keeper → Spot → (Frame → Saying A) → (Frame → State → Outcome A) → Type 0
KeepsAt k t P does = (f : Frame) → FitIn k t f → Does k f (P f) (does f)

abbrev pub Held : Keeper → Frame → Saying Value
Held k f heap v = k.Held heap f.side v

abbrev pub Values : Keeper → Frame → Saying (List Value)
Values k f heap = Each (k.Held heap f.side)

abbrev pub Made : Keeper → Frame → Saying Oid
Made k f heap at = k.Own heap f.side at

abbrev pub Any : {A : Type 0} → Frame → Saying A
Any f = Anything

-- a value that refers to what may be used alone
abbrev pub IsBare : Keeper → Value → Type 0
IsBare k v = Refers k.Usable v

-- the quiet run of a frame
pub quiet : {k : Keeper} {t : Spot} {f : Frame} → FitIn k t f → IsQuietRun f.run
quiet {k} {t} {f} c = k.quiet f.run c.runs

-- of what is given nothing is said
pub said_nothing : {A : Type 0} (r : Result A End) → OnValue Nothing r
said_nothing (Ok x) = tt
said_nothing (Err e) = tt

pub start : (k : Keeper) (s : State) → IsKept k s → (k.operations (heap_of s)).Kept (heap_of s)
start k s h = k.plain_begun s.declarations.classes (heap_of s) h

pub plain_bare : (k : Keeper) (heap : List Owned) (v : Value) → IsBare k v → Bare (k.operations heap) v
plain_bare k heap (value.Rock r) p = tt
plain_bare k heap (value.Ref at) p = k.plain_usable heap at p
plain_bare k heap (value.Prox at) p = k.plain_usable heap at p

pub values_later : (k : Keeper) (f : Frame) (old new : List Owned) → k.Grows old new → (vs : List Value)
    → Values k f old vs → Values k f new vs
values_later k f old new g [] p = tt
values_later k f old new g (v ∷ vs) p = (k.held_later old new g f.side v p.0, values_later k f old new g vs p.1)

pub same : {A : Type 0} {k : Keeper} {f : Frame} {P : Saying A} {o : Outcome A} → IsIn k f o.state
    → OnValue (P (heap_of o.state)) o.answer → Keeps k f (heap_of o.state) P o
same {k = k} {o = o} h p = record { there = h; grows = k.grows_not (heap_of o.state); gives = p }

pub bind : {A B : Type 0} {k : Keeper} {f : Frame} {old : List Owned} {P : Saying A} {Q : Saying B} {o : Outcome A}
    {go : A → State → Outcome B} → Keeps k f old P o
    → ((a : A) (s : State) → P (heap_of s) a → k.Grows old (heap_of s) → IsIn k f s → Keeps k f (heap_of s) Q (go a s))
    → Keeps k f old Q (on_value o go)
bind {A} {B} {k} {f} {old} {P} {Q} {o} {go} h more = by o.answer h.gives where
  by : (answer : Result A End) → OnValue (P (heap_of o.state)) answer → Keeps k f old Q (on_answer answer o.state go)
  by (Ok a) p =
      let r = more a o.state p h.grows h.there in
      record { there = r.there; grows = k.grows_on old (heap_of o.state) _ h.grows r.grows; gives = r.gives }
  by (Err e) p = record { there = h.there; grows = h.grows; gives = tt }

-- the same without a frame
pub bind_led : {A B : Type 0} {k : Keeper} {old : List Owned} {o : Outcome A} {go : A → State → Outcome B}
    → Leads k old o → ((a : A) (s : State) → o.answer ≡ Ok a → k.Grows old (heap_of s) → IsKept k s
    → Leads k (heap_of s) (go a s))
    → Leads k old (on_value o go)
bind_led {A} {B} {k} {old} {o} {go} h more = by o.answer refl where
  by : (answer : Result A End) → o.answer ≡ answer → Leads k old (on_answer answer o.state go)
  by (Ok a) e =
      let r = more a o.state e h.grows h.there in
      record { there = r.there; grows = k.grows_on old (heap_of o.state) _ h.grows r.grows }
  by (Err e) f = record { there = h.there; grows = h.grows }

-- behind what was done before
pub behind : {A : Type 0} {k : Keeper} {f : Frame} {P : Saying A} {o : Outcome A} (old new : List Owned)
    → k.Grows old new → Keeps k f new P o → Keeps k f old P o
behind {k = k} {o = o} old new g h =
    record { there = h.there; grows = k.grows_on old new (heap_of o.state) g h.grows; gives = h.gives }

-- of what is given nothing needs to be known
pub forget : {A : Type 0} {k : Keeper} {f : Frame} {old : List Owned} {P : Saying A} {o : Outcome A}
    → Keeps k f old P o → Keeps k f old Anything o
forget {o = o} h = record { there = h.there; grows = h.grows; gives = said_nothing o.answer }

pub leads : {A : Type 0} {k : Keeper} {f : Frame} {old : List Owned} {P : Saying A} {o : Outcome A} → Keeps k f old P o
    → Leads k old o
leads h = record { there = h.there.0; grows = h.grows }

-- what is done in another frame, or in none
pub led : {A : Type 0} {k : Keeper} {f : Frame} {o : Outcome A} (s : State) → IsIn k f s → Leads k (heap_of s) o
    → Keeps k f (heap_of s) Anything o
led {k = k} {f = f} {o = o} s h l = record {
  there = (l.there, k.scope_later (heap_of s) (heap_of o.state) l.grows f.side f.block f.scope h.1);
  grows = l.grows;
  gives = said_nothing o.answer;
}

-- nothing is done
pub nothing : {A : Type 0} {k : Keeper} {o : Outcome A} → IsKept k o.state → Leads k (heap_of o.state) o
nothing {k = k} {o = o} h = record { there = h; grows = k.grows_not (heap_of o.state) }

-- a plain operation
pub plain_leads : {A : Type 0} {k : Keeper} {o : plain.Outcome A} (s : State) → IsKept k s
    → Leaves (k.operations (heap_of s)) o → Leads k (heap_of s) (lifted o s)
plain_leads {k = k} {o = o} s h l =
    let these = k.plain_kept s.declarations.classes (heap_of s) o.state.store.heap h l.there in
    record { there = these.0; grows = these.1 }

pub op : {A : Type 0} {k : Keeper} {f : Frame} {o : plain.Outcome A} (s : State) → IsIn k f s
    → Leaves (k.operations (heap_of s)) o → Keeps k f (heap_of s) Anything (lifted o s)
op s h l = led s h (plain_leads s h.0 l)

-- the objects, changed
abbrev pub Behind : Keeper → State → List Owned → Type 0
Behind k s new = k.Kept s.declarations.classes new × k.Grows (heap_of s) new

abbrev pub Moved : Keeper → Frame → State → State → Type 0
Moved k f old new = IsIn k f new × k.Grows (heap_of old) (heap_of new)

pub moved : {A : Type 0} {k : Keeper} {f : Frame} {P : Saying A} {o : Outcome A} (s : State) → Moved k f s o.state
    → OnValue (P (heap_of o.state)) o.answer → Keeps k f (heap_of s) P o
moved s m p = record { there = m.0; grows = m.1; gives = p }

pub there_behind : (k : Keeper) (f : Frame) (at : Oid) (change : Content → Content) (s : State)
    → Behind k s (changed_at (heap_of s) at change) → IsIn k f s → Moved k f s (with_change at change s)
there_behind k f at change s b h = (
  (b.0, k.scope_later (heap_of s) (changed_at (heap_of s) at change) b.1 f.side f.block f.scope h.1),
  b.1,
)

-- what may be used is changed in what it holds
pub mildly_behind : (k : Keeper) (at : Oid) (change : Content → Content) → Mild change → k.Usable at → (s : State)
    → IsKept k s → Behind k s (changed_at (heap_of s) at change)
mildly_behind k at change m usable s h =
    k.plain_kept s.declarations.classes (heap_of s) (changed_at (heap_of s) at change) h
    ((k.operations (heap_of s)).changed (heap_of s) at change m (k.plain_usable (heap_of s) at usable) (start k s h))

-- a list, a tuple or a dict more
pub plain_behind : (k : Keeper) (side : Side) (content : Content) → IsMade content → (s : State) → IsKept k s
    → Behind k s (with_new (heap_of s) side content)
plain_behind k side content p s h =
    k.plain_kept s.declarations.classes (heap_of s) (with_new (heap_of s) side content) h
    ((k.operations (heap_of s)).appended (heap_of s) (record { owner = side; content = content } ∷ [])
    (made_fits (k.operations (heap_of s)) content p, tt) (start k s h))

-- an object is made
abbrev with_stored : Side → Content → State → State
with_stored side content s = record s { plain = record s.plain { store = stored s.plain.store side content } }

pub made : {k : Keeper} {f : Frame} {P : Saying Oid} (side : Side) (content : Content) (s : State)
    → Behind k s (with_new (heap_of s) side content)
    → P (with_new (heap_of s) side content) (next_place (heap_of s)) → IsIn k f s
    → Keeps k f (heap_of s) P (makes side content s)
made {k} {f} {P} side content s b p h = by (nat_lt s.plain.store.limit (s.plain.store.used + cost content))
  where
    by : (full : Bool) → Keeps k f (heap_of s) P (lifted (if full then ends no_cell s.plain
        else gives (next_place (heap_of s)) (record s.plain { store = stored s.plain.store side content })) s)
    by true = same h tt
    by false = record {
      there = (b.0, k.scope_later (heap_of s) (with_new (heap_of s) side content) b.1 f.side f.block f.scope h.1);
      grows = b.1;
      gives = p;
    }

pub made_led : {A : Type 0} {k : Keeper} (side : Side) (content : Content) (s : State) (go : Oid → State → Outcome A)
    → Behind k s (with_new (heap_of s) side content) → IsKept k s
    → ((t : State) → heap_of t ≡ with_new (heap_of s) side content → IsKept k t
    → Leads k (heap_of t) (go (next_place (heap_of s)) t))
    → Leads k (heap_of s) (on_value (makes side content s) go)
made_led {A} {k} side content s go b h more = by (nat_lt s.plain.store.limit (s.plain.store.used + cost content))
  where
    by : (full : Bool) → Leads k (heap_of s) (on_value (lifted (if full then ends no_cell s.plain
        else gives (next_place (heap_of s)) (record s.plain { store = stored s.plain.store side content })) s) go)
    by true = nothing h
    by false =
        let r = more (with_stored side content s) refl b.0 in
        record { there = r.there; grows = k.grows_on (heap_of s) (with_new (heap_of s) side content) _ b.1 r.grows }

pub found : {A B : Type 0} {k : Keeper} {f : Frame} {Q : Saying B} (r : Result A Raised) (s : State)
    {go : A → State → Outcome B} → IsIn k f s → ((a : A) → r ≡ Ok a → Does k f Q (go a))
    → Keeps k f (heap_of s) Q (on_found r s go)
found {A} {B} {k} {f} {Q} r s {go} h more = by r refl where
  by : (x : Result A Raised) → r ≡ x → Keeps k f (heap_of s) Q (on_found x s go)
  by (Ok a) e = more a e s h
  by (Err x) e = same h tt

pub chosen : {A : Type 0} {k : Keeper} {f : Frame} {P : Saying A} (b : Bool) (this other : State → Outcome A)
    {s : State} → Keeps k f (heap_of s) P (this s) → Keeps k f (heap_of s) P (other s)
    → Keeps k f (heap_of s) P (choose b this other s)
chosen {A} {k} {f} {P} b this other {s} h i = by b where
  by : (b : Bool) → Keeps k f (heap_of s) P (choose b this other s)
  by true = h
  by false = i

pub step : {A : Type 0} {k : Keeper} {f : Frame} {P : Saying A} (s : State) {go : State → Outcome A} → IsIn k f s
    → DoesBehind k f (heap_of s) P go → Keeps k f (heap_of s) P (stepped s go)
step {k = k} s h more = bind (op s h
    (plainly.step {k = k.operations (heap_of s)} {go = gives (tt {0})} s.plain (start k s h.0) (λ s h. plainly.kept h)))
    (λ _ s p g h. more s g h)

pub charge : {A : Type 0} {k : Keeper} {f : Frame} {P : Saying A} (cells : ℕ) (s : State) {go : State → Outcome A}
    → IsIn k f s → DoesBehind k f (heap_of s) P go → Keeps k f (heap_of s) P (charged cells s go)
charge {k = k} cells s h more = bind (op s h
    (plainly.charge {k = k.operations (heap_of s)} {go = gives (tt {0})} cells s.plain (start k s h.0)
    (λ s h. plainly.kept h))) (λ _ s p g h. more s g h)

-- flows

pub flow : {k : Keeper} {f : Frame} (x : Flow) (s : State) (go : State → Outcome Flow) → IsIn k f s
    → Keeps k f (heap_of s) Anything (go s) → Keeps k f (heap_of s) Anything (on_flow x s go)
flow {k} {f} x s go h more = by x where
  by : (x : Flow) → Keeps k f (heap_of s) Anything (on_flow x s go)
  by next = more
  by broke = same h tt
  by continued = same h tt
  by (returned v) = same h tt

pub andthen : {k : Keeper} {f : Frame} {old : List Owned} {o : Outcome Flow} {go : State → Outcome Flow}
    → Keeps k f old Anything o → DoesBehind k f old Anything go → Keeps k f old Anything (on_next o go)
andthen {go = go} h more = bind h (λ x s p g h. flow x s go h (more s g h))

pub turn : {k : Keeper} {f : Frame} {old : List Owned} {o : Outcome Flow} {go : State → Outcome Flow}
    → Keeps k f old Anything o → Does k f Anything go → Keeps k f old Anything (on_turn o go)
turn {k} {f} {old} {o} {go} h more = by o.answer where
  by : (answer : Result Flow End) → Keeps k f old Anything (on_turn (record { answer = answer; state = o.state }) go)
  by (Ok next) = behind old (heap_of o.state) h.grows (more o.state h.there)
  by (Ok continued) = behind old (heap_of o.state) h.grows (more o.state h.there)
  by (Ok broke) = record { there = h.there; grows = h.grows; gives = tt }
  by (Ok (returned v)) = record { there = h.there; grows = h.grows; gives = tt }
  by (Err e) = record { there = h.there; grows = h.grows; gives = tt }

-- a value, where there is one more turn
abbrev pub MoreHeld : {W : Type 0} → Keeper → Frame → Saying (Option (Value × W))
MoreHeld {W} k f heap = OnSome (λ (e : Value × W). k.Held heap f.side e.0)

-- what is done with a value
abbrev pub DoesWith : Keeper → Frame → (Value → State → Outcome Flow) → Type 0
DoesWith k f body = (v : Value) (s : State) → k.Held (heap_of s) f.side v → IsIn k f s
    → Keeps k f (heap_of s) Anything (body v s)

pub more_keeps : {W : Type 0} {k : Keeper} {f : Frame} (e : Option (Value × W)) (s : State)
    (go : Value → W → State → Outcome Flow) → MoreHeld k f (heap_of s) e → IsIn k f s
    → ((v : Value) (w : W) → k.Held (heap_of s) f.side v → Keeps k f (heap_of s) Anything (go v w s))
    → Keeps k f (heap_of s) Anything (on_more e s go)
more_keeps None s go p h more = same h tt
more_keeps (Some e) s go p h more = more e.0 e.1 p

pub turns_keep : {W : Type 0} {k : Keeper} {f : Frame} {more : More W} {body : Value → State → Outcome Flow} (n : ℕ)
    → ((w : W) → Does k f (MoreHeld k f) (more w)) → DoesWith k f body → (w : W)
    → Does k f Anything (turns n more body w)
turns_keep zero m b w s h = same h tt
turns_keep {more = more} {body = body} (suc n) m b w s h = bind (m w s h)
    (λ e s p g h. more_keeps e s (λ v w s. on_turn (body v s) (λ s. turns n more body w s)) p h
    (λ v w q. turn (b v s q h) (λ s h. turns_keep n m b w s h)))

-- decisions

pub decision : {A : Type 0} {k : Keeper} {f : Frame} {P : Saying A} (d : Decision) (s : State) (go : State → Outcome A)
    → IsIn k f s → (Goes d → Keeps k f (heap_of s) P (go s)) → Keeps k f (heap_of s) P (on_decision d s go)
decision {A} {k} {f} {P} d s go h more = by d more where
  by : (d : Decision) → (Goes d → Keeps k f (heap_of s) P (go s)) → Keeps k f (heap_of s) P (on_decision d s go)
  by (Ok go_on) more = more tt
  by (Err e) more = same h tt

-- the same objects, and the operation goes on
ask_so : {A : Type 0} {P : Saying A} {k : Keeper} {t : Spot} (f : Frame) → FitIn k t f → (op : Operation) (v : Value)
    (s : State) {go : State → Outcome A} → IsIn k f s
    → (Goes (f.run.decide v op (monitor_of s)).0 → DoesBehind k f (heap_of s) P go)
    → Keeps k f (heap_of s) P (asked f op v s go)
ask_so {A} {P} {k} f c op v s {go} h more =
    behind (heap_of s) (heap_of u) g (decision d.0 u go i (λ goes. more goes u g i))
  where
    d : Decision × Monitor
    d = f.run.decide v op (monitor_of s)

    u : State
    u = with_monitor d.1 s

    e : heap_of s ≡ heap_of u
    e = sym ((quiet c).decides v op (monitor_of s))

    g : k.Grows (heap_of s) (heap_of u)
    g = subst (λ (heap : List Owned). k.Grows (heap_of s) heap) e (k.grows_not (heap_of s))

    i : IsIn k f u
    i = subst (λ (heap : List Owned). k.Kept s.declarations.classes heap × k.Scope heap f.side f.block f.scope) e h

-- what goes on, goes on with a value that may be used
pub ask : {A : Type 0} {P : Saying A} {k : Keeper} {t : Spot} (f : Frame) → FitIn k t f → (op : Operation) (v : Value)
    (s : State) {go : State → Outcome A} → k.Held (heap_of s) f.side v → IsIn k f s
    → (IsBare k v → DoesBehind k f (heap_of s) P go) → Keeps k f (heap_of s) P (asked f op v s go)
ask {k = k} f c op v s p h more =
    ask_so f c op v s h (λ goes. more (k.asked f.run c.runs (heap_of s) f.side v op (monitor_of s) p goes))

pub ask_for : {A : Type 0} {P : Saying A} {k : Keeper} {t : Spot} (f : Frame) → FitIn k t f → (n : Name) (v : Value)
    (s : State) {go : State → Outcome A} → k.Held (heap_of s) f.side v → IsIn k f s
    → (IsBare k v → DoesBehind k f (heap_of s) P go) → Keeps k f (heap_of s) P (asked_for f n v s go)
ask_for f c n v s p h more = ask f c (reading (word_of s.names n)) v s p h more

pub ask_to_set : {A : Type 0} {P : Saying A} {k : Keeper} {t : Spot} (f : Frame) → FitIn k t f → (n : Name) (v : Value)
    (s : State) {go : State → Outcome A} → k.Held (heap_of s) f.side v → IsIn k f s
    → (IsBare k v → DoesBehind k f (heap_of s) P go) → Keeps k f (heap_of s) P (asked_to_set f n v s go)
ask_to_set f c n v s p h more = ask f c (setting (word_of s.names n)) v s p h more

-- where nothing is asked of the value that is read
pub ask_any : {A : Type 0} {P : Saying A} {k : Keeper} {t : Spot} (f : Frame) → FitIn k t f → (n : Name) (v : Value)
    (s : State) {go : State → Outcome A} → IsIn k f s → DoesBehind k f (heap_of s) P go
    → Keeps k f (heap_of s) P (asked_for f n v s go)
ask_any f c n v s h more = ask_so f c (reading (word_of s.names n)) v s h (λ goes. more)

ask_if : {A : Type 0} {P : Saying A} {k : Keeper} {t : Spot} (f : Frame) → FitIn k t f → (n : Option Name) (v : Value)
    (s : State) {go : State → Outcome A} → IsIn k f s → Does k f P go → Keeps k f (heap_of s) P (asked_if f n v s go)
ask_if f c None v s h more = more s h
ask_if f c (Some n) v s h more = ask_any f c n v s h (λ s g h. more s h)

pub ask_each : {A : Type 0} {P : Saying A} {k : Keeper} {t : Spot} (f : Frame) → FitIn k t f
    → (needs : ℕ → Option Name) (i : ℕ) (vs : List Value) (s : State) {go : State → Outcome A} → IsIn k f s
    → Does k f P go → Keeps k f (heap_of s) P (asked_each f needs i vs s go)
ask_each f c needs i [] s h more = more s h
ask_each f c needs i (v ∷ vs) s h more =
    ask_if f c (needs i) v s h (λ s h. ask_each f c needs (suc i) vs s h more)

-- values that code gets

pub takes_value : {k : Keeper} {t : Spot} (v : Value) (f : Frame) → FitIn k t f → Does k f (Held k f) (takes v f)
takes_value {k} v f c s h = same h (k.held_taken s.declarations.classes (heap_of s) f.side v c.acts h.0)

pub gets_value : {k : Keeper} {t : Spot} (from v : Value) (f : Frame) → FitIn k t f
    → Does k f (Held k f) (got from v f)
gets_value from v f c s h = takes_value (through from v) f c s h

-- special methods

pub on_method : {A : Type 0} {k : Keeper} {f : Frame} {old : List Owned} {P : Saying A} (v : Value) (n : Name)
    (call : Special → State → Outcome A) (otherwise : State → Outcome A) (s : State) → IsBare k v → IsKept k s
    → ((m : Special) → k.Usable m.function → Keeps k f old P (call m s)) → Keeps k f old P (otherwise s)
    → Keeps k f old P (on_special (special (heap_of s) v n) call otherwise s)
on_method {A} {k} {f} {old} {P} v n call otherwise s b h more last =
    by (special (heap_of s) v n) (k.special_usable s.declarations.classes (heap_of s) v n h b)
  where
    by : (m : Option Special) → OnSome (λ (m : Special). k.Usable m.function) m
        → Keeps k f old P (on_special m call otherwise s)
    by (Some m) p = more m p
    by None p = last

pub calls : {k : Keeper} {t : Spot} (f : Frame) → FitIn k t f → (at : Oid) (a : Arguments) (s : State) → k.Usable at
    → IsIn k f s → Keeps k f (heap_of s) Anything (f.calls at a s)
calls f c at a s usable h = led s h (c.calls at a s usable h.0)

-- cases by equations, for what is done by a choice that has no name of its own

pub by_option : {X P : Type 0} (x : Option X) → (x ≡ None → P) → ((y : X) → x ≡ Some y → P) → P
by_option None none some = none refl
by_option (Some y) none some = some y refl
