-- Statements keep what is kept where their parts do.
use Rattle.std.proofs.Common.{ℕ, ◌+◌, zero, suc, List, [], ◌∷◌, length, Option, Some, None}
use Rattle.std.proofs.Common.{Result, Ok, Err, Bool, true, false, if◌then◌else◌}
use Rattle.rp_base.specs.Names.{word_of}
use Rattle.rp_base.specs.declared.operator.BinOp.{BinOp}
use Rattle.rp_base.specs.declared.value.Name.{Name}
use Rattle.rp_base.specs.declared.value.Oid.{Oid}
use Rattle.rp_base.specs.declared.value.Raised.{Raised}
use Rattle.rp_base.specs.declared.value.Rock.TheVariants as rock
use Rattle.rp_base.specs.declared.value.Value.{Value}
use Rattle.rp_base.specs.declared.value.Value.TheVariants as value
use Rattle.rp_base.specs.declared.word.TheConstants.{STR}
use Rattle.rp_ops.specs.Outcome.{End, raised, no_step, no_cell, gives, on_value}
use Rattle.rp_ops.specs.Walk.{Cursor}
use Rattle.rp_store.specs.Heap.{Owned}
use Rattle.rp_store.specs.Key.{same_name}
use Rattle.rp_store.specs.Object as object
use Rattle.rp_store.specs.Writers.{with_methods}
use Rattle.rp_meaning.specs.Blocks.{Code}
use Rattle.rp_meaning.specs.Classes as classes
use Rattle.rp_meaning.specs.Classes.{Methods, Part, method, other, part_done, methods_made, declared_at}
use Rattle.rp_meaning.specs.Classes.{are_functions, functions_in}
use Rattle.rp_meaning.specs.Exceptions as exception
use Rattle.rp_meaning.specs.Exceptions.{Handler, after, finally, handled, kinds_named, matches, otherwise, raise_value}
use Rattle.rp_meaning.specs.Exceptions.{raise_again, takes_raised}
use Rattle.rp_meaning.specs.Frame.{Frame, Meaning, Doing, bind_name, without_name}
use Rattle.rp_meaning.specs.Meaning.{defaults}
use Rattle.rp_meaning.specs.Running.{params_of}
use Rattle.rp_meaning.specs.State.{State, Outcome, Flow, next, broke, continued, returned, on_next, heap_of}
use Rattle.rp_meaning.specs.Statements as stmt_forms
use Rattle.rp_meaning.specs.Statements.{Store}
use Rattle.rp_apart_laws.proofs.Lists.{each_entry}
use Rattle.rp_apart_laws.specs.Apart.{Each, Nothing, OnSome, OnValue}
use Rattle.rp_keeper_laws.specs.Keepers.{Keeper}
use Rattle.rp_keeper_laws.proofs.Forms as form
use Rattle.rp_keeper_laws.proofs.Going.{Any, Anything, Does, FitIn, IsIn, Keeps, KeepsAt, Made, MoreHeld, Moved, Spot}
use Rattle.rp_keeper_laws.proofs.Going.{Values, andthen, ask_any, behind, bind, by_option, charge, chosen, led, leads}
use Rattle.rp_keeper_laws.proofs.Going.{made, moved, op, same, start, step, there_behind, turns_keep, values_later}
use Rattle.rp_keeper_laws.proofs.Operations.{show_leaves}
use Rattle.rp_keeper_laws.proofs.Parts.{AllMean, Known, MakesObject, Means, OptionKeeps, StoreKeeps, makes_function}

-- a statement keeps it
abbrev pub DoesSo : Keeper → Spot → Doing → Type 0
DoesSo k t d = KeepsAt k t Any d

pub block : {k : Keeper} {t : Spot} (ds : List Doing) → Each (DoesSo k t) ds → DoesSo k t (stmt_forms.block ds)
block [] i f c s h = same h tt
block (x ∷ xs) i f c s h = andthen (i.0 f c s h) (λ s g h. block xs i.1 f c s h)

pub nothing : {k : Keeper} {t : Spot} → DoesSo k t stmt_forms.nothing
nothing f c s h = same h tt

pub evaluate : {k : Keeper} {t : Spot} (m : Meaning) → Means k t m → DoesSo k t (stmt_forms.evaluate m)
evaluate m i f c s h = bind (i f c s h) (λ v s p g h. same h tt)

-- storing

pub store_name : {k : Keeper} {t : Spot} (n : Name) → StoreKeeps k t (bind_name n)
store_name n v f c s p h = form.bound n v f c s p h

pub store_attribute : {k : Keeper} {t : Spot} (m : Meaning) (n : Name) → Means k t m
    → StoreKeeps k t (stmt_forms.store_attribute m n)
store_attribute m n i v f c s p h = bind (i f c s h) (λ o s q g h. form.attribute_set o n v f c s q h)

pub store_item : {k : Keeper} {t : Spot} (m x : Meaning) → Means k t m → Means k t x
    → StoreKeeps k t (stmt_forms.store_item m x)
store_item {k} m x i j v f c s p h = bind (i f c s h)
    (λ o s1 q g h. bind (j f c s1 h)
    (λ y s2 r g h. form.item_set o y v f c s2 (k.held_later (heap_of s1) (heap_of s2) g f.side o q) h))

pub store_all : {k : Keeper} {t : Spot} (ds : List Store) → Each (StoreKeeps k t) ds
    → StoreKeeps k t (stmt_forms.store_all ds)
store_all [] i v f c s p h = same h tt
store_all {k} (x ∷ xs) i v f c s p h = andthen (i.0 v f c s p h)
    (λ u g h. store_all xs i.1 v f c u (k.held_later (heap_of s) (heap_of u) g f.side v p) h)

at_end : {k : Keeper} {f : Frame} (x : Option (Value × Cursor)) → Does k f (Values k f) (stmt_forms.at_end x)
at_end None s h = same h tt
at_end (Some x) s h = same h tt

on_element : {k : Keeper} {f : Frame} (go : Value → Cursor → State → Outcome (List Value)) (x : Option (Value × Cursor))
    (s : State) → MoreHeld k f (heap_of s) x → IsIn k f s
    → ((v : Value) (w : Cursor) → k.Held (heap_of s) f.side v → Keeps k f (heap_of s) (Values k f) (go v w s))
    → Keeps k f (heap_of s) (Values k f) (stmt_forms.on_element x s go)
on_element go None s p h more = same h tt
on_element go (Some x) s p h more = more x.0 x.1 p

exactly : {k : Keeper} {t : Spot} (n : ℕ) (w : Cursor) → KeepsAt k t (Values k) (stmt_forms.exactly n w)
exactly zero w f c s h = bind (form.element w f c s h) (λ x s p g h. at_end x s h)
exactly {k} (suc n) w f c s h = bind (form.element w f c s h) (λ x s p g h.
    on_element (λ v w s. on_value (stmt_forms.exactly n w f s) (λ vs s. gives (v ∷ vs) s)) x s p h
    (λ v w q. bind (exactly n w f c s h)
    (λ vs u r g h. same h (k.held_later (heap_of s) (heap_of u) g f.side v q, r))))

store_each : {k : Keeper} {t : Spot} (ds : List Store) (vs : List Value) → Each (StoreKeeps k t) ds → (f : Frame)
    → FitIn k t f → (s : State) → Values k f (heap_of s) vs → IsIn k f s
    → Keeps k f (heap_of s) Anything (stmt_forms.store_each ds vs f s)
store_each [] vs i f c s p h = same h tt
store_each (x ∷ xs) [] i f c s p h = same h tt
store_each {k} (x ∷ xs) (v ∷ vs) i f c s p h =
    andthen (i.0 v f c s p.0 h)
    (λ u g h. store_each xs vs i.1 f c u (values_later k f (heap_of s) (heap_of u) g vs p.1) h)

pub unpack : {k : Keeper} {t : Spot} (ds : List Store) → Each (StoreKeeps k t) ds
    → StoreKeeps k t (stmt_forms.unpack ds)
unpack ds i v f c s p h =
    bind (form.walks v f c s h) (λ w s q g h. bind (exactly (length ds) w f c s h)
    (λ vs s r g h. store_each ds vs i f c s r h))

pub assign : {k : Keeper} {t : Spot} (m : Meaning) (store : Store) → Means k t m → StoreKeeps k t store
    → DoesSo k t (stmt_forms.assign m store)
assign m store i j f c s h = bind (i f c s h) (λ v s p g h. j v f c s p h)

-- augmented assignment

pub augment_name : {k : Keeper} {t : Spot} (n : Name) (o : BinOp) (m : Meaning) → Means k t m
    → DoesSo k t (stmt_forms.augment_name n o m)
augment_name {k} n o m i f c s h = bind (form.read n f c s h)
    (λ a s1 p g h. bind (i f c s1 h)
    (λ b s2 q g h. bind (form.augmented o a b f c s2 (k.held_later (heap_of s1) (heap_of s2) g f.side a p) h)
    (λ v s3 r g h. form.bound n v f c s3 r h)))

pub augment_attribute : {k : Keeper} {t : Spot} (x : Meaning) (n : Name) (o : BinOp) (m : Meaning) → Means k t x
    → Means k t m → DoesSo k t (stmt_forms.augment_attribute x n o m)
augment_attribute {k} x n o m i j f c s h = bind (i f c s h)
    (λ y s1 p g1 h. bind (form.attribute_got y n f c s1 p h) (λ a s2 q g2 h. bind (j f c s2 h) (λ b s3 r g3 h.
    bind (form.augmented o a b f c s3 (k.held_later (heap_of s2) (heap_of s3) g3 f.side a q) h) (λ v s4 l g4 h.
    form.attribute_set y n v f c s4 (k.held_later (heap_of s3) (heap_of s4) g4 f.side y
    (k.held_later (heap_of s2) (heap_of s3) g3 f.side y
    (k.held_later (heap_of s1) (heap_of s2) g2 f.side y p))) h))))

pub augment_item : {k : Keeper} {t : Spot} (x y : Meaning) (o : BinOp) (m : Meaning) → Means k t x → Means k t y
    → Means k t m → DoesSo k t (stmt_forms.augment_item x y o m)
augment_item {k} x y o m i l j f c s h = bind (i f c s h) (λ u s1 p g1 h. bind (l f c s1 h) (λ w s2 q g2 h.
    bind (form.item_got u w f c s2 (k.held_later (heap_of s1) (heap_of s2) g2 f.side u p) h) (λ a s3 r g3 h.
    bind (j f c s3 h) (λ b s4 r4 g4 h.
    bind (form.augmented o a b f c s4 (k.held_later (heap_of s3) (heap_of s4) g4 f.side a r) h) (λ v s5 r5 g5 h.
    form.item_set u w v f c s5 (k.held_later (heap_of s4) (heap_of s5) g5 f.side u
    (k.held_later (heap_of s3) (heap_of s4) g4 f.side u
    (k.held_later (heap_of s2) (heap_of s3) g3 f.side u
    (k.held_later (heap_of s1) (heap_of s2) g2 f.side u p)))) h)))))

-- deleting and leaving

pub delete_attribute : {k : Keeper} {t : Spot} (m : Meaning) (n : Name) → Means k t m
    → DoesSo k t (stmt_forms.delete_attribute m n)
delete_attribute m n i f c s h = bind (i f c s h) (λ o s p g h. form.attribute_deleted o n f c s p h)

pub delete_item : {k : Keeper} {t : Spot} (m x : Meaning) → Means k t m → Means k t x
    → DoesSo k t (stmt_forms.delete_item m x)
delete_item {k} m x i j f c s h = bind (i f c s h)
    (λ o s1 p g h. bind (j f c s1 h)
    (λ y s2 q g h. form.item_deleted o y f c s2 (k.held_later (heap_of s1) (heap_of s2) g f.side o p) h))

pub leave : {k : Keeper} {t : Spot} (flow : Flow) → DoesSo k t (stmt_forms.leave flow)
leave flow f c s h = same h tt

pub give_back : {k : Keeper} {t : Spot} (m : Option Meaning) → OptionKeeps k t m → DoesSo k t (stmt_forms.give_back m)
give_back None i f c s h = same h tt
give_back (Some m) i f c s h = bind (i f c s h) (λ v s p g h. same h tt)

raised_again : {k : Keeper} {f : Frame} (r : Option Raised) → Does k f Anything (raise_again r)
raised_again None s h = same h tt
raised_again (Some r) s h = same h tt

value_raised : {k : Keeper} {f : Frame} (v : Value) → Does k f Anything (raise_value v)
value_raised (value.Rock (rock.Exc kind t)) s h = same h tt
value_raised (value.Rock (rock.Kind kind)) s h = same h tt
value_raised _ s h = same h tt

pub raise : {k : Keeper} {t : Spot} (m : Option Meaning) → OptionKeeps k t m → DoesSo k t (stmt_forms.raise m)
raise None i f c s h = raised_again f.handling s h
raise (Some m) i f c s h = bind (i f c s h) (λ v s p g h. value_raised v s h)

failed : {k : Keeper} {t : Spot} (m : Option Meaning) → OptionKeeps k t m → DoesSo k t (stmt_forms.failed m)
failed None i f c s h = same h tt
failed {k} (Some m) i f c s h = bind (i f c s h) (λ v s p g h. ask_any f c STR v s h (λ s g h.
    bind (op s h (show_leaves s.names v s.plain (start k s h.0))) (λ t s q g h. same h tt)))

pub assert : {k : Keeper} {t : Spot} (m : Meaning) (message : Option Meaning) → Means k t m → OptionKeeps k t message
    → DoesSo k t (stmt_forms.assert m message)
assert m message i j f c s h =
    bind (i f c s h) (λ v s p g h. form.truth v f c s h (λ s g h. same h tt) (λ s g h. failed message j f c s h))

-- choices and loops

abbrev pub BranchKeeps : Keeper → Spot → Meaning × Doing → Type 0
BranchKeeps k t b = Means k t b.0 × DoesSo k t b.1

pub choose : {k : Keeper} {t : Spot} (bs : List (Meaning × Doing)) (last : Doing) → Each (BranchKeeps k t) bs
    → DoesSo k t last → DoesSo k t (stmt_forms.choose bs last)
choose [] last i j f c s h = j f c s h
choose (b ∷ bs) last i j f c s h = bind (i.0.0 f c s h) (λ v s p g h.
    form.truth v f c s h (λ s g h. i.0.1 f c s h) (λ s g h. choose bs last i.1 j f c s h))

tested : {k : Keeper} {t : Spot} (m : Meaning) → Means k t m → (w : Unit {0})
    → KeepsAt k t (MoreHeld k) (λ f. stmt_forms.tested m f w)
tested {k} m i w f c s h = step s h (λ s g h. bind (i f c s h)
    (λ v s p g h. form.truth v f c s h (λ s g h. same h (k.held_rock (heap_of s) f.side rock.Nil))
    (λ s g h. same h tt)))

pub while : {k : Keeper} {t : Spot} (m : Meaning) (body : Doing) → Means k t m → DoesSo k t body
    → DoesSo k t (stmt_forms.while m body)
while m body i j f c s h = turns_keep (s.plain.steps + 1) (λ w s h. tested m i w f c s h)
    (λ v s p h. j f c s h) (tt {0}) s h

pub for : {k : Keeper} {t : Spot} (m : Meaning) (store : Store) (body : Doing) → Means k t m → StoreKeeps k t store
    → DoesSo k t body → DoesSo k t (stmt_forms.for m store body)
for m store body i j l f c s h = bind (i f c s h) (λ v s p g h. bind (form.walks v f c s h) (λ w s q g h.
    form.each_keeps (λ v frame s. on_next (store v frame s) (body frame)) f c
    (λ v s r h. andthen (j v f c s r h) (λ s g h. l f c s h)) w s h))

pub define : {k : Keeper} {t : Spot} (n : Name) (number : ℕ) (code : Code) → Known k t number code
    → AllMean k t (defaults (params_of code)) → DoesSo k t (stmt_forms.define n number (defaults (params_of code)))
define {k} n number code known i f c s h = bind (makes_function (Some n) number code known i f c s h)
    (λ at s own g h. form.bound n (value.Ref at) f c s (k.held_own (heap_of s) f.side at own) h)

-- exceptions

pub record HandlerKeeps (k : Keeper) (t : Spot) (x : Handler) : Type 0 where
  pub kind : OptionKeeps k t x.kind
  pub body : DoesSo k t x.body

after_keeps : {k : Keeper} {f : Frame} {old : List Owned} (o : Outcome Flow) (change : State → State)
    → Keeps k f old Anything o → ((s : State) → IsIn k f s → Moved k f s (change s))
    → Keeps k f old Anything (after o change)
after_keeps {k} {f} {old} o change h more = by o.answer where
  changed : Moved k f o.state (change o.state)
  changed = more o.state h.there

  g : k.Grows old (heap_of (change o.state))
  g = k.grows_on old (heap_of o.state) (heap_of (change o.state)) h.grows changed.1

  by : (answer : Result Flow End)
      → Keeps k f old Anything (after (record { answer = answer; state = o.state }) change)
  by (Ok flow) = record { there = changed.0; grows = g; gives = tt }
  by (Err (raised r)) = record { there = changed.0; grows = g; gives = tt }
  by (Err no_step) = record { there = h.there; grows = h.grows; gives = tt }
  by (Err no_cell) = record { there = h.there; grows = h.grows; gives = tt }

-- what is done in the frame of a handler
handling : {k : Keeper} {t : Spot} (body : Doing) (r : Raised) → DoesSo k t body → (f : Frame) → FitIn k t f
    → Does k f Anything (body (record f { handling = Some r }))
handling body r i f c s h = led s h (leads (i (record f { handling = Some r })
    (record { calls = c.calls; runs = c.runs; acts = c.acts; side = c.side; block = c.block }) s h))

handled_keeps : {k : Keeper} {t : Spot} (n : Option Name) (body : Doing) (r : Raised) → DoesSo k t body
    → DoesSo k t (handled n body r)
handled_keeps None body r i f c s h = handling body r i f c s h
handled_keeps {k} (Some n) body r i f c s h =
    andthen (form.bound n (value.Rock (rock.Exc r.kind r.text)) f c s
    (k.held_rock (heap_of s) f.side (rock.Exc r.kind r.text)) h)
    (λ s g h. after_keeps (body (record f { handling = Some r }) s) (without_name n f) (handling body r i f c s h)
    (λ s h. form.without n f c s h))

matched : {k : Keeper} {f : Frame} (v : Value) (r : Raised) → Does k f Anything (matches v r)
matched v r s h = by_option (kinds_named (heap_of s) v) (λ e. rw e (same h tt)) (λ ks e. rw e (same h tt))

takes_keeps : {k : Keeper} {t : Spot} (m : Option Meaning) (r : Raised) → OptionKeeps k t m
    → KeepsAt k t Any (takes_raised m r)
takes_keeps None r i f c s h = same h tt
takes_keeps (Some m) r i f c s h = bind (i f c s h) (λ v s p g h. matched v r s h)

handle : {k : Keeper} {t : Spot} (hs : List Handler) (r : Raised) → Each (HandlerKeeps k t) hs
    → DoesSo k t (exception.handle hs r)
handle [] r i f c s h = same h tt
handle (x ∷ xs) r i f c s h = bind (takes_keeps x.kind r i.0.kind f c s h) (λ b s p g h.
    chosen b (handled x.name x.body r f) (exception.handle xs r f)
    (handled_keeps x.name x.body r i.0.body f c s h) (handle xs r i.1 f c s h))

otherwise_keeps : {k : Keeper} {f : Frame} {old : List Owned} (o : Outcome Flow) (last : State → Outcome Flow)
    (go : Raised → State → Outcome Flow) → Keeps k f old Anything o → Does k f Anything last
    → ((r : Raised) → Does k f Anything (go r)) → Keeps k f old Anything (otherwise o last go)
otherwise_keeps {k} {f} {old} o last go h more raising = by o.answer where
  by : (answer : Result Flow End)
      → Keeps k f old Anything (otherwise (record { answer = answer; state = o.state }) last go)
  by (Ok next) = behind old (heap_of o.state) h.grows (more o.state h.there)
  by (Ok broke) = record { there = h.there; grows = h.grows; gives = tt }
  by (Ok continued) = record { there = h.there; grows = h.grows; gives = tt }
  by (Ok (returned v)) = record { there = h.there; grows = h.grows; gives = tt }
  by (Err (raised r)) = behind old (heap_of o.state) h.grows (raising r o.state h.there)
  by (Err no_step) = record { there = h.there; grows = h.grows; gives = tt }
  by (Err no_cell) = record { there = h.there; grows = h.grows; gives = tt }

finally_keeps : {k : Keeper} {f : Frame} {old : List Owned} (o : Outcome Flow) (last : State → Outcome Flow)
    → Keeps k f old Anything o → Does k f Anything last → Keeps k f old Anything (finally o last)
finally_keeps {k} {f} {old} o last h more = by o.answer where
  ended : (answer : Result Flow End) → OnValue Nothing answer
      → Keeps k f old Anything (on_next (last o.state) (λ s. record { answer = answer; state = s }))
  ended answer p = behind old (heap_of o.state) h.grows (andthen (more o.state h.there) (λ s g h. same h p))

  by : (answer : Result Flow End)
      → Keeps k f old Anything (finally (record { answer = answer; state = o.state }) last)
  by (Ok flow) = ended (Ok flow) tt
  by (Err (raised r)) = ended (Err (raised r)) tt
  by (Err no_step) = record { there = h.there; grows = h.grows; gives = tt }
  by (Err no_cell) = record { there = h.there; grows = h.grows; gives = tt }

pub try : {k : Keeper} {t : Spot} (body : Doing) (hs : List Handler) (good last : Doing) → DoesSo k t body
    → Each (HandlerKeeps k t) hs → DoesSo k t good → DoesSo k t last → DoesSo k t (exception.try body hs good last)
try body hs good last i j l m f c s h =
    finally_keeps (otherwise (body f s) (good f) (λ r s. exception.handle hs r f s)) (last f)
    (otherwise_keeps (body f s) (good f) (λ r s. exception.handle hs r f s) (i f c s h) (λ s h. l f c s h)
    (λ r s h. handle hs r j f c s h))
    (λ s h. m f c s h)

-- classes

abbrev pub PartKeeps : Keeper → Spot → Part → Type 0
PartKeeps k t (method n m) = MakesObject k t m
PartKeeps k t (other d) = DoesSo k t d

-- methods of a side
abbrev MethodsOwn : Keeper → Frame → List Owned → Methods → Type 0
MethodsOwn k f heap = Each (λ (m : Name × Oid). k.Own heap f.side m.1)

methods_later : (k : Keeper) (f : Frame) (old new : List Owned) → k.Grows old new → (ms : Methods)
    → MethodsOwn k f old ms → MethodsOwn k f new ms
methods_later k f old new g [] p = tt
methods_later k f old new g (m ∷ ms) p =
    (k.own_later old new g f.side m.1 p.0, methods_later k f old new g ms p.1)

part_keeps : {k : Keeper} {t : Spot} (x : Part) (ms : Methods) → PartKeeps k t x → (f : Frame) → FitIn k t f
    → (s : State) → MethodsOwn k f (heap_of s) ms → IsIn k f s
    → Keeps k f (heap_of s) (MethodsOwn k f) (part_done x ms f s)
part_keeps {k} (method n m) ms i f c s p h = bind (i f c s h) (λ at u q g h.
    same h (each_entry (k.Own (heap_of u) f.side) same_name ms n at
    (methods_later k f (heap_of s) (heap_of u) g ms p) q))
part_keeps {k} (other d) ms i f c s p h = bind (i f c s h) (λ flow u q g h.
    same h (methods_later k f (heap_of s) (heap_of u) g ms p))

methods_keep : {k : Keeper} {t : Spot} (ps : List Part) (ms : Methods) → Each (PartKeeps k t) ps → (f : Frame)
    → FitIn k t f → (s : State) → MethodsOwn k f (heap_of s) ms → IsIn k f s
    → Keeps k f (heap_of s) (MethodsOwn k f) (methods_made ps ms f s)
methods_keep [] ms i f c s p h = same h p
methods_keep {k} (x ∷ ps) ms i f c s p h = bind (step s h
    (λ u g h. part_keeps x ms i.0 f c u (methods_later k f (heap_of s) (heap_of u) g ms p) h))
    (λ ms s q g h. methods_keep ps ms i.1 f c s q h)

made_keeps : {k : Keeper} {t : Spot} (at : Option Oid) (n : Name) (ms : Methods) (f : Frame) → FitIn k t f
    → (s : State) → OnSome (k.Own (heap_of s) f.side) at → MethodsOwn k f (heap_of s) ms → IsIn k f s
    → Keeps k f (heap_of s) (Made k f) (classes.class_made at n ms f s)
made_keeps {k} (Some at) n ms f c s own p h = charge (length ms) s h (λ u g h.
    let mine = k.own_later (heap_of s) (heap_of u) g f.side at own in
    let m = there_behind k f at (with_methods ms) u
    (k.methods_set u.declarations.classes (heap_of u) f.side at ms h.0 c.acts mine
    (methods_later k f (heap_of s) (heap_of u) g ms p)) h in
    moved u m (k.own_later (heap_of u) _ m.1 f.side at mine))
made_keeps {k} None n ms f c s own p h =
    made {P = Made k f} f.side (object.class n false ms) s
    (k.class_made s.declarations.classes (heap_of s) n f.side ms h.0 c.acts p)
    (k.own_next s.declarations.classes (heap_of s) f.side (object.class n false ms) h.0) h

functions_own : (k : Keeper) (f : Frame) (heap : List Owned) (ms : Methods) → MethodsOwn k f heap ms
    → MethodsOwn k f heap (functions_in heap ms)
functions_own k f heap ms p = by (are_functions heap ms) where
  by : (b : Bool) → MethodsOwn k f heap (if b then ms else [])
  by true = p
  by false = tt

pub class : {k : Keeper} {t : Spot} (n : Name) (ps : List Part) → Each (PartKeeps k t) ps
    → DoesSo k t (classes.class n ps)
class {k} n ps i f c s h = bind (methods_keep ps [] i f c s tt h) (λ ms s p g h.
    bind (made_keeps (declared_at f (heap_of s) (word_of s.names n) s.declarations.classes) n
    (functions_in (heap_of s) ms) f c s
    (k.declared_own f c.acts s.declarations.classes (heap_of s) (word_of s.names n) h.0)
    (functions_own k f (heap_of s) ms p) h)
    (λ at s own g h. form.bound n (value.Ref at) f c s (k.held_own (heap_of s) f.side at own) h))
