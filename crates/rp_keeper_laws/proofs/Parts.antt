-- Expressions keep what is kept where their parts do.
use Rattle.std.proofs.Common.{◌≡◌, refl, sym, ap, subst, ℕ, suc, false, List, [], ◌∷◌, length, Option, Some, None}
use Rattle.rp_base.specs.declared.operator.BinOp.{BinOp}
use Rattle.rp_base.specs.declared.operator.BinOp.TheVariants.{Pow}
use Rattle.rp_base.specs.declared.operator.UnOp.{UnOp}
use Rattle.rp_base.specs.declared.value.Name.{Name}
use Rattle.rp_base.specs.declared.value.Oid.{Oid}
use Rattle.rp_base.specs.declared.value.Raised.{Raised}
use Rattle.rp_base.specs.declared.value.Rock.{Rock}
use Rattle.rp_base.specs.declared.value.Rock.TheVariants as rock
use Rattle.rp_base.specs.declared.value.Side.{Side}
use Rattle.rp_base.specs.declared.value.Value.{Value}
use Rattle.rp_base.specs.declared.value.Value.TheVariants as value
use Rattle.rp_ops.specs.Keys.{key_named}
use Rattle.rp_ops.specs.Outcome.{gives}
use Rattle.rp_ops.specs.Walk.{Cursor}
use Rattle.rp_store.specs.Object as object
use Rattle.rp_store.specs.Object.{Content}
use Rattle.rp_store.specs.Writers.{pushed, with_rock}
use Rattle.rp_tree.specs.declared.parts.Test.{Test}
use Rattle.rp_meaning.specs.Binding.{none}
use Rattle.rp_meaning.specs.Blocks.{Code}
use Rattle.rp_meaning.specs.Calls.{Argument}
use Rattle.rp_meaning.specs.Expressions as forms
use Rattle.rp_meaning.specs.Expressions.{Clause, truth, empty_slots}
use Rattle.rp_meaning.specs.Frame.{Meaning, Doing, Frame, layouts_of}
use Rattle.rp_meaning.specs.Meaning.{defaults}
use Rattle.rp_meaning.specs.Running.{params_of}
use Rattle.rp_meaning.specs.State.{State, Outcome, heap_of}
use Rattle.rp_meaning.specs.Walks.{each}
use Rattle.rp_apart_laws.specs.Apart.{Each}
use Rattle.rp_keeper_laws.specs.Keepers.{Keeper}
use Rattle.rp_keeper_laws.proofs.Calling.{ArgumentsKeep, arguments_keep, call_keeps}
use Rattle.rp_keeper_laws.proofs.Forms as form
use Rattle.rp_keeper_laws.proofs.Going.{Any, Anything, Does, FitIn, Held, IsIn, Keeps, KeepsAt, Made, Saying, Spot}
use Rattle.rp_keeper_laws.proofs.Going.{andthen, bind, charge, chosen, found, led, leads, made, mildly_behind}
use Rattle.rp_keeper_laws.proofs.Going.{moved, op, plain_behind, same, start, step, there_behind}
use Rattle.rp_keeper_laws.proofs.Mildly.{IsMade, made_mild}
use Rattle.rp_keeper_laws.proofs.Objects.{set_item}
use Rattle.rp_keeper_laws.proofs.Plainly.{pushed_spares, rock_spares}
use Rattle.std.proofs.Common.{Result, Ok, Err}

-- an expression keeps it, and gives a value as the code holds it
abbrev pub Means : Keeper → Spot → Meaning → Type 0
Means k t m = KeepsAt k t (Held k) m

abbrev pub AllMean : Keeper → Spot → List Meaning → Type 0
AllMean k t ms = Each (Means k t) ms

pub constant : {k : Keeper} {t : Spot} (r : Rock) → Means k t (forms.constant (value.Rock r))
constant {k} r f c s h = step s h (λ s g h. same h (k.held_rock (heap_of s) f.side r))

pub name : {k : Keeper} {t : Spot} (n : Name) → Means k t (forms.name n)
name n f c s h = step s h (λ s g h. form.read n f c s h)

-- as many values as there are expressions
abbrev AsMany : {A : Type 0} → List A → Frame → Saying (List Value)
AsMany ms f heap vs = length vs ≡ length ms

pub values : {k : Keeper} {t : Spot} (ms : List Meaning) → AllMean k t ms → KeepsAt k t (AsMany ms) (forms.values ms)
values [] i f c s h = same h refl
values (m ∷ ms) i f c s h =
    bind (i.0 f c s h) (λ v s p g h. bind (values ms i.1 f c s h) (λ vs s q g h. same h (ap suc q)))

made_own : {k : Keeper} {t : Spot} (content : Content) → IsMade content → (f : Frame) → FitIn k t f → (s : State)
    → IsIn k f s → Keeps k f (heap_of s) (Held k f) (forms.makes_own content f s)
made_own {k} content p f c s h =
    bind (made {P = Made k f} f.side content s (plain_behind k f.side content p s h.0)
    (k.own_next s.declarations.classes (heap_of s) f.side content h.0) h)
    (λ at s own g h. same h (k.held_own (heap_of s) f.side at own))

pub tuple : {k : Keeper} {t : Spot} (ms : List Meaning) → AllMean k t ms → Means k t (forms.tuple ms)
tuple ms i f c s h =
    step s h (λ s g h. bind (values ms i f c s h) (λ vs s p g h. made_own (object.tuple vs) tt f c s h))

pub list : {k : Keeper} {t : Spot} (ms : List Meaning) → AllMean k t ms → Means k t (forms.list ms)
list ms i f c s h =
    step s h (λ s g h. bind (values ms i f c s h) (λ vs s p g h. made_own (object.list vs) tt f c s h))

abbrev pub PairKeeps : Keeper → Spot → Meaning × Meaning → Type 0
PairKeeps k t p = Means k t p.0 × Means k t p.1

pairs : {k : Keeper} {t : Spot} (ps : List (Meaning × Meaning)) → Each (PairKeeps k t) ps
    → KeepsAt k t Any (forms.pairs ps)
pairs [] i f c s h = same h tt
pairs (p ∷ ps) i f c s h = bind (i.0.0 f c s h) (λ x s q g h. bind (i.0.1 f c s h) (λ v s r g h.
    bind (pairs ps i.1 f c s h) (λ kvs s m g h. same h tt)))

-- what is found, where it is
abbrev OnFound : {A : Type 0} → (A → Type 0) → Result A Raised → Type 0
OnFound P (Ok x) = P x
OnFound P (Err e) = Unit {0}

by_result : {X E P : Type 0} (x : Result X E) → ((y : X) → x ≡ Ok y → P) → ((e : E) → x ≡ Err e → P) → P
by_result (Ok y) ok err = ok y refl
by_result (Err e) ok err = err e refl

-- what mild changes leave such stays such while entries are put into it
dict_with_made : (content : Content) (ps : List (Value × Value)) → IsMade content
    → OnFound IsMade (forms.dict_with content ps)
dict_with_made content [] p = p
dict_with_made content (x ∷ ps) p = by_result (key_named x.0)
    (λ r e. rw e (dict_with_made (with_rock r x.1 content) ps
    (made_mild (with_rock r x.1) (rock_spares r x.1) content p)))
    (λ r e. rw e tt)

pub dict : {k : Keeper} {t : Spot} (ps : List (Meaning × Meaning)) → Each (PairKeeps k t) ps → Means k t (forms.dict ps)
dict ps i f c s h = step s h (λ s g h. bind (pairs ps i f c s h) (λ kvs s p g h.
    found (forms.dict_with (object.dict []) kvs) s h (λ content e s h.
    made_own content (subst (OnFound IsMade) e (dict_with_made (object.dict []) kvs tt)) f c s h)))

pub cond : {k : Keeper} {t : Spot} (x a b : Meaning) → Means k t x → Means k t a → Means k t b
    → Means k t (forms.cond x a b)
cond x a b i j l f c s h =
    step s h (λ s g h. bind (i f c s h) (λ v s p g h. form.truth v f c s h (λ s g h. j f c s h) (λ s g h. l f c s h)))

later_or : {k : Keeper} {t : Spot} (ms : List Meaning) → AllMean k t ms → (v : Value)
    → form.HeldKeeps k t v (Held k) (forms.later_or ms v)
later_or [] i v f c s p h = same h p
later_or {k} (m ∷ ms) i v f c s p h = form.truth v f c s h
    (λ u g h. same h (k.held_later (heap_of s) (heap_of u) g f.side v p))
    (λ s g h. step s h (λ s g h. bind (i.0 f c s h) (λ w s q g h. later_or ms i.1 w f c s q h)))

later_and : {k : Keeper} {t : Spot} (ms : List Meaning) → AllMean k t ms → (v : Value)
    → form.HeldKeeps k t v (Held k) (forms.later_and ms v)
later_and [] i v f c s p h = same h p
later_and {k} (m ∷ ms) i v f c s p h = form.truth v f c s h
    (λ s g h. step s h (λ s g h. bind (i.0 f c s h) (λ w s q g h. later_and ms i.1 w f c s q h)))
    (λ u g h. same h (k.held_later (heap_of s) (heap_of u) g f.side v p))

pub or : {k : Keeper} {t : Spot} (ms : List Meaning) → AllMean k t ms → Means k t (forms.or ms)
or {k} [] i f c s h = same h (k.held_rock (heap_of s) f.side rock.Nil)
or (m ∷ ms) i f c s h = bind (i.0 f c s h) (λ v s p g h. later_or ms i.1 v f c s p h)

pub and : {k : Keeper} {t : Spot} (ms : List Meaning) → AllMean k t ms → Means k t (forms.and ms)
and {k} [] i f c s h = same h (k.held_rock (heap_of s) f.side rock.Nil)
and (m ∷ ms) i f c s h = bind (i.0 f c s h) (λ v s p g h. later_and ms i.1 v f c s p h)

truth_held : {k : Keeper} {f : Frame} (b : _) (s : State) → IsIn k f s
    → Keeps k f (heap_of s) (Held k f) (gives (truth b) s)
truth_held {k} {f} b s h = same h (k.held_rock (heap_of s) f.side (rock.Truth b))

pub negated : {k : Keeper} {t : Spot} (m : Meaning) → Means k t m → Means k t (forms.negated m)
negated m i f c s h = step s h (λ s g h. bind (i f c s h)
    (λ v s p g h. form.truth v f c s h (λ s g h. truth_held _ s h) (λ s g h. truth_held _ s h)))

tests : {k : Keeper} {t : Spot} (ts : List (Test × Meaning)) → Each (λ x. Means k t x.1) ts → (a : Value)
    → KeepsAt k t (Held k) (forms.tests ts a)
tests [] i a f c s h = truth_held _ s h
tests (x ∷ xs) i a f c s h = step s h (λ s g h. bind (i.0 f c s h)
    (λ b s q g h. bind (form.test_keeps x.0 a b f c s q h) (λ r s _ g h.
    chosen r (forms.tests xs b f) (gives (truth false)) (tests xs i.1 b f c s h) (truth_held _ s h))))

pub compare : {k : Keeper} {t : Spot} (m : Meaning) (ts : List (Test × Meaning)) → Means k t m
    → Each (λ x. Means k t x.1) ts → Means k t (forms.compare m ts)
compare m ts i j f c s h = bind (i f c s h) (λ a s p g h. tests ts j a f c s h)

operands : {k : Keeper} {t : Spot} (os : List (BinOp × Meaning)) → Each (λ x. Means k t x.1) os → (a : Value)
    → form.HeldKeeps k t a (Held k) (forms.operands os a)
operands [] i a f c s p h = same h p
operands (o ∷ os) i a f c s p h = step s h (λ s g h. bind (i.0 f c s h)
    (λ b s q g h. bind (form.operated o.0 a b f c s h) (λ v s r g h. operands os i.1 v f c s r h)))

pub chain : {k : Keeper} {t : Spot} (m : Meaning) (os : List (BinOp × Meaning)) → Means k t m
    → Each (λ x. Means k t x.1) os → Means k t (forms.chain m os)
chain m os i j f c s h = bind (i f c s h) (λ a s p g h. operands os j a f c s p h)

pub unary : {k : Keeper} {t : Spot} (o : UnOp) (m : Meaning) → Means k t m → Means k t (forms.unary o m)
unary o m i f c s h = step s h (λ s g h. bind (i f c s h) (λ a s p g h. form.operated_once o a f c s h))

pub power : {k : Keeper} {t : Spot} (m n : Meaning) → Means k t m → Means k t n → Means k t (forms.power m n)
power m n i j f c s h = step s h (λ s g h. bind (i f c s h) (λ a s p g h. bind (j f c s h)
    (λ b s q g h. form.operated Pow a b f c s h)))

-- trailers

abbrev pub TrailerKeeps : Keeper → Spot → (Value → Meaning) → Type 0
TrailerKeeps k t x = (v : Value) → form.HeldKeeps k t v (Held k) (x v)

trailers : {k : Keeper} {t : Spot} (ts : List (Value → Meaning)) → Each (TrailerKeeps k t) ts
    → TrailerKeeps k t (forms.trailers ts)
trailers [] i v f c s p h = same h p
trailers {k} (x ∷ xs) i v f c s p h =
    bind (step s h (λ u g h. i.0 v f c u (k.held_later (heap_of s) (heap_of u) g f.side v p) h))
    (λ w s q g h. trailers xs i.1 w f c s q h)

pub primary : {k : Keeper} {t : Spot} (m : Meaning) (ts : List (Value → Meaning)) → Means k t m
    → Each (TrailerKeeps k t) ts → Means k t (forms.primary m ts)
primary m ts i j f c s h = bind (i f c s h) (λ v s p g h. trailers ts j v f c s p h)

pub attribute : {k : Keeper} {t : Spot} (n : Name) → TrailerKeeps k t (forms.attribute n)
attribute n o f c s p h = form.attribute_got o n f c s p h

pub item : {k : Keeper} {t : Spot} (m : Meaning) → Means k t m → TrailerKeeps k t (forms.item m)
item {k} m i o f c s p h = bind (i f c s h)
    (λ x u q g h. form.item_got o x f c u (k.held_later (heap_of s) (heap_of u) g f.side o p) h)

abbrev pub OptionKeeps : Keeper → Spot → Option Meaning → Type 0
OptionKeeps k t None = Unit {0}
OptionKeeps k t (Some m) = Means k t m

part : {k : Keeper} {t : Spot} (m : Option Meaning) → OptionKeeps k t m → Means k t (forms.part m)
part {k} None i f c s h = same h (k.held_rock (heap_of s) f.side rock.Nil)
part (Some m) i f c s h = i f c s h

pub slice : {k : Keeper} {t : Spot} (x y z : Option Meaning) → OptionKeeps k t x → OptionKeeps k t y
    → OptionKeeps k t z → TrailerKeeps k t (forms.slice x y z)
slice x y z i j l o f c s p h = bind (part x i f c s h)
    (λ a s q g h. bind (part y j f c s h) (λ b s r g h. bind (part z l f c s h) (λ d s m g h.
    form.slice_got o a b d f c s h)))

pub call : {k : Keeper} {t : Spot} (as' : List Argument) → ArgumentsKeep k t as' → TrailerKeeps k t (forms.call as')
call {k} as' i v f c s p h = bind (arguments_keep as' i none f c s tt h)
    (λ a u q g h. call_keeps v a f c u (k.held_later (heap_of s) (heap_of u) g f.side v p) q h)

-- functions and comprehensions

abbrev pub MakesObject : Keeper → Spot → (Frame → State → Outcome Oid) → Type 0
MakesObject k t m = KeepsAt k t (Made k) m

-- what is said of the code and of the block of a function
pub record Known (k : Keeper) (t : Spot) (number : ℕ) (code : Code) : Type 0 where
  pub function : k.Function t.side (number, code)
  pub block : k.Block t.side (number, t.block)

pub makes_function : {k : Keeper} {t : Spot} (n : Option Name) (number : ℕ) (code : Code) → Known k t number code
    → AllMean k t (defaults (params_of code))
    → MakesObject k t (forms.makes_function n number (defaults (params_of code)))
makes_function {k} {t} n number code known i f c s h = bind (values (defaults (params_of code)) i f c s h)
    (λ vs s p g h.
    made {P = Made k f} f.side (object.function n f.side number f.scope vs) s
    (k.function_made f.run c.runs s.declarations.classes (heap_of s) n f.side number f.block f.scope code vs h.0 c.acts
    h.1 (subst (λ (side : Side). k.Function side (number, code)) (sym c.side) known.function)
    (subst (λ (side : Side). k.Block side (number, f.block)) (sym c.side)
    (subst (λ (block : ℕ). k.Block t.side (number, block)) (sym c.block) known.block)) p)
    (k.own_next s.declarations.classes (heap_of s) f.side (object.function n f.side number f.scope vs) h.0) h)

pub lambda : {k : Keeper} {t : Spot} (number : ℕ) (code : Code) → Known k t number code
    → AllMean k t (defaults (params_of code)) → Means k t (forms.lambda number (defaults (params_of code)))
lambda {k} number code known i f c s h =
    step s h (λ s g h. bind (makes_function None number code known i f c s h)
    (λ at s own g h. same h (k.held_own (heap_of s) f.side at own)))

abbrev pub StoreKeeps : Keeper → Spot → (Value → Doing) → Type 0
StoreKeeps k t store = (v : Value) → form.HeldKeeps k t v Any (store v)

-- a clause, whose iterable stands in the first block, and all else in the other
pub record ClauseKeeps (k : Keeper) (t u : Spot) (c : Clause) : Type 0 where
  pub of : Means k t c.of
  pub bind : StoreKeeps k u c.bind
  pub tests : AllMean k u c.tests

abbrev pub ClausesKeep : Keeper → Spot → Spot → List Clause → Type 0
ClausesKeep k t u [] = Unit {0}
ClausesKeep k t u (c ∷ cs) = ClauseKeeps k t u c × ClausesKeep k u u cs

where_all : {k : Keeper} {t : Spot} (ms : List Meaning) (inside : Doing) → AllMean k t ms → (f : Frame) → FitIn k t f
    → Does k f Anything (inside f) → Does k f Anything (forms.where_all ms inside f)
where_all [] inside i f c j s h = j s h
where_all (m ∷ ms) inside i f c j s h = bind (i.0 f c s h)
    (λ v s p g h. form.truth v f c s h (λ s g h. where_all ms inside i.1 f c j s h) (λ s g h. same h tt))

turn : {k : Keeper} {t : Spot} (x : Clause) (inside : Doing) → StoreKeeps k t x.bind → AllMean k t x.tests
    → (f : Frame) → FitIn k t f → Does k f Anything (inside f) → (v : Value) (s : State) → k.Held (heap_of s) f.side v
    → IsIn k f s → Keeps k f (heap_of s) Anything (forms.turn x inside v f s)
turn x inside i j f c d v s p h =
    andthen (i v f c s p h) (λ s g h. where_all x.tests inside j f c d s h)

nest : {k : Keeper} {t : Spot} (cs : List Clause) (inside : Doing) → ClausesKeep k t t cs → (f : Frame) → FitIn k t f
    → Does k f Anything (inside f) → Does k f Anything (forms.nest cs inside f)
nest [] inside i f c j s h = j s h
nest (x ∷ xs) inside i f c j s h = bind (i.0.of f c s h) (λ v s p g h. bind (form.walks v f c s h) (λ w s q g h.
    form.each_keeps (forms.turn x (forms.nest xs inside)) f c
    (λ v s p h. turn x (forms.nest xs inside) i.0.bind i.0.tests f c (nest xs inside i.1 f c j) v s p h) w s h))

-- what an element or an entry is added to, which may be changed, stays a list or a dict
abbrev pub AddKeeps : Keeper → Spot → (Oid → Doing) → Type 0
AddKeeps k t add = (at : Oid) → k.Usable at → KeepsAt k t Any (add at)

-- the block within another
abbrev pub inside : Spot → ℕ → Spot
inside t number = record { side = t.side; block = number }

abbrev inner_frame : Frame → ℕ → Oid → Frame
inner_frame f number scope = record f { block = number; scope = scope }

inner_fits : {k : Keeper} {t : Spot} (f : Frame) → FitIn k t f → (number : ℕ) (scope : Oid)
    → FitIn k (inside t number) (inner_frame f number scope)
inner_fits f c number scope =
    record { calls = c.calls; runs = c.runs; acts = c.acts; side = c.side; block = refl }

-- an object that was made, and may be changed
abbrev MadeUsable : Keeper → Frame → Saying Oid
MadeUsable k f heap at = k.Own heap f.side at × k.Usable at

-- the later clauses, in the scope of the comprehension
within : {k : Keeper} {t : Spot} (number : ℕ) (x : Clause) (xs : List Clause) (add : Oid → Doing)
    → ClausesKeep k t (inside t number) (x ∷ xs) → AddKeeps k (inside t number) add → (f : Frame) → FitIn k t f
    → (scope at : Oid) → k.Usable at → (w : Cursor) → Does k (inner_frame f number scope) Anything
    (each (forms.turn x (forms.nest xs (add at))) w (inner_frame f number scope))
within number x xs add i j f c scope at usable w s h =
    let d = inner_fits f c number scope in
    form.each_keeps (forms.turn x (forms.nest xs (add at))) (inner_frame f number scope) d
    (λ v s p h. turn x (forms.nest xs (add at)) i.0.bind i.0.tests (inner_frame f number scope) d
    (nest xs (add at) i.1 (inner_frame f number scope) d (j at usable (inner_frame f number scope) d)) v s p h) w s h

comprehension : {k : Keeper} {t : Spot} (number : ℕ) (cs : List Clause) (empty : Content) (add : Oid → Doing)
    → k.Block t.side (number, t.block) → ClausesKeep k t (inside t number) cs → IsMade empty
    → AddKeeps k (inside t number) add → Means k t (forms.comprehension number cs empty add)
comprehension {k} number [] empty add known i p j f c s h = same h (k.held_rock (heap_of s) f.side rock.Nil)
comprehension {k} {t} number (x ∷ xs) empty add known i p j f c s h = step s h
    (λ s g h. bind (i.0.of f c s h) (λ v s q g h. bind (form.walks v f c s h) (λ w s q g h.
    let slots : List (Option Value) = empty_slots (length ((layouts_of f).locals number)) in
    let these = k.scope_made f.run c.runs s.declarations.classes (heap_of s) f.side number f.block f.scope slots h.0
    c.acts h.1 (here f c) refl in
    bind (made {P = λ heap at. k.Scope heap f.side number at} f.side (object.scope (Some number) (Some f.scope) slots) s
    (these.0, these.1) these.2 h)
    (λ scope s inner g h. bind (made {P = MadeUsable k f} f.side empty s (plain_behind k f.side empty p s h.0) (
      k.own_next s.declarations.classes (heap_of s) f.side empty h.0,
      k.usable_next s.declarations.classes
          (heap_of s) h.0,
    )
    h)
    (λ at u own grown h.
    bind (led u h (leads (within number x xs add i j f c scope at own.1 w u
    (h.0, k.scope_later (heap_of s) (heap_of u) grown f.side number scope inner))))
    (λ flow v r more h. same h (k.held_later (heap_of u) (heap_of v) more f.side (value.Ref at)
    (k.held_own (heap_of u) f.side at own.0))))))))
  where
    here : (f : Frame) → FitIn k t f → k.Block f.side (number, f.block)
    here f c = subst (λ (side : Side). k.Block side (number, f.block)) (sym c.side)
        (subst (λ (block : ℕ). k.Block t.side (number, block)) (sym c.block) known)

adds_element : {k : Keeper} {t : Spot} (m : Meaning) → Means k t m → AddKeeps k t (forms.adds_element m)
adds_element {k} m i at usable f c s h = bind (i f c s h) (λ v s p g h. charge 1 s h
    (λ s g h. moved s (there_behind k f at (pushed v) s
    (mildly_behind k at (pushed v) (pushed_spares v) usable s h.0) h) tt))

adds_entry : {k : Keeper} {t : Spot} (m n : Meaning) → Means k t m → Means k t n → AddKeeps k t (forms.adds_entry m n)
adds_entry {k} m n i j at usable f c s h = bind (i f c s h) (λ x s p g h. bind (j f c s h) (λ v s q g h.
    bind (op s h (set_item (value.Ref at) x v (k.plain_usable (heap_of s) at usable) s.plain (start k s h.0)))
    (λ _ s r g h. same h tt)))

pub list_of : {k : Keeper} {t : Spot} (number : ℕ) (cs : List Clause) (m : Meaning)
    → k.Block t.side (number, t.block) → ClausesKeep k t (inside t number) cs → Means k (inside t number) m
    → Means k t (forms.list_of number cs m)
list_of number cs m known i j =
    comprehension number cs (object.list []) (forms.adds_element m) known i tt (adds_element m j)

pub dict_of : {k : Keeper} {t : Spot} (number : ℕ) (cs : List Clause) (m n : Meaning)
    → k.Block t.side (number, t.block) → ClausesKeep k t (inside t number) cs → Means k (inside t number) m
    → Means k (inside t number) n → Means k t (forms.dict_of number cs m n)
dict_of number cs m n known i j l =
    comprehension number cs (object.dict []) (forms.adds_entry m n) known i tt (adds_entry m n j l)
