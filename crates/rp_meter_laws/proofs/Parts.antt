-- Expressions leave an object that is where their parts do.
use Rattle.std.proofs.Common.{ℕ, false, List, [], ◌∷◌, length, Option, Some, None}
use Rattle.rp_base.specs.declared.operator.BinOp.{BinOp}
use Rattle.rp_base.specs.declared.operator.BinOp.TheVariants.{Pow}
use Rattle.rp_base.specs.declared.operator.UnOp.{UnOp}
use Rattle.rp_base.specs.declared.value.Name.{Name}
use Rattle.rp_base.specs.declared.value.Oid.{Oid}
use Rattle.rp_base.specs.declared.value.Value.{Value}
use Rattle.rp_base.specs.declared.value.Value.TheVariants as value
use Rattle.rp_ops.specs.Outcome.{gives}
use Rattle.rp_store.specs.Object as object
use Rattle.rp_store.specs.Object.{Content}
use Rattle.rp_tree.specs.declared.parts.Test.{Test}
use Rattle.rp_meaning.specs.Binding.{none}
use Rattle.rp_meaning.specs.Calls.{Argument}
use Rattle.rp_meaning.specs.Expressions as forms
use Rattle.rp_meaning.specs.Expressions.{Clause, truth, empty_slots}
use Rattle.rp_meaning.specs.Frame.{Meaning, Doing, layouts_of}
use Rattle.rp_meter_laws.proofs.AtMost.{Keeping}
use Rattle.rp_meter_laws.proofs.Going.{Each, same, bind, op, found, chosen, step, charge, andthen}
use Rattle.rp_meter_laws.proofs.Objects.{set_item}
use Rattle.rp_meter_laws.proofs.Plainly.{makes}
use Rattle.rp_meter_laws.proofs.Forms as form
use Rattle.rp_meter_laws.proofs.Calling.{ArgumentsKeep, arguments_keep, call_keeps}

pub constant : (v : Value) → Keeping (forms.constant v)
constant v k f c s h = step s h (λ s h. same h)

pub name : (n : Name) → Keeping (forms.name n)
name n k f c s h = step s h (λ s h. form.read n k f c s h)

pub values : (ms : List Meaning) → Each (λ m. Keeping m) ms → Keeping (forms.values ms)
values [] i k f c s h = same h
values (m ∷ ms) i k f c s h = bind (i.0 k f c s h) (λ v s h. bind (values ms i.1 k f c s h) (λ vs s h. same h))

makes_own : (content : Content) → Keeping (forms.makes_own content)
makes_own content k f c s h = bind (op s (makes f.side content s.plain h)) (λ at s h. same h)

pub tuple : (ms : List Meaning) → Each (λ m. Keeping m) ms → Keeping (forms.tuple ms)
tuple ms i k f c s h = step s h (λ s h. bind (values ms i k f c s h) (λ vs s h. makes_own (object.tuple vs) k f c s h))

pub list : (ms : List Meaning) → Each (λ m. Keeping m) ms → Keeping (forms.list ms)
list ms i k f c s h = step s h (λ s h. bind (values ms i k f c s h) (λ vs s h. makes_own (object.list vs) k f c s h))

abbrev pub PairKeeps : Meaning × Meaning → Type 0
PairKeeps p = Keeping p.0 × Keeping p.1

pairs : (ps : List (Meaning × Meaning)) → Each PairKeeps ps → Keeping (forms.pairs ps)
pairs [] i k f c s h = same h
pairs (p ∷ ps) i k f c s h = bind (i.0.0 k f c s h)
    (λ x s h. bind (i.0.1 k f c s h) (λ v s h. bind (pairs ps i.1 k f c s h) (λ kvs s h. same h)))

pub dict : (ps : List (Meaning × Meaning)) → Each PairKeeps ps → Keeping (forms.dict ps)
dict ps i k f c s h = step s h (λ s h. bind (pairs ps i k f c s h) (λ kvs s h.
    found (forms.dict_with (object.dict []) kvs) s h (λ content s h. makes_own content k f c s h)))

pub cond : (x a b : Meaning) → Keeping x → Keeping a → Keeping b → Keeping (forms.cond x a b)
cond x a b i j l k f c s h =
    step s h (λ s h. bind (i k f c s h) (λ v s h. form.truth v f s h (λ s h. j k f c s h) (λ s h. l k f c s h)))

later_or : (ms : List Meaning) → Each (λ m. Keeping m) ms → (v : Value) → Keeping (forms.later_or ms v)
later_or [] i v k f c s h = same h
later_or (m ∷ ms) i v k f c s h = form.truth v f s h (λ s h. same h)
    (λ s h. step s h (λ s h. bind (i.0 k f c s h) (λ w s h. later_or ms i.1 w k f c s h)))

later_and : (ms : List Meaning) → Each (λ m. Keeping m) ms → (v : Value) → Keeping (forms.later_and ms v)
later_and [] i v k f c s h = same h
later_and (m ∷ ms) i v k f c s h = form.truth v f s h
    (λ s h. step s h (λ s h. bind (i.0 k f c s h) (λ w s h. later_and ms i.1 w k f c s h))) (λ s h. same h)

pub or : (ms : List Meaning) → Each (λ m. Keeping m) ms → Keeping (forms.or ms)
or [] i k f c s h = same h
or (m ∷ ms) i k f c s h = bind (i.0 k f c s h) (λ v s h. later_or ms i.1 v k f c s h)

pub and : (ms : List Meaning) → Each (λ m. Keeping m) ms → Keeping (forms.and ms)
and [] i k f c s h = same h
and (m ∷ ms) i k f c s h = bind (i.0 k f c s h) (λ v s h. later_and ms i.1 v k f c s h)

pub negated : (m : Meaning) → Keeping m → Keeping (forms.negated m)
negated m i k f c s h = step s h (λ s h. bind (i k f c s h)
    (λ v s h. form.truth v f s h (λ s h. same h) (λ s h. same h)))

tests : (ts : List (Test × Meaning)) → Each (λ t. Keeping t.1) ts → (a : Value) → Keeping (forms.tests ts a)
tests [] i a k f c s h = same h
tests (t ∷ ts) i a k f c s h = step s h (λ s h. bind (i.0 k f c s h)
    (λ b s h. bind (form.test_keeps t.0 a b k f c s h) (λ r s h.
    chosen r (forms.tests ts b f) (gives (truth false)) (tests ts i.1 b k f c s h) (same h))))

pub compare : (m : Meaning) (ts : List (Test × Meaning)) → Keeping m → Each (λ t. Keeping t.1) ts → Keeping
    (forms.compare m ts)
compare m ts i j k f c s h = bind (i k f c s h) (λ a s h. tests ts j a k f c s h)

operands : (os : List (BinOp × Meaning)) → Each (λ o. Keeping o.1) os → (a : Value) → Keeping (forms.operands os a)
operands [] i a k f c s h = same h
operands (o ∷ os) i a k f c s h = step s h
    (λ s h. bind (i.0 k f c s h) (λ b s h. bind (form.operated o.0 a b k f c s h) (λ v s h.
    operands os i.1 v k f c s h)))

pub chain : (m : Meaning) (os : List (BinOp × Meaning)) → Keeping m → Each (λ o. Keeping o.1) os → Keeping
    (forms.chain m os)
chain m os i j k f c s h = bind (i k f c s h) (λ a s h. operands os j a k f c s h)

pub unary : (o : UnOp) (m : Meaning) → Keeping m → Keeping (forms.unary o m)
unary o m i k f c s h = step s h (λ s h. bind (i k f c s h) (λ a s h. form.operated_once o a k f c s h))

pub power : (m n : Meaning) → Keeping m → Keeping n → Keeping (forms.power m n)
power m n i j k f c s h =
    step s h (λ s h. bind (i k f c s h) (λ a s h. bind (j k f c s h) (λ b s h. form.operated Pow a b k f c s h)))

-- trailers

abbrev pub TrailerKeeps : (Value → Meaning) → Type 0
TrailerKeeps t = (v : Value) → Keeping (t v)

trailers : (ts : List (Value → Meaning)) → Each TrailerKeeps ts → (v : Value) → Keeping (forms.trailers ts v)
trailers [] i v k f c s h = same h
trailers (t ∷ ts) i v k f c s h = bind (step s h (λ s h. i.0 v k f c s h)) (λ w s h. trailers ts i.1 w k f c s h)

pub primary : (m : Meaning) (ts : List (Value → Meaning)) → Keeping m → Each TrailerKeeps ts → Keeping
    (forms.primary m ts)
primary m ts i j k f c s h = bind (i k f c s h) (λ v s h. trailers ts j v k f c s h)

pub attribute : (n : Name) → TrailerKeeps (forms.attribute n)
attribute n o k f c s h = form.attribute_got o n k f c s h

pub item : (m : Meaning) → Keeping m → TrailerKeeps (forms.item m)
item m i o k f c s h = bind (i k f c s h) (λ x s h. form.item_got o x k f c s h)

abbrev pub OptionKeeps : Option Meaning → Type 0
OptionKeeps None = Unit {0}
OptionKeeps (Some m) = Keeping m

part : (m : Option Meaning) → OptionKeeps m → Keeping (forms.part m)
part None i k f c s h = same h
part (Some m) i k f c s h = i k f c s h

pub slice : (x y z : Option Meaning) → OptionKeeps x → OptionKeeps y → OptionKeeps z → TrailerKeeps (forms.slice x y z)
slice x y z i j l o k f c s h = bind (part x i k f c s h)
    (λ a s h. bind (part y j k f c s h) (λ b s h. bind (part z l k f c s h) (λ d s h.
    form.slice_got o a b d k f c s h)))

pub call : (as' : List Argument) → ArgumentsKeep as' → TrailerKeeps (forms.call as')
call as' i v k f c s h = bind (arguments_keep as' i none k f c s h) (λ a s h. call_keeps v a k f c s h)

-- functions and comprehensions

pub makes_function : (n : Option Name) (block : ℕ) (ms : List Meaning) → Each (λ m. Keeping m) ms → Keeping
    (forms.makes_function n block ms)
makes_function n block ms i k f c s h =
    bind (values ms i k f c s h) (λ vs s h. op s (makes f.side (object.function n f.side block f.scope vs) s.plain h))

pub lambda : (block : ℕ) (ms : List Meaning) → Each (λ m. Keeping m) ms → Keeping (forms.lambda block ms)
lambda block ms i k f c s h = step s h (λ s h. bind (makes_function None block ms i k f c s h) (λ at s h. same h))

pub record ClauseKeeps (c : Clause) : Type 0 where
  pub of : Keeping c.of
  pub bind : (v : Value) → Keeping (c.bind v)
  pub tests : Each (λ m. Keeping m) c.tests

where_all : (ms : List Meaning) (inside : Doing) → Each (λ m. Keeping m) ms → Keeping inside → Keeping
    (forms.where_all ms inside)
where_all [] inside i j k f c s h = j k f c s h
where_all (m ∷ ms) inside i j k f c s h =
    bind (i.0 k f c s h) (λ v s h. form.truth v f s h (λ s h. where_all ms inside i.1 j k f c s h) (λ s h. same h))

turn : (x : Clause) (inside : Doing) → ClauseKeeps x → Keeping inside → (v : Value) → Keeping (forms.turn x inside v)
turn x inside i j v k f c s h = andthen (i.bind v k f c s h) (λ s h. where_all x.tests inside i.tests j k f c s h)

nest : (cs : List Clause) (inside : Doing) → Each ClauseKeeps cs → Keeping inside → Keeping (forms.nest cs inside)
nest [] inside i j k f c s h = j k f c s h
nest (x ∷ xs) inside i j k f c s h = bind (i.0.of k f c s h) (λ v s h. bind (form.walks v k f c s h) (λ w s h.
    form.each_keeps (forms.turn x (forms.nest xs inside)) f c
    (λ v s h. turn x (forms.nest xs inside) i.0 (nest xs inside i.1 j) v k f c s h) w s h))

comprehension : (block : ℕ) (cs : List Clause) (empty : Content) (add : Oid → Doing) → Each ClauseKeeps cs
    → ((at : Oid) → Keeping (add at))
    → Keeping (forms.comprehension block cs empty add)
comprehension block [] empty add i j k f c s h = same h
comprehension block (x ∷ xs) empty add i j k f c s h = step s h
    (λ s h. bind (i.0.of k f c s h) (λ v s h. bind (form.walks v k f c s h) (λ w s h.
    bind (op s (makes f.side (object.scope (Some block) (Some f.scope)
    (empty_slots (length ((layouts_of f).locals block)))) s.plain h)) (λ scope s h.
    bind (op s (makes f.side empty s.plain h)) (λ at s h.
    bind (form.each_keeps (forms.turn x (forms.nest xs (add at))) (record f { block = block; scope = scope }) c
    (λ v s h. turn x (forms.nest xs (add at)) i.0 (nest xs (add at) i.1 (j at)) v k
    (record f { block = block; scope = scope }) c s h) w s h)
    (λ flow s h. same h))))))

adds_element : (m : Meaning) → Keeping m → (at : Oid) → Keeping (forms.adds_element m at)
adds_element m i at k f c s h =
    bind (i k f c s h) (λ v s h. charge 1 s h (λ s h. same h))

adds_entry : (m n : Meaning) → Keeping m → Keeping n → (at : Oid) → Keeping (forms.adds_entry m n at)
adds_entry m n i j at k f c s h = bind (i k f c s h) (λ x s h. bind (j k f c s h) (λ v s h.
    bind (op s (set_item (value.Ref at) x v s.plain h)) (λ _ s h. same h)))

pub list_of : (block : ℕ) (cs : List Clause) (m : Meaning) → Each ClauseKeeps cs → Keeping m → Keeping
    (forms.list_of block cs m)
list_of block cs m i j = comprehension block cs (object.list []) (forms.adds_element m) i (adds_element m j)

pub dict_of : (block : ℕ) (cs : List Clause) (m n : Meaning) → Each ClauseKeeps cs → Keeping m → Keeping n → Keeping
    (forms.dict_of block cs m n)
dict_of block cs m n i j l = comprehension block cs (object.dict []) (forms.adds_entry m n) i (adds_entry m n j l)
