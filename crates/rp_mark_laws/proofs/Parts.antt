-- Expressions do not see the trees of programs where their parts do not.
use Rattle.std.proofs.Common.{refl, ℕ, false, true, List, [], ◌∷◌, length, Option, Some, None}
use Rattle.std.specs.List.{AllByRecursion}
use Rattle.rp_base.specs.declared.operator.BinOp.{BinOp}
use Rattle.rp_base.specs.declared.operator.BinOp.TheVariants.{Pow}
use Rattle.rp_base.specs.declared.operator.UnOp.{UnOp}
use Rattle.rp_base.specs.declared.value.Name.{Name}
use Rattle.rp_base.specs.declared.value.Oid.{Oid}
use Rattle.rp_base.specs.declared.value.Value.{Value}
use Rattle.rp_base.specs.declared.value.Value.TheVariants as value
use Rattle.rp_items.specs.Items as items
use Rattle.rp_ops.specs.Outcome.{gives, on_found, on_value}
use Rattle.rp_store.specs.Object as object
use Rattle.rp_store.specs.Object.{Content}
use Rattle.rp_store.specs.Writers.{pushed}
use Rattle.rp_tree.specs.declared.parts.Test.{Test}
use Rattle.rp_meaning.specs.Access.{get_item, get_slice}
use Rattle.rp_meaning.specs.Binding.{none}
use Rattle.rp_meaning.specs.Calls.{Argument}
use Rattle.rp_meaning.specs.Expressions as forms
use Rattle.rp_meaning.specs.Expressions.{Clause, truth, empty_slots}
use Rattle.rp_meaning.specs.Frame.{Meaning, Doing, layouts_of}
use Rattle.rp_meaning.specs.Operators.{operate, operate_unary}
use Rattle.rp_meaning.specs.State.{charged, choose, done, makes, on_next, plainly_done, stepped, with_change}
use Rattle.rp_meaning.specs.Walks.{loop, next_element, on_truth, walk}
use Rattle.rp_mark_laws.specs.Blind.{Blind}
use Rattle.rp_mark_laws.proofs.Calling as calling
use Rattle.rp_mark_laws.proofs.Calling.{ArgumentsAreBlind}
use Rattle.rp_mark_laws.proofs.Values.{test-blind}

abbrev pub MeaningsAreBlind : List Meaning → Type 0
MeaningsAreBlind ms = AllByRecursion (λ (m : Meaning). Blind m) ms

pub constant : (v : Value) → Blind (forms.constant v)
constant v f s = refl

pub name : (n : Name) → Blind (forms.name n)
name n f s = refl

pub values : (ms : List Meaning) → MeaningsAreBlind ms → Blind (forms.values ms)
values [] i f s = refl
values (m ∷ ms) i f s = λ j. on_value (i.0 f s j) (λ v s. on_value (values ms i.1 f s j) (λ vs s. gives (v ∷ vs) s))

pub tuple : (ms : List Meaning) → MeaningsAreBlind ms → Blind (forms.tuple ms)
tuple ms i f s = λ j. stepped s (λ s. on_value (values ms i f s j) (λ vs s. forms.makes_own (object.tuple vs) f s))

pub list : (ms : List Meaning) → MeaningsAreBlind ms → Blind (forms.list ms)
list ms i f s = λ j. stepped s (λ s. on_value (values ms i f s j) (λ vs s. forms.makes_own (object.list vs) f s))

abbrev pub PairIsBlind : Meaning × Meaning → Type 0
PairIsBlind p = Blind p.0 × Blind p.1

pairs : (ps : List (Meaning × Meaning)) → AllByRecursion PairIsBlind ps → Blind (forms.pairs ps)
pairs [] i f s = refl
pairs (p ∷ ps) i f s = λ j.
    on_value (i.0.0 f s j) (λ k s. on_value (i.0.1 f s j) (λ v s. on_value (pairs ps i.1 f s j) (λ kvs s. gives ((k, v) ∷ kvs) s)))

pub dict : (ps : List (Meaning × Meaning)) → AllByRecursion PairIsBlind ps → Blind (forms.dict ps)
dict ps i f s = λ j. stepped s (λ s. on_value (pairs ps i f s j) (λ kvs s.
    on_found (forms.dict_with (object.dict []) kvs) s (λ c s. forms.makes_own c f s)))

pub cond : (x a b : Meaning) → Blind x → Blind a → Blind b → Blind (forms.cond x a b)
cond x a b i k l f s = λ j. stepped s (λ s. on_value (i f s j) (λ v s. on_truth v f s (λ s. k f s j) (λ s. l f s j)))

later_or : (ms : List Meaning) → MeaningsAreBlind ms → (v : Value) → Blind (forms.later_or ms v)
later_or [] i v f s = refl
later_or (m ∷ ms) i v f s = λ j.
    on_truth v f s (gives v) (λ s. stepped s (λ s. on_value (i.0 f s j) (λ w s. later_or ms i.1 w f s j)))

later_and : (ms : List Meaning) → MeaningsAreBlind ms → (v : Value) → Blind (forms.later_and ms v)
later_and [] i v f s = refl
later_and (m ∷ ms) i v f s = λ j.
    on_truth v f s (λ s. stepped s (λ s. on_value (i.0 f s j) (λ w s. later_and ms i.1 w f s j))) (gives v)

pub or : (ms : List Meaning) → MeaningsAreBlind ms → Blind (forms.or ms)
or [] i f s = refl
or (m ∷ ms) i f s = λ j. on_value (i.0 f s j) (λ v s. later_or ms i.1 v f s j)

pub and : (ms : List Meaning) → MeaningsAreBlind ms → Blind (forms.and ms)
and [] i f s = refl
and (m ∷ ms) i f s = λ j. on_value (i.0 f s j) (λ v s. later_and ms i.1 v f s j)

pub negated : (m : Meaning) → Blind m → Blind (forms.negated m)
negated m i f s = λ j. stepped s (λ s. on_value (i f s j) (λ v s. on_truth v f s (gives (truth false)) (gives (truth true))))

tests : (ts : List (Test × Meaning)) → AllByRecursion (λ (t : Test × Meaning). Blind t.1) ts → (a : Value) → Blind (forms.tests ts a)
tests [] i a f s = refl
tests (t ∷ ts) i a f s = λ j. stepped s (λ s. on_value (i.0 f s j) (λ b s. on_value (test-blind t.0 a b f s j) (λ r s.
    choose r (λ s. tests ts i.1 b f s j) (gives (truth false)) s)))

pub compare : (m : Meaning) (ts : List (Test × Meaning)) → Blind m → AllByRecursion (λ (t : Test × Meaning). Blind t.1) ts → Blind (forms.compare m ts)
compare m ts i k f s = λ j. on_value (i f s j) (λ a s. tests ts k a f s j)

operands : (os : List (BinOp × Meaning)) → AllByRecursion (λ (o : BinOp × Meaning). Blind o.1) os → (a : Value) → Blind (forms.operands os a)
operands [] i a f s = refl
operands (o ∷ os) i a f s = λ j.
    stepped s (λ s. on_value (i.0 f s j) (λ b s. on_value (operate o.0 a b f s) (λ v s. operands os i.1 v f s j)))

pub chain : (m : Meaning) (os : List (BinOp × Meaning)) → Blind m → AllByRecursion (λ (o : BinOp × Meaning). Blind o.1) os → Blind (forms.chain m os)
chain m os i k f s = λ j. on_value (i f s j) (λ a s. operands os k a f s j)

pub unary : (o : UnOp) (m : Meaning) → Blind m → Blind (forms.unary o m)
unary o m i f s = λ j. stepped s (λ s. on_value (i f s j) (λ a s. operate_unary o a f s))

pub power : (m n : Meaning) → Blind m → Blind n → Blind (forms.power m n)
power m n i k f s = λ j. stepped s (λ s. on_value (i f s j) (λ a s. on_value (k f s j) (λ b s. operate Pow a b f s)))

-- trailers

abbrev pub TrailerIsBlind : (Value → Meaning) → Type 0
TrailerIsBlind t = (v : Value) → Blind (t v)

trailers : (ts : List (Value → Meaning)) → AllByRecursion TrailerIsBlind ts → (v : Value) → Blind (forms.trailers ts v)
trailers [] i v f s = refl
trailers (t ∷ ts) i v f s = λ j. on_value (stepped s (λ s. i.0 v f s j)) (λ w s. trailers ts i.1 w f s j)

pub primary : (m : Meaning) (ts : List (Value → Meaning)) → Blind m → AllByRecursion TrailerIsBlind ts → Blind (forms.primary m ts)
primary m ts i k f s = λ j. on_value (i f s j) (λ v s. trailers ts k v f s j)

pub attribute : (n : Name) → TrailerIsBlind (forms.attribute n)
attribute n o f s = refl

pub item : (m : Meaning) → Blind m → TrailerIsBlind (forms.item m)
item m i o f s = λ j. on_value (i f s j) (λ x s. get_item o x f s)

abbrev pub OptionIsBlind : Option Meaning → Type 0
OptionIsBlind None = Unit {0}
OptionIsBlind (Some m) = Blind m

part : (m : Option Meaning) → OptionIsBlind m → Blind (forms.part m)
part None i f s = refl
part (Some m) i f s = i f s

pub slice : (x y z : Option Meaning) → OptionIsBlind x → OptionIsBlind y → OptionIsBlind z → TrailerIsBlind (forms.slice x y z)
slice x y z i k l o f s = λ j.
    on_value (part x i f s j) (λ a s. on_value (part y k f s j) (λ b s. on_value (part z l f s j) (λ c s. get_slice o a b c f s)))

pub call : (as' : List Argument) → ArgumentsAreBlind as' → TrailerIsBlind (forms.call as')
call as' i v f s = λ j. on_value (calling.arguments as' i none f s j) (λ a s. calling.call v a f s j)

-- functions and comprehensions

pub makes_function : (n : Option Name) (block : ℕ) (ms : List Meaning) → MeaningsAreBlind ms → Blind (forms.makes_function n block ms)
makes_function n block ms i f s = λ j.
    on_value (values ms i f s j) (λ vs s. makes f.side (object.function n f.side block f.scope vs) s)

pub lambda : (block : ℕ) (ms : List Meaning) → MeaningsAreBlind ms → Blind (forms.lambda block ms)
lambda block ms i f s = λ j. stepped s (λ s. on_value (makes_function None block ms i f s j) (λ at s. gives (value.Ref at) s))

pub record ClauseIsBlind (c : Clause) : Type 0 where
  pub of : Blind c.of
  pub bind : (v : Value) → Blind (c.bind v)
  pub tests : MeaningsAreBlind c.tests

where_all : (ms : List Meaning) (inside : Doing) → MeaningsAreBlind ms → Blind inside → Blind (forms.where_all ms inside)
where_all [] inside i k f s = k f s
where_all (m ∷ ms) inside i k f s = λ j.
    on_value (i.0 f s j) (λ v s. on_truth v f s (λ s. where_all ms inside i.1 k f s j) done)

turn : (c : Clause) (inside : Doing) → ClauseIsBlind c → Blind inside → (v : Value) → Blind (forms.turn c inside v)
turn c inside i k v f s = λ j. on_next (i.bind v f s j) (λ s. where_all c.tests inside i.tests k f s j)

nest : (cs : List Clause) (inside : Doing) → AllByRecursion ClauseIsBlind cs → Blind inside → Blind (forms.nest cs inside)
nest [] inside i k f s = k f s
nest (c ∷ cs) inside i k f s = λ j. on_value (i.0.of f s j) (λ v s. on_value (walk v f s) (λ w s.
    loop (next_element f) (λ v s. turn c (forms.nest cs inside) i.0 (nest cs inside i.1 k) v f s j) w s))

comprehension : (block : ℕ) (cs : List Clause) (empty : Content) (add : Oid → Doing) → AllByRecursion ClauseIsBlind cs → ((at : Oid) → Blind (add at))
    → Blind (forms.comprehension block cs empty add)
comprehension block [] empty add i k f s = refl
comprehension block (c ∷ cs) empty add i k f s = λ j. stepped s (λ s. on_value (i.0.of f s j) (λ v s. on_value (walk v f s) (λ w s.
    on_value (forms.new_scope block f (empty_slots (length ((layouts_of f).locals block))) s) (λ scope s.
    on_value (makes f.side empty s) (λ at s.
    on_value (loop (next_element (record f { block = block; scope = scope }))
    (λ v s. turn c (forms.nest cs (add at)) i.0 (nest cs (add at) i.1 (k at)) v (record f { block = block; scope = scope }) s j) w s)
    (λ flow s. gives (value.Ref at) s))))))

adds_element : (m : Meaning) → Blind m → (at : Oid) → Blind (forms.adds_element m at)
adds_element m i at f s = λ j. on_value (i f s j) (λ v s. charged 1 s (λ s. done (with_change at (pushed v) s)))

adds_entry : (m n : Meaning) → Blind m → Blind n → (at : Oid) → Blind (forms.adds_entry m n at)
adds_entry m n i l at f s = λ j.
    on_value (i f s j) (λ k s. on_value (l f s j) (λ v s. plainly_done (items.set_item (value.Ref at) k v) s))

pub list_of : (block : ℕ) (cs : List Clause) (m : Meaning) → AllByRecursion ClauseIsBlind cs → Blind m → Blind (forms.list_of block cs m)
list_of block cs m i k = comprehension block cs (object.list []) (forms.adds_element m) i (adds_element m k)

pub dict_of : (block : ℕ) (cs : List Clause) (m n : Meaning) → AllByRecursion ClauseIsBlind cs → Blind m → Blind n → Blind (forms.dict_of block cs m n)
dict_of block cs m n i k l = comprehension block cs (object.dict []) (forms.adds_entry m n) i (adds_entry m n k l)
