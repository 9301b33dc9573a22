-- Expressions come to the same with the monitor and without it, where their parts do.
use Rattle.std.proofs.Common.{refl, ℕ, List, [], ◌∷◌, length, Option, Some, None}
use Rattle.rp_base.specs.declared.operator.BinOp.{BinOp}
use Rattle.rp_base.specs.declared.operator.BinOp.TheVariants.{Pow}
use Rattle.rp_base.specs.declared.operator.UnOp.{UnOp}
use Rattle.rp_base.specs.declared.value.Name.{Name}
use Rattle.rp_base.specs.declared.value.Oid.{Oid}
use Rattle.rp_base.specs.declared.value.Value.{Value}
use Rattle.rp_base.specs.declared.value.Value.TheVariants as value
use Rattle.rp_items.specs.Items as items
use Rattle.rp_ops.specs.Outcome as plain
use Rattle.rp_store.specs.Object as object
use Rattle.rp_store.specs.Object.{Content}
use Rattle.rp_tree.specs.declared.parts.Test.{Test}
use Rattle.rp_meaning.specs.Binding.{none}
use Rattle.rp_meaning.specs.Calls.{Argument}
use Rattle.rp_meaning.specs.Expressions as forms
use Rattle.rp_meaning.specs.Expressions.{Clause, empty_slots}
use Rattle.rp_meaning.specs.Frame.{Meaning, Doing, layouts_of}
use Rattle.rp_monitor_laws.specs.Unseen.{Unseen}
use Rattle.rp_monitor_laws.proofs.Going.{Each, same, bind, op, found, chosen, step, charge, andthen}
use Rattle.rp_monitor_laws.proofs.Forms as form
use Rattle.rp_monitor_laws.proofs.Calling.{ArgumentsAreUnseen, arguments_follow, call_follows}

pub constant : (v : Value) → Unseen (forms.constant v)
constant v k f d c s = step _ s (λ s. same refl refl)

pub name : (n : Name) → Unseen (forms.name n)
name n k f d c s = step _ s (λ s. form.read n k f d c s)

pub values : (ms : List Meaning) → Each (λ m. Unseen m) ms → Unseen (forms.values ms)
values [] i k f d c s = same refl refl
values (m ∷ ms) i k f d c s = bind _ (i.0 k f d c s) (λ v s. bind _ (values ms i.1 k f d c s) (λ vs s. same refl refl))

makes_own : (content : Content) → Unseen (forms.makes_own content)
makes_own content k f d c s = bind _ (op (plain.makes f.side content s.plain) s) (λ at s. same refl refl)

pub tuple : (ms : List Meaning) → Each (λ m. Unseen m) ms → Unseen (forms.tuple ms)
tuple ms i k f d c s = step _ s (λ s. bind _ (values ms i k f d c s) (λ vs s. makes_own (object.tuple vs) k f d c s))

pub list : (ms : List Meaning) → Each (λ m. Unseen m) ms → Unseen (forms.list ms)
list ms i k f d c s = step _ s (λ s. bind _ (values ms i k f d c s) (λ vs s. makes_own (object.list vs) k f d c s))

abbrev pub PairIsUnseen : Meaning × Meaning → Type 0
PairIsUnseen p = Unseen p.0 × Unseen p.1

pairs : (ps : List (Meaning × Meaning)) → Each PairIsUnseen ps → Unseen (forms.pairs ps)
pairs [] i k f d c s = same refl refl
pairs (p ∷ ps) i k f d c s = bind _ (i.0.0 k f d c s) (λ x s. bind _ (i.0.1 k f d c s) (λ v s. bind _ (pairs ps i.1 k f d c s) (λ kvs s. same refl refl)))

pub dict : (ps : List (Meaning × Meaning)) → Each PairIsUnseen ps → Unseen (forms.dict ps)
dict ps i k f d c s = step _ s (λ s. bind _ (pairs ps i k f d c s) (λ kvs s.
    found _ (forms.dict_with (object.dict []) kvs) s (λ content s. makes_own content k f d c s)))

pub cond : (x a b : Meaning) → Unseen x → Unseen a → Unseen b → Unseen (forms.cond x a b)
cond x a b i j l k f d c s =
    step _ s (λ s. bind _ (i k f d c s) (λ v s. form.truth _ _ v f d s (λ s. j k f d c s) (λ s. l k f d c s)))

later_or : (ms : List Meaning) → Each (λ m. Unseen m) ms → (v : Value) → Unseen (forms.later_or ms v)
later_or [] i v k f d c s = same refl refl
later_or (m ∷ ms) i v k f d c s = form.truth _ _ v f d s (λ s. same refl refl)
    (λ s. step _ s (λ s. bind _ (i.0 k f d c s) (λ w s. later_or ms i.1 w k f d c s)))

later_and : (ms : List Meaning) → Each (λ m. Unseen m) ms → (v : Value) → Unseen (forms.later_and ms v)
later_and [] i v k f d c s = same refl refl
later_and (m ∷ ms) i v k f d c s = form.truth _ _ v f d s
    (λ s. step _ s (λ s. bind _ (i.0 k f d c s) (λ w s. later_and ms i.1 w k f d c s))) (λ s. same refl refl)

pub or : (ms : List Meaning) → Each (λ m. Unseen m) ms → Unseen (forms.or ms)
or [] i k f d c s = same refl refl
or (m ∷ ms) i k f d c s = bind _ (i.0 k f d c s) (λ v s. later_or ms i.1 v k f d c s)

pub and : (ms : List Meaning) → Each (λ m. Unseen m) ms → Unseen (forms.and ms)
and [] i k f d c s = same refl refl
and (m ∷ ms) i k f d c s = bind _ (i.0 k f d c s) (λ v s. later_and ms i.1 v k f d c s)

pub negated : (m : Meaning) → Unseen m → Unseen (forms.negated m)
negated m i k f d c s = step _ s (λ s. bind _ (i k f d c s) (λ v s. form.truth _ _ v f d s (λ s. same refl refl) (λ s. same refl refl)))

tests : (ts : List (Test × Meaning)) → Each (λ t. Unseen t.1) ts → (a : Value) → Unseen (forms.tests ts a)
tests [] i a k f d c s = same refl refl
tests (t ∷ ts) i a k f d c s = step _ s (λ s. bind _ (i.0 k f d c s) (λ b s. bind _ (form.test_follows t.0 a b k f d c s) (λ r s.
    chosen r _ _ _ _ _ _ (tests ts i.1 b k f d c s) (same refl refl))))

pub compare : (m : Meaning) (ts : List (Test × Meaning)) → Unseen m → Each (λ t. Unseen t.1) ts → Unseen (forms.compare m ts)
compare m ts i j k f d c s = bind _ (i k f d c s) (λ a s. tests ts j a k f d c s)

operands : (os : List (BinOp × Meaning)) → Each (λ o. Unseen o.1) os → (a : Value) → Unseen (forms.operands os a)
operands [] i a k f d c s = same refl refl
operands (o ∷ os) i a k f d c s = step _ s (λ s. bind _ (i.0 k f d c s) (λ b s. bind _ (form.operated o.0 a b k f d c s) (λ v s.
    operands os i.1 v k f d c s)))

pub chain : (m : Meaning) (os : List (BinOp × Meaning)) → Unseen m → Each (λ o. Unseen o.1) os → Unseen (forms.chain m os)
chain m os i j k f d c s = bind _ (i k f d c s) (λ a s. operands os j a k f d c s)

pub unary : (o : UnOp) (m : Meaning) → Unseen m → Unseen (forms.unary o m)
unary o m i k f d c s = step _ s (λ s. bind _ (i k f d c s) (λ a s. form.operated_once o a k f d c s))

pub power : (m n : Meaning) → Unseen m → Unseen n → Unseen (forms.power m n)
power m n i j k f d c s =
    step _ s (λ s. bind _ (i k f d c s) (λ a s. bind _ (j k f d c s) (λ b s. form.operated Pow a b k f d c s)))

-- trailers

abbrev pub TrailerIsUnseen : (Value → Meaning) → Type 0
TrailerIsUnseen t = (v : Value) → Unseen (t v)

trailers : (ts : List (Value → Meaning)) → Each TrailerIsUnseen ts → (v : Value) → Unseen (forms.trailers ts v)
trailers [] i v k f d c s = same refl refl
trailers (t ∷ ts) i v k f d c s = bind _ (step _ s (λ s. i.0 v k f d c s)) (λ w s. trailers ts i.1 w k f d c s)

pub primary : (m : Meaning) (ts : List (Value → Meaning)) → Unseen m → Each TrailerIsUnseen ts → Unseen (forms.primary m ts)
primary m ts i j k f d c s = bind _ (i k f d c s) (λ v s. trailers ts j v k f d c s)

pub attribute : (n : Name) → TrailerIsUnseen (forms.attribute n)
attribute n o k f d c s = form.attribute_got o n k f d c s

pub item : (m : Meaning) → Unseen m → TrailerIsUnseen (forms.item m)
item m i o k f d c s = bind _ (i k f d c s) (λ x s. form.item_got o x k f d c s)

abbrev pub OptionIsUnseen : Option Meaning → Type 0
OptionIsUnseen None = Unit {0}
OptionIsUnseen (Some m) = Unseen m

part : (m : Option Meaning) → OptionIsUnseen m → Unseen (forms.part m)
part None i k f d c s = same refl refl
part (Some m) i k f d c s = i k f d c s

pub slice : (x y z : Option Meaning) → OptionIsUnseen x → OptionIsUnseen y → OptionIsUnseen z → TrailerIsUnseen (forms.slice x y z)
slice x y z i j l o k f d c s = bind _ (part x i k f d c s) (λ a s. bind _ (part y j k f d c s) (λ b s. bind _ (part z l k f d c s) (λ e s.
    form.slice_got o a b e k f d c s)))

pub call : (as' : List Argument) → ArgumentsAreUnseen as' → TrailerIsUnseen (forms.call as')
call as' i v k f d c s = bind _ (arguments_follow as' i none k f d c s) (λ a s. call_follows v a k f d c s)

-- functions and comprehensions

pub makes_function : (n : Option Name) (block : ℕ) (ms : List Meaning) → Each (λ m. Unseen m) ms → Unseen (forms.makes_function n block ms)
makes_function n block ms i k f d c s =
    bind _ (values ms i k f d c s) (λ vs s. op (plain.makes f.side (object.function n f.side block f.scope vs) s.plain) s)

pub lambda : (block : ℕ) (ms : List Meaning) → Each (λ m. Unseen m) ms → Unseen (forms.lambda block ms)
lambda block ms i k f d c s = step _ s (λ s. bind _ (makes_function None block ms i k f d c s) (λ at s. same refl refl))

pub record ClauseIsUnseen (c : Clause) : Type 0 where
  pub of : Unseen c.of
  pub bind : (v : Value) → Unseen (c.bind v)
  pub tests : Each (λ m. Unseen m) c.tests

where_all : (ms : List Meaning) (inside : Doing) → Each (λ m. Unseen m) ms → Unseen inside → Unseen (forms.where_all ms inside)
where_all [] inside i j k f d c s = j k f d c s
where_all (m ∷ ms) inside i j k f d c s =
    bind _ (i.0 k f d c s) (λ v s. form.truth _ _ v f d s (λ s. where_all ms inside i.1 j k f d c s) (λ s. same refl refl))

turn : (x : Clause) (inside : Doing) → ClauseIsUnseen x → Unseen inside → (v : Value) → Unseen (forms.turn x inside v)
turn x inside i j v k f d c s = andthen _ (i.bind v k f d c s) (λ s. where_all x.tests inside i.tests j k f d c s)

nest : (cs : List Clause) (inside : Doing) → Each ClauseIsUnseen cs → Unseen inside → Unseen (forms.nest cs inside)
nest [] inside i j k f d c s = j k f d c s
nest (x ∷ xs) inside i j k f d c s = bind _ (i.0.of k f d c s) (λ v s. bind _ (form.walks v k f d c s) (λ w s.
    form.each_follows (forms.turn x (forms.nest xs inside)) f d c (λ v s. turn x (forms.nest xs inside) i.0 (nest xs inside i.1 j) v k f d c s) w s))

comprehension : (block : ℕ) (cs : List Clause) (empty : Content) (add : Oid → Doing) → Each ClauseIsUnseen cs → ((at : Oid) → Unseen (add at))
    → Unseen (forms.comprehension block cs empty add)
comprehension block [] empty add i j k f d c s = same refl refl
comprehension block (x ∷ xs) empty add i j k f d c s = step _ s (λ s. bind _ (i.0.of k f d c s) (λ v s. bind _ (form.walks v k f d c s) (λ w s.
    bind _ (op (plain.makes f.side (object.scope (Some block) (Some f.scope) (empty_slots (length ((layouts_of f).locals block)))) s.plain) s) (λ scope s.
    bind _ (op (plain.makes f.side empty s.plain) s) (λ at s.
    bind _ (form.each_follows (forms.turn x (forms.nest xs (add at))) (record f { block = block; scope = scope }) d c
    (λ v s. turn x (forms.nest xs (add at)) i.0 (nest xs (add at) i.1 (j at)) v k (record f { block = block; scope = scope }) d c s) w s)
    (λ flow s. same refl refl))))))

adds_element : (m : Meaning) → Unseen m → (at : Oid) → Unseen (forms.adds_element m at)
adds_element m i at k f d c s = bind _ (i k f d c s) (λ v s. charge _ 1 s (λ s. same refl refl))

adds_entry : (m n : Meaning) → Unseen m → Unseen n → (at : Oid) → Unseen (forms.adds_entry m n at)
adds_entry m n i j at k f d c s = bind _ (i k f d c s) (λ x s. bind _ (j k f d c s) (λ v s.
    bind _ (op (items.set_item (value.Ref at) x v s.plain) s) (λ _ s. same refl refl)))

pub list_of : (block : ℕ) (cs : List Clause) (m : Meaning) → Each ClauseIsUnseen cs → Unseen m → Unseen (forms.list_of block cs m)
list_of block cs m i j = comprehension block cs (object.list []) (forms.adds_element m) i (adds_element m j)

pub dict_of : (block : ℕ) (cs : List Clause) (m n : Meaning) → Each ClauseIsUnseen cs → Unseen m → Unseen n → Unseen (forms.dict_of block cs m n)
dict_of block cs m n i j l = comprehension block cs (object.dict []) (forms.adds_entry m n) i (adds_entry m n j l)
