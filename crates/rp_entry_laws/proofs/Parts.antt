-- Expressions add such entries alone where their parts do.
use Rattle.std.proofs.Common.{ℕ, false, List, [], ◌∷◌, length, Option, Some, None}
use Rattle.rp_base.specs.declared.operator.BinOp.{BinOp}
use Rattle.rp_base.specs.declared.operator.BinOp.TheVariants.{Pow}
use Rattle.rp_base.specs.declared.operator.UnOp.{UnOp}
use Rattle.rp_base.specs.declared.value.Name.{Name}
use Rattle.rp_base.specs.declared.value.Oid.{Oid}
use Rattle.rp_base.specs.declared.value.Value.{Value}
use Rattle.rp_base.specs.declared.value.Value.TheVariants as value
use Rattle.rp_items.specs.Items as items
use Rattle.rp_ops.specs.Outcome as plain
use Rattle.rp_ops.specs.Outcome.{gives}
use Rattle.rp_store.specs.Object as object
use Rattle.rp_store.specs.Object.{Content}
use Rattle.rp_tree.specs.declared.parts.Test.{Test}
use Rattle.rp_meaning.specs.Binding.{none}
use Rattle.rp_meaning.specs.Calls.{Argument}
use Rattle.rp_meaning.specs.Expressions as forms
use Rattle.rp_meaning.specs.Expressions.{Clause, truth, empty_slots}
use Rattle.rp_meaning.specs.Frame.{Meaning, Doing, layouts_of}
use Rattle.rp_entry_laws.specs.Entries.{Adding}
use Rattle.rp_entry_laws.proofs.Going.{Each, same, bind, op, found, chosen, step, charge, andthen}
use Rattle.rp_entry_laws.proofs.Forms as form
use Rattle.rp_entry_laws.proofs.Calling.{ArgumentsAdd, arguments_add, call_adds}

pub constant : (v : Value) → Adding (forms.constant v)
constant v k f c s h = step s h (λ s h. same h)

pub name : (n : Name) → Adding (forms.name n)
name n k f c s h = step s h (λ s h. form.read n k f c s h)

pub values : (ms : List Meaning) → Each (λ m. Adding m) ms → Adding (forms.values ms)
values [] i k f c s h = same h
values (m ∷ ms) i k f c s h = bind (i.0 k f c s h) (λ v s h. bind (values ms i.1 k f c s h) (λ vs s h. same h))

makes_own : (content : Content) → Adding (forms.makes_own content)
makes_own content k f c s h = bind (op (plain.makes f.side content s.plain) s h) (λ at s h. same h)

pub tuple : (ms : List Meaning) → Each (λ m. Adding m) ms → Adding (forms.tuple ms)
tuple ms i k f c s h = step s h (λ s h. bind (values ms i k f c s h) (λ vs s h. makes_own (object.tuple vs) k f c s h))

pub list : (ms : List Meaning) → Each (λ m. Adding m) ms → Adding (forms.list ms)
list ms i k f c s h = step s h (λ s h. bind (values ms i k f c s h) (λ vs s h. makes_own (object.list vs) k f c s h))

abbrev pub PairAdds : Meaning × Meaning → Type 0
PairAdds p = Adding p.0 × Adding p.1

pairs : (ps : List (Meaning × Meaning)) → Each PairAdds ps → Adding (forms.pairs ps)
pairs [] i k f c s h = same h
pairs (p ∷ ps) i k f c s h = bind (i.0.0 k f c s h) (λ x s h. bind (i.0.1 k f c s h) (λ v s h. bind (pairs ps i.1 k f c s h) (λ kvs s h. same h)))

pub dict : (ps : List (Meaning × Meaning)) → Each PairAdds ps → Adding (forms.dict ps)
dict ps i k f c s h = step s h (λ s h. bind (pairs ps i k f c s h) (λ kvs s h.
    found (forms.dict_with (object.dict []) kvs) s h (λ content s h. makes_own content k f c s h)))

pub cond : (x a b : Meaning) → Adding x → Adding a → Adding b → Adding (forms.cond x a b)
cond x a b i j l k f c s h =
    step s h (λ s h. bind (i k f c s h) (λ v s h. form.truth v f c.0 s h (λ s h. j k f c s h) (λ s h. l k f c s h)))

later_or : (ms : List Meaning) → Each (λ m. Adding m) ms → (v : Value) → Adding (forms.later_or ms v)
later_or [] i v k f c s h = same h
later_or (m ∷ ms) i v k f c s h = form.truth v f c.0 s h (λ s h. same h)
    (λ s h. step s h (λ s h. bind (i.0 k f c s h) (λ w s h. later_or ms i.1 w k f c s h)))

later_and : (ms : List Meaning) → Each (λ m. Adding m) ms → (v : Value) → Adding (forms.later_and ms v)
later_and [] i v k f c s h = same h
later_and (m ∷ ms) i v k f c s h = form.truth v f c.0 s h
    (λ s h. step s h (λ s h. bind (i.0 k f c s h) (λ w s h. later_and ms i.1 w k f c s h))) (λ s h. same h)

pub or : (ms : List Meaning) → Each (λ m. Adding m) ms → Adding (forms.or ms)
or [] i k f c s h = same h
or (m ∷ ms) i k f c s h = bind (i.0 k f c s h) (λ v s h. later_or ms i.1 v k f c s h)

pub and : (ms : List Meaning) → Each (λ m. Adding m) ms → Adding (forms.and ms)
and [] i k f c s h = same h
and (m ∷ ms) i k f c s h = bind (i.0 k f c s h) (λ v s h. later_and ms i.1 v k f c s h)

pub negated : (m : Meaning) → Adding m → Adding (forms.negated m)
negated m i k f c s h = step s h (λ s h. bind (i k f c s h) (λ v s h. form.truth v f c.0 s h (λ s h. same h) (λ s h. same h)))

tests : (ts : List (Test × Meaning)) → Each (λ t. Adding t.1) ts → (a : Value) → Adding (forms.tests ts a)
tests [] i a k f c s h = same h
tests (t ∷ ts) i a k f c s h = step s h (λ s h. bind (i.0 k f c s h) (λ b s h. bind (form.test_adds t.0 a b k f c s h) (λ r s h.
    chosen r (forms.tests ts b f) (gives (truth false)) (tests ts i.1 b k f c s h) (same h))))

pub compare : (m : Meaning) (ts : List (Test × Meaning)) → Adding m → Each (λ t. Adding t.1) ts → Adding (forms.compare m ts)
compare m ts i j k f c s h = bind (i k f c s h) (λ a s h. tests ts j a k f c s h)

operands : (os : List (BinOp × Meaning)) → Each (λ o. Adding o.1) os → (a : Value) → Adding (forms.operands os a)
operands [] i a k f c s h = same h
operands (o ∷ os) i a k f c s h = step s h (λ s h. bind (i.0 k f c s h) (λ b s h. bind (form.operated o.0 a b k f c s h) (λ v s h.
    operands os i.1 v k f c s h)))

pub chain : (m : Meaning) (os : List (BinOp × Meaning)) → Adding m → Each (λ o. Adding o.1) os → Adding (forms.chain m os)
chain m os i j k f c s h = bind (i k f c s h) (λ a s h. operands os j a k f c s h)

pub unary : (o : UnOp) (m : Meaning) → Adding m → Adding (forms.unary o m)
unary o m i k f c s h = step s h (λ s h. bind (i k f c s h) (λ a s h. form.operated_once o a k f c s h))

pub power : (m n : Meaning) → Adding m → Adding n → Adding (forms.power m n)
power m n i j k f c s h =
    step s h (λ s h. bind (i k f c s h) (λ a s h. bind (j k f c s h) (λ b s h. form.operated Pow a b k f c s h)))

-- trailers

abbrev pub TrailerAdds : (Value → Meaning) → Type 0
TrailerAdds t = (v : Value) → Adding (t v)

trailers : (ts : List (Value → Meaning)) → Each TrailerAdds ts → (v : Value) → Adding (forms.trailers ts v)
trailers [] i v k f c s h = same h
trailers (t ∷ ts) i v k f c s h = bind (step s h (λ s h. i.0 v k f c s h)) (λ w s h. trailers ts i.1 w k f c s h)

pub primary : (m : Meaning) (ts : List (Value → Meaning)) → Adding m → Each TrailerAdds ts → Adding (forms.primary m ts)
primary m ts i j k f c s h = bind (i k f c s h) (λ v s h. trailers ts j v k f c s h)

pub attribute : (n : Name) → TrailerAdds (forms.attribute n)
attribute n o k f c s h = form.attribute_got o n k f c s h

pub item : (m : Meaning) → Adding m → TrailerAdds (forms.item m)
item m i o k f c s h = bind (i k f c s h) (λ x s h. form.item_got o x k f c s h)

abbrev pub OptionAdds : Option Meaning → Type 0
OptionAdds None = Unit {0}
OptionAdds (Some m) = Adding m

part : (m : Option Meaning) → OptionAdds m → Adding (forms.part m)
part None i k f c s h = same h
part (Some m) i k f c s h = i k f c s h

pub slice : (x y z : Option Meaning) → OptionAdds x → OptionAdds y → OptionAdds z → TrailerAdds (forms.slice x y z)
slice x y z i j l o k f c s h = bind (part x i k f c s h) (λ a s h. bind (part y j k f c s h) (λ b s h. bind (part z l k f c s h) (λ d s h.
    form.slice_got o a b d k f c s h)))

pub call : (as' : List Argument) → ArgumentsAdd as' → TrailerAdds (forms.call as')
call as' i v k f c s h = bind (arguments_add as' i none k f c s h) (λ a s h. call_adds v a k f c s h)

-- functions and comprehensions

pub makes_function : (n : Option Name) (block : ℕ) (ms : List Meaning) → Each (λ m. Adding m) ms → Adding (forms.makes_function n block ms)
makes_function n block ms i k f c s h =
    bind (values ms i k f c s h) (λ vs s h. op (plain.makes f.side (object.function n f.side block f.scope vs) s.plain) s h)

pub lambda : (block : ℕ) (ms : List Meaning) → Each (λ m. Adding m) ms → Adding (forms.lambda block ms)
lambda block ms i k f c s h = step s h (λ s h. bind (makes_function None block ms i k f c s h) (λ at s h. same h))

pub record ClauseAdds (c : Clause) : Type 0 where
  pub of : Adding c.of
  pub bind : (v : Value) → Adding (c.bind v)
  pub tests : Each (λ m. Adding m) c.tests

where_all : (ms : List Meaning) (inside : Doing) → Each (λ m. Adding m) ms → Adding inside → Adding (forms.where_all ms inside)
where_all [] inside i j k f c s h = j k f c s h
where_all (m ∷ ms) inside i j k f c s h =
    bind (i.0 k f c s h) (λ v s h. form.truth v f c.0 s h (λ s h. where_all ms inside i.1 j k f c s h) (λ s h. same h))

turn : (x : Clause) (inside : Doing) → ClauseAdds x → Adding inside → (v : Value) → Adding (forms.turn x inside v)
turn x inside i j v k f c s h = andthen (i.bind v k f c s h) (λ s h. where_all x.tests inside i.tests j k f c s h)

nest : (cs : List Clause) (inside : Doing) → Each ClauseAdds cs → Adding inside → Adding (forms.nest cs inside)
nest [] inside i j k f c s h = j k f c s h
nest (x ∷ xs) inside i j k f c s h = bind (i.0.of k f c s h) (λ v s h. bind (form.walks v k f c s h) (λ w s h.
    form.each_adds (forms.turn x (forms.nest xs inside)) f c (λ v s h. turn x (forms.nest xs inside) i.0 (nest xs inside i.1 j) v k f c s h) w s h))

comprehension : (block : ℕ) (cs : List Clause) (empty : Content) (add : Oid → Doing) → Each ClauseAdds cs → ((at : Oid) → Adding (add at))
    → Adding (forms.comprehension block cs empty add)
comprehension block [] empty add i j k f c s h = same h
comprehension block (x ∷ xs) empty add i j k f c s h = step s h (λ s h. bind (i.0.of k f c s h) (λ v s h. bind (form.walks v k f c s h) (λ w s h.
    bind (op (plain.makes f.side (object.scope (Some block) (Some f.scope) (empty_slots (length ((layouts_of f).locals block)))) s.plain) s h) (λ scope s h.
    bind (op (plain.makes f.side empty s.plain) s h) (λ at s h.
    bind (form.each_adds (forms.turn x (forms.nest xs (add at))) (record f { block = block; scope = scope }) c
    (λ v s h. turn x (forms.nest xs (add at)) i.0 (nest xs (add at) i.1 (j at)) v k (record f { block = block; scope = scope }) c s h) w s h)
    (λ flow s h. same h))))))

adds_element : (m : Meaning) → Adding m → (at : Oid) → Adding (forms.adds_element m at)
adds_element m i at k f c s h = bind (i k f c s h) (λ v s h. charge 1 s h (λ s h. same h))

adds_entry : (m n : Meaning) → Adding m → Adding n → (at : Oid) → Adding (forms.adds_entry m n at)
adds_entry m n i j at k f c s h = bind (i k f c s h) (λ x s h. bind (j k f c s h) (λ v s h.
    bind (op (items.set_item (value.Ref at) x v s.plain) s h) (λ _ s h. same h)))

pub list_of : (block : ℕ) (cs : List Clause) (m : Meaning) → Each ClauseAdds cs → Adding m → Adding (forms.list_of block cs m)
list_of block cs m i j = comprehension block cs (object.list []) (forms.adds_element m) i (adds_element m j)

pub dict_of : (block : ℕ) (cs : List Clause) (m n : Meaning) → Each ClauseAdds cs → Adding m → Adding n → Adding (forms.dict_of block cs m n)
dict_of block cs m n i j l = comprehension block cs (object.dict []) (forms.adds_entry m n) i (adds_entry m n j l)
