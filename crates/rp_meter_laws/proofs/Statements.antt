-- Statements leave an object that is where their parts do.
use Rattle.std.proofs.Common.{ℕ, ◌+◌, false, zero, suc, List, [], ◌∷◌, length, Option, Some, None, Result, Ok, Err}
use Rattle.rp_base.specs.declared.operator.BinOp.{BinOp}
use Rattle.rp_base.specs.declared.value.Name.{Name}
use Rattle.rp_base.specs.declared.value.Oid.{Oid}
use Rattle.rp_base.specs.declared.value.Raised.{Raised}
use Rattle.rp_base.specs.declared.value.Rock.TheVariants as rock
use Rattle.rp_base.specs.declared.value.Value.{Value}
use Rattle.rp_base.specs.declared.value.Value.TheVariants as value
use Rattle.rp_base.specs.declared.word.TheConstants.{STR}
use Rattle.rp_base.specs.Names.{word_of}
use Rattle.rp_ops.specs.Outcome.{End, raised, no_step, no_cell, gives, on_value}
use Rattle.rp_ops.specs.Walk.{Cursor}
use Rattle.rp_store.specs.Object as object
use Rattle.rp_meaning.specs.Classes as classes
use Rattle.rp_meaning.specs.Classes.{Methods, Part, method, other, part_done, methods_made, declared_at, functions_in}
use Rattle.rp_meaning.specs.Exceptions as exception
use Rattle.rp_meaning.specs.Exceptions.{Handler, after, finally, handled, kinds_named, matches, otherwise, raise_value}
use Rattle.rp_meaning.specs.Exceptions.{raise_again, takes_raised}
use Rattle.rp_meaning.specs.Frame.{Meaning, Doing, bind_name, without_name}
use Rattle.rp_meaning.specs.State.{State, Outcome, Flow, next, broke, continued, returned, on_next, heap_of}
use Rattle.rp_meaning.specs.Statements as stmt_forms
use Rattle.rp_meaning.specs.Statements.{Store}
use Rattle.rp_meter_laws.proofs.AtMost.{IsIn, Keeps, Keeping}
use Rattle.rp_meter_laws.proofs.Going.{Does, Each, ask_for, same, bind, op, chosen, step, charge, andthen, turns_keep}
use Rattle.rp_meter_laws.proofs.Going.{by_option}
use Rattle.rp_meter_laws.proofs.Forms as form
use Rattle.rp_meter_laws.proofs.Operations.{show_leaves}
use Rattle.rp_meter_laws.proofs.Parts.{OptionKeeps, makes_function}
use Rattle.rp_meter_laws.proofs.Plainly.{makes}

abbrev pub StoreKeeps : Store → Type 0
StoreKeeps store = (v : Value) → Keeping (store v)

pub block : (ds : List Doing) → Each (λ d. Keeping d) ds → Keeping (stmt_forms.block ds)
block [] i k f c s h = same h
block (x ∷ xs) i k f c s h = andthen (i.0 k f c s h) (λ s h. block xs i.1 k f c s h)

pub nothing : Keeping stmt_forms.nothing
nothing k f c s h = same h

pub evaluate : (m : Meaning) → Keeping m → Keeping (stmt_forms.evaluate m)
evaluate m i k f c s h = bind (i k f c s h) (λ v s h. same h)

-- storing

pub store_name : (n : Name) → StoreKeeps (bind_name n)
store_name n v k f c s h = form.bound n v k f c s h

pub store_attribute : (m : Meaning) (n : Name) → Keeping m → StoreKeeps (stmt_forms.store_attribute m n)
store_attribute m n i v k f c s h = bind (i k f c s h) (λ o s h. form.attribute_set o n v k f c s h)

pub store_item : (m x : Meaning) → Keeping m → Keeping x → StoreKeeps (stmt_forms.store_item m x)
store_item m x i j v k f c s h = bind (i k f c s h)
    (λ o s h. bind (j k f c s h) (λ y s h. form.item_set o y v k f c s h))

pub store_all : (ds : List Store) → Each StoreKeeps ds → StoreKeeps (stmt_forms.store_all ds)
store_all [] i v k f c s h = same h
store_all (x ∷ xs) i v k f c s h = andthen (i.0 v k f c s h) (λ s h. store_all xs i.1 v k f c s h)

at_end : {k : ℕ} (x : Option (Value × Cursor)) → Does k (stmt_forms.at_end x)
at_end None s h = same h
at_end (Some x) s h = same h

on_element : {k : ℕ} (go : Value → Cursor → State → Outcome (List Value)) (x : Option (Value × Cursor))
    → ((v : Value) (w : Cursor) → Does k (go v w))
    → Does k (λ s. stmt_forms.on_element x s go)
on_element go None more s h = same h
on_element go (Some x) more s h = more x.0 x.1 s h

exactly : (n : ℕ) (w : Cursor) → Keeping (stmt_forms.exactly n w)
exactly zero w k f c s h = bind (form.element w k f c s h) (λ x s h. at_end x s h)
exactly (suc n) w k f c s h = bind (form.element w k f c s h) (λ x s h.
    on_element (λ v w s. on_value (stmt_forms.exactly n w f s) (λ vs s. gives (v ∷ vs) s)) x
    (λ v w s h. bind (exactly n w k f c s h) (λ vs s h. same h)) s h)

store_each : (ds : List Store) (vs : List Value) → Each StoreKeeps ds → Keeping (stmt_forms.store_each ds vs)
store_each [] vs i k f c s h = same h
store_each (x ∷ xs) [] i k f c s h = same h
store_each (x ∷ xs) (v ∷ vs) i k f c s h = andthen (i.0 v k f c s h) (λ s h. store_each xs vs i.1 k f c s h)

pub unpack : (ds : List Store) → Each StoreKeeps ds → StoreKeeps (stmt_forms.unpack ds)
unpack ds i v k f c s h =
    bind (form.walks v k f c s h) (λ w s h. bind (exactly (length ds) w k f c s h)
    (λ vs s h. store_each ds vs i k f c s h))

pub assign : (m : Meaning) (store : Store) → Keeping m → StoreKeeps store → Keeping (stmt_forms.assign m store)
assign m store i j k f c s h = bind (i k f c s h) (λ v s h. j v k f c s h)

-- augmented assignment

pub augment_name : (n : Name) (o : BinOp) (m : Meaning) → Keeping m → Keeping (stmt_forms.augment_name n o m)
augment_name n o m i k f c s h = bind (form.read n k f c s h)
    (λ a s h. bind (i k f c s h) (λ b s h. bind (form.augmented o a b k f c s h) (λ v s h.
    form.bound n v k f c s h)))

pub augment_attribute : (x : Meaning) (n : Name) (o : BinOp) (m : Meaning) → Keeping x → Keeping m → Keeping
    (stmt_forms.augment_attribute x n o m)
augment_attribute x n o m i j k f c s h = bind (i k f c s h) (λ y s h. bind (form.attribute_got y n k f c s h) (λ a s h.
    bind (j k f c s h) (λ b s h. bind (form.augmented o a b k f c s h) (λ v s h. form.attribute_set y n v k f c s h))))

pub augment_item : (x y : Meaning) (o : BinOp) (m : Meaning) → Keeping x → Keeping y → Keeping m → Keeping
    (stmt_forms.augment_item x y o m)
augment_item x y o m i l j k f c s h = bind (i k f c s h)
    (λ u s h. bind (l k f c s h) (λ w s h. bind (form.item_got u w k f c s h) (λ a s h.
    bind (j k f c s h) (λ b s h. bind (form.augmented o a b k f c s h) (λ v s h. form.item_set u w v k f c s h)))))

-- deleting and leaving

pub delete_attribute : (m : Meaning) (n : Name) → Keeping m → Keeping (stmt_forms.delete_attribute m n)
delete_attribute m n i k f c s h = bind (i k f c s h) (λ o s h. form.attribute_deleted o n k f c s h)

pub delete_item : (m x : Meaning) → Keeping m → Keeping x → Keeping (stmt_forms.delete_item m x)
delete_item m x i j k f c s h = bind (i k f c s h)
    (λ o s h. bind (j k f c s h) (λ y s h. form.item_deleted o y k f c s h))

pub leave : (flow : Flow) → Keeping (stmt_forms.leave flow)
leave flow k f c s h = same h

pub give_back : (m : Option Meaning) → OptionKeeps m → Keeping (stmt_forms.give_back m)
give_back None i k f c s h = same h
give_back (Some m) i k f c s h = bind (i k f c s h) (λ v s h. same h)

raised_again : {k : ℕ} (r : Option Raised) → Does k (raise_again r)
raised_again None s h = same h
raised_again (Some r) s h = same h

value_raised : {k : ℕ} (v : Value) → Does k (raise_value v)
value_raised (value.Rock (rock.Exc kind t)) s h = same h
value_raised (value.Rock (rock.Kind kind)) s h = same h
value_raised _ s h = same h

pub raise : (m : Option Meaning) → OptionKeeps m → Keeping (stmt_forms.raise m)
raise None i k f c s h = raised_again f.handling s h
raise (Some m) i k f c s h = bind (i k f c s h) (λ v s h. value_raised v s h)

failed : (m : Option Meaning) → OptionKeeps m → Keeping (stmt_forms.failed m)
failed None i k f c s h = same h
failed (Some m) i k f c s h = bind (i k f c s h) (λ v s h. ask_for f STR v s h (λ s h.
    bind (op s (show_leaves s.names v s.plain h)) (λ t s h. same h)))

pub assert : (m : Meaning) (message : Option Meaning) → Keeping m → OptionKeeps message → Keeping
    (stmt_forms.assert m message)
assert m message i j k f c s h =
    bind (i k f c s h) (λ v s h. form.truth v f s h (λ s h. same h) (λ s h. failed message j k f c s h))

-- choices and loops

abbrev pub BranchKeeps : Meaning × Doing → Type 0
BranchKeeps b = Keeping b.0 × Keeping b.1

pub choose : (bs : List (Meaning × Doing)) (last : Doing) → Each BranchKeeps bs → Keeping last → Keeping
    (stmt_forms.choose bs last)
choose [] last i j k f c s h = j k f c s h
choose (b ∷ bs) last i j k f c s h = bind (i.0.0 k f c s h) (λ v s h.
    form.truth v f s h (λ s h. i.0.1 k f c s h) (λ s h. choose bs last i.1 j k f c s h))

tested : (m : Meaning) → Keeping m → (w : Unit {0}) → Keeping (λ f. stmt_forms.tested m f w)
tested m i w k f c s h = step s h (λ s h. bind (i k f c s h)
    (λ v s h. form.truth v f s h (λ s h. same h) (λ s h. same h)))

pub while : (m : Meaning) (body : Doing) → Keeping m → Keeping body → Keeping (stmt_forms.while m body)
while m body i j k f c s h = turns_keep (s.plain.steps + 1) (λ w s h. tested m i w k f c s h) (λ v s h. j k f c s h)
    (tt {0}) s h

pub for : (m : Meaning) (store : Store) (body : Doing) → Keeping m → StoreKeeps store → Keeping body → Keeping
    (stmt_forms.for m store body)
for m store body i j l k f c s h = bind (i k f c s h) (λ v s h. bind (form.walks v k f c s h) (λ w s h.
    form.each_keeps (λ v frame s. on_next (store v frame s) (body frame)) f c
    (λ v s h. andthen (j v k f c s h) (λ s h. l k f c s h)) w s h))

pub define : (n : Name) (block : ℕ) (ms : List Meaning) → Each (λ m. Keeping m) ms → Keeping
    (stmt_forms.define n block ms)
define n block ms i k f c s h = bind (makes_function (Some n) block ms i k f c s h)
    (λ at s h. form.bound n (value.Ref at) k f c s h)

-- exceptions

pub record HandlerKeeps (x : Handler) : Type 0 where
  pub kind : OptionKeeps x.kind
  pub body : Keeping x.body

after_keeps : {k : ℕ} (o : Outcome Flow) (change : State → State) → Keeps o k
    → ((s : State) → IsIn k s → IsIn k (change s)) → Keeps (after o change) k
after_keeps {k} o change h more = by o.answer where
  by : (answer : Result Flow End) → Keeps (after (record { answer = answer; state = o.state }) change) k
  by (Ok flow) = same (more o.state h.steps)
  by (Err (raised r)) = same (more o.state h.steps)
  by (Err no_step) = same h.steps
  by (Err no_cell) = same h.steps

handled_keeps : (n : Option Name) (body : Doing) (r : Raised) → Keeping body → Keeping (handled n body r)
handled_keeps None body r i k f c s h = i k (record f { handling = Some r }) c s h
handled_keeps (Some n) body r i k f c s h = andthen (form.bound n (value.Rock (rock.Exc r.kind r.text)) k f c s h)
    (λ s h.
    after_keeps (body (record f { handling = Some r }) s) (without_name n f)
    (i k (record f { handling = Some r }) c s h) (λ s h. form.without n f s h))

matched : {k : ℕ} (v : Value) (r : Raised) → Does k (matches v r)
matched v r s h = by_option (kinds_named (heap_of s) v) (λ e. rw e (same h)) (λ ks e. rw e (same h))

takes_keeps : (m : Option Meaning) (r : Raised) → OptionKeeps m → Keeping (takes_raised m r)
takes_keeps None r i k f c s h = same h
takes_keeps (Some m) r i k f c s h = bind (i k f c s h) (λ v s h. matched v r s h)

handle : (hs : List Handler) (r : Raised) → Each HandlerKeeps hs → Keeping (exception.handle hs r)
handle [] r i k f c s h = same h
handle (x ∷ xs) r i k f c s h = bind (takes_keeps x.kind r i.0.kind k f c s h) (λ b s h.
    chosen b (handled x.name x.body r f) (exception.handle xs r f)
    (handled_keeps x.name x.body r i.0.body k f c s h) (handle xs r i.1 k f c s h))

otherwise_keeps : {k : ℕ} (o : Outcome Flow) (last : State → Outcome Flow) (go : Raised → State → Outcome Flow)
    → Keeps o k → Does k last → ((r : Raised) → Does k (go r)) → Keeps (otherwise o last go) k
otherwise_keeps {k} o last go h more raising = by o.answer where
  by : (answer : Result Flow End) → Keeps (otherwise (record { answer = answer; state = o.state }) last go) k
  by (Ok next) = more o.state h.steps
  by (Ok broke) = same h.steps
  by (Ok continued) = same h.steps
  by (Ok (returned v)) = same h.steps
  by (Err (raised r)) = raising r o.state h.steps
  by (Err no_step) = same h.steps
  by (Err no_cell) = same h.steps

finally_keeps : {k : ℕ} (o : Outcome Flow) (last : State → Outcome Flow) → Keeps o k → Does k last → Keeps
    (finally o last) k
finally_keeps {k} o last h more = by o.answer where
  by : (answer : Result Flow End) → Keeps (finally (record { answer = answer; state = o.state }) last) k
  by (Ok flow) = andthen (more o.state h.steps) (λ s h. same h)
  by (Err (raised r)) = andthen (more o.state h.steps) (λ s h. same h)
  by (Err no_step) = same h.steps
  by (Err no_cell) = same h.steps

pub try : (body : Doing) (hs : List Handler) (good last : Doing) → Keeping body → Each HandlerKeeps hs
    → Keeping good → Keeping last
    → Keeping (exception.try body hs good last)
try body hs good last i j l m k f c s h =
    finally_keeps (otherwise (body f s) (good f) (λ r s. exception.handle hs r f s)) (last f)
    (otherwise_keeps (body f s) (good f) (λ r s. exception.handle hs r f s) (i k f c s h) (λ s h. l k f c s h)
    (λ r s h. handle hs r j k f c s h))
    (λ s h. m k f c s h)

-- classes

abbrev pub PartKeeps : Part → Type 0
PartKeeps (method n m) = Keeping m
PartKeeps (other d) = Keeping d

part_keeps : (p : Part) (ms : Methods) → PartKeeps p → Keeping (part_done p ms)
part_keeps (method n m) ms i k f c s h = bind (i k f c s h) (λ at s h. same h)
part_keeps (other d) ms i k f c s h = bind (i k f c s h) (λ flow s h. same h)

methods_keep : (ps : List Part) (ms : Methods) → Each PartKeeps ps → Keeping (methods_made ps ms)
methods_keep [] ms i k f c s h = same h
methods_keep (p ∷ ps) ms i k f c s h = bind (step s h (λ s h. part_keeps p ms i.0 k f c s h))
    (λ ms s h. methods_keep ps ms i.1 k f c s h)

made_keeps : (at : Option Oid) (n : Name) (ms : Methods) → Keeping (classes.class_made at n ms)
made_keeps (Some at) n ms k f c s h = charge (length ms) s h (λ s h. same h)
made_keeps None n ms k f c s h = op s (makes f.side (object.class n false ms) s.plain h)

pub class : (n : Name) (ps : List Part) → Each PartKeeps ps → Keeping (classes.class n ps)
class n ps i k f c s h = bind (methods_keep ps [] i k f c s h) (λ ms s h.
    bind (made_keeps (declared_at f (heap_of s) (word_of s.names n) s.declarations.classes) n
    (functions_in (heap_of s) ms) k f c s h)
    (λ at s h. form.bound n (value.Ref at) k f c s h))
