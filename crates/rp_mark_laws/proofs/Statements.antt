-- Statements do not see the trees of programs where their parts do not.
use Rattle.std.proofs.Common.{refl, ℕ, zero, suc, List, [], ◌∷◌, length, Option, Some, None}
use Rattle.std.specs.List.{AllByRecursion}
use Rattle.rp_base.specs.Names.{word_of}
use Rattle.rp_base.specs.declared.kind.Kind.TheVariants.{AssertionError}
use Rattle.rp_base.specs.declared.operator.BinOp.{BinOp}
use Rattle.rp_base.specs.declared.value.Name.{Name}
use Rattle.rp_base.specs.declared.value.Oid.{Oid}
use Rattle.rp_base.specs.declared.value.Raised.{Raised}
use Rattle.rp_base.specs.declared.value.Rock.TheVariants as rock
use Rattle.rp_base.specs.declared.value.Value.{Value}
use Rattle.rp_base.specs.declared.value.Value.TheVariants as value
use Rattle.rp_base.specs.declared.word.TheConstants.{STR}
use Rattle.rp_dict.specs.Dict.{insert_entry}
use Rattle.rp_ops.specs.Outcome.{gives, on_value, raises}
use Rattle.rp_ops.specs.Walk.{Cursor}
use Rattle.rp_show.specs.Show.{show}
use Rattle.rp_store.specs.Key.{same_name}
use Rattle.rp_meaning.specs.Access as access
use Rattle.rp_meaning.specs.Classes as classes
use Rattle.rp_meaning.specs.Classes.{Methods, Part, method, other, declared_at, functions_in, methods_made, part_done}
use Rattle.rp_meaning.specs.Exceptions as exception
use Rattle.rp_meaning.specs.Exceptions.{Handler, after, finally, handled, matches, otherwise, raise_value, takes_raised}
use Rattle.rp_meaning.specs.Expressions.{nil}
use Rattle.rp_meaning.specs.Frame.{Meaning, Doing, asked_for, bind_name, read_name, unbind_name, without_name}
use Rattle.rp_meaning.specs.Operators.{augment}
use Rattle.rp_meaning.specs.State.{Flow, choose as by_truth, done, heap_of, on_next, plainly, returned, stepped}
use Rattle.rp_meaning.specs.Statements as stmt_forms
use Rattle.rp_meaning.specs.Statements.{Store}
use Rattle.rp_meaning.specs.Walks.{loop, next_element, on_truth, walk}
use Rattle.rp_mark_laws.specs.Blind.{Blind}
use Rattle.rp_mark_laws.proofs.Parts.{MeaningsAreBlind, OptionIsBlind, makes_function}

abbrev pub StoreIsBlind : Store → Type 0
StoreIsBlind store = (v : Value) → Blind (store v)

abbrev pub DoingsAreBlind : List Doing → Type 0
DoingsAreBlind ds = AllByRecursion (λ (d : Doing). Blind d) ds

pub block : (ds : List Doing) → DoingsAreBlind ds → Blind (stmt_forms.block ds)
block [] i f s = refl
block (d ∷ ds) i f s = λ j. on_next (i.0 f s j) (λ s. block ds i.1 f s j)

pub nothing : Blind stmt_forms.nothing
nothing f s = refl

pub evaluate : (m : Meaning) → Blind m → Blind (stmt_forms.evaluate m)
evaluate m i f s = λ j. on_value (i f s j) (λ v s. done s)

-- storing

pub store_name : (n : Name) → StoreIsBlind (bind_name n)
store_name n v f s = refl

pub store_attribute : (m : Meaning) (n : Name) → Blind m → StoreIsBlind (stmt_forms.store_attribute m n)
store_attribute m n i v f s = λ j. on_value (i f s j) (λ o s. access.set_attribute o n v f s)

pub store_item : (m k : Meaning) → Blind m → Blind k → StoreIsBlind (stmt_forms.store_item m k)
store_item m k i l v f s = λ j. on_value (i f s j) (λ o s. on_value (l f s j) (λ x s. access.set_item o x v f s))

pub store_all : (ds : List Store) → AllByRecursion StoreIsBlind ds → StoreIsBlind (stmt_forms.store_all ds)
store_all [] i v f s = refl
store_all (d ∷ ds) i v f s = λ j. on_next (i.0 v f s j) (λ s. store_all ds i.1 v f s j)

exactly : (n : ℕ) (w : Cursor) → Blind (stmt_forms.exactly n w)
exactly zero w f s = refl
exactly (suc n) w f s = λ j. on_value (next_element f w s) (λ e s.
    stmt_forms.on_element e s (λ v w s. on_value (exactly n w f s j) (λ vs s. gives (v ∷ vs) s)))

store_each : (ds : List Store) (vs : List Value) → AllByRecursion StoreIsBlind ds → Blind (stmt_forms.store_each ds vs)
store_each [] vs i f s = refl
store_each (d ∷ ds) [] i f s = refl
store_each (d ∷ ds) (v ∷ vs) i f s = λ j. on_next (i.0 v f s j) (λ s. store_each ds vs i.1 f s j)

pub unpack : (ds : List Store) → AllByRecursion StoreIsBlind ds → StoreIsBlind (stmt_forms.unpack ds)
unpack ds i v f s = λ j.
    on_value (walk v f s) (λ w s. on_value (exactly (length ds) w f s j) (λ vs s. store_each ds vs i f s j))

pub assign : (m : Meaning) (store : Store) → Blind m → StoreIsBlind store → Blind (stmt_forms.assign m store)
assign m store i k f s = λ j. on_value (i f s j) (λ v s. k v f s j)

-- augmented assignment

pub augment_name : (n : Name) (o : BinOp) (m : Meaning) → Blind m → Blind (stmt_forms.augment_name n o m)
augment_name n o m i f s = λ j.
    on_value (read_name n f s) (λ a s. on_value (i f s j) (λ b s. on_value (augment o a b f s) (λ v s. bind_name n v f s)))

pub augment_attribute : (x : Meaning) (n : Name) (o : BinOp) (m : Meaning) → Blind x → Blind m → Blind (stmt_forms.augment_attribute x n o m)
augment_attribute x n op m i k f s = λ j. on_value (i f s j) (λ o s. on_value (access.get_attribute o n f s) (λ a s.
    on_value (k f s j) (λ b s. on_value (augment op a b f s) (λ v s. access.set_attribute o n v f s))))

pub augment_item : (x y : Meaning) (o : BinOp) (m : Meaning) → Blind x → Blind y → Blind m → Blind (stmt_forms.augment_item x y o m)
augment_item x y op m i l k f s = λ j. on_value (i f s j) (λ o s. on_value (l f s j) (λ z s. on_value (access.get_item o z f s) (λ a s.
    on_value (k f s j) (λ b s. on_value (augment op a b f s) (λ v s. access.set_item o z v f s)))))

-- deleting and leaving

pub delete_name : (n : Name) → Blind (unbind_name n)
delete_name n f s = refl

pub delete_attribute : (m : Meaning) (n : Name) → Blind m → Blind (stmt_forms.delete_attribute m n)
delete_attribute m n i f s = λ j. on_value (i f s j) (λ o s. access.del_attribute o n f s)

pub delete_item : (m k : Meaning) → Blind m → Blind k → Blind (stmt_forms.delete_item m k)
delete_item m k i l f s = λ j. on_value (i f s j) (λ o s. on_value (l f s j) (λ x s. access.del_item o x f s))

pub leave : (flow : Flow) → Blind (stmt_forms.leave flow)
leave flow f s = refl

pub give_back : (m : Option Meaning) → OptionIsBlind m → Blind (stmt_forms.give_back m)
give_back None i f s = refl
give_back (Some m) i f s = λ j. on_value (i f s j) (λ v s. gives (returned v) s)

pub raise : (m : Option Meaning) → OptionIsBlind m → Blind (stmt_forms.raise m)
raise None i f s = refl
raise (Some m) i f s = λ j. on_value (i f s j) raise_value

failed : (m : Option Meaning) → OptionIsBlind m → Blind (stmt_forms.failed m)
failed None i f s = refl
failed (Some m) i f s = λ j. on_value (i f s j) (λ v s. asked_for f STR v s (λ s.
    on_value (plainly (show s.names v) s) (λ t s. raises AssertionError t s)))

pub assert : (m : Meaning) (message : Option Meaning) → Blind m → OptionIsBlind message → Blind (stmt_forms.assert m message)
assert m message i k f s = λ j. on_value (i f s j) (λ v s. on_truth v f s done (λ s. failed message k f s j))

-- choices and loops

abbrev pub BranchIsBlind : Meaning × Doing → Type 0
BranchIsBlind b = Blind b.0 × Blind b.1

pub choose : (bs : List (Meaning × Doing)) (last : Doing) → AllByRecursion BranchIsBlind bs → Blind last → Blind (stmt_forms.choose bs last)
choose [] last i k f s = k f s
choose (b ∷ bs) last i k f s = λ j.
    on_value (i.0.0 f s j) (λ v s. on_truth v f s (λ s. i.0.1 f s j) (λ s. choose bs last i.1 k f s j))

tested : (m : Meaning) → Blind m → (w : Unit {0}) → Blind (λ f. stmt_forms.tested m f w)
tested m i w f s = λ j. stepped s (λ s. on_value (i f s j) (λ v s. on_truth v f s (gives (Some (nil, w))) (gives None)))

pub while : (m : Meaning) (body : Doing) → Blind m → Blind body → Blind (stmt_forms.while m body)
while m body i k f s = λ j. loop (λ w s. tested m i w f s j) (λ v s. k f s j) (tt {0}) s

pub for : (m : Meaning) (store : Store) (body : Doing) → Blind m → StoreIsBlind store → Blind body → Blind (stmt_forms.for m store body)
for m store body i k l f s = λ j. on_value (i f s j) (λ v s. on_value (walk v f s) (λ w s.
    loop (next_element f) (λ v s. on_next (k v f s j) (λ s. l f s j)) w s))

pub define : (n : Name) (block : ℕ) (ms : List Meaning) → MeaningsAreBlind ms → Blind (stmt_forms.define n block ms)
define n block ms i f s = λ j. on_value (makes_function (Some n) block ms i f s j) (λ at s. bind_name n (value.Ref at) f s)

-- exceptions

pub record HandlerIsBlind (x : Handler) : Type 0 where
  pub kind : OptionIsBlind x.kind
  pub body : Blind x.body

handled-blind : (n : Option Name) (body : Doing) (r : Raised) → Blind body → Blind (handled n body r)
handled-blind None body r i f s = i (record f { handling = Some r }) s
handled-blind (Some n) body r i f s = λ j. on_next (bind_name n (value.Rock (rock.Exc r.kind r.text)) f s) (λ s.
    after (i (record f { handling = Some r }) s j) (without_name n f))

takes-blind : (m : Option Meaning) (r : Raised) → OptionIsBlind m → Blind (takes_raised m r)
takes-blind None r i f s = refl
takes-blind (Some m) r i f s = λ j. on_value (i f s j) (λ v s. matches v r s)

handle : (hs : List Handler) (r : Raised) → AllByRecursion HandlerIsBlind hs → Blind (exception.handle hs r)
handle [] r i f s = refl
handle (h ∷ hs) r i f s = λ j. on_value (takes-blind h.kind r i.0.kind f s j) (λ b s.
    by_truth b (λ s. handled-blind h.name h.body r i.0.body f s j) (λ s. handle hs r i.1 f s j) s)

pub try : (body : Doing) (hs : List Handler) (good last : Doing) → Blind body → AllByRecursion HandlerIsBlind hs → Blind good → Blind last
    → Blind (exception.try body hs good last)
try body hs good last i k l m f s = λ j.
    finally (otherwise (i f s j) (λ s. l f s j) (λ r s. handle hs r k f s j)) (λ s. m f s j)

-- classes

abbrev pub PartIsBlind : Part → Type 0
PartIsBlind (method n m) = Blind m
PartIsBlind (other d) = Blind d

part-blind : (p : Part) (ms : Methods) → PartIsBlind p → Blind (part_done p ms)
part-blind (method n m) ms i f s = λ j. on_value (i f s j) (λ at s. gives (insert_entry same_name ms n at) s)
part-blind (other d) ms i f s = λ j. on_value (i f s j) (λ flow s. gives ms s)

methods-blind : (ps : List Part) (ms : Methods) → AllByRecursion PartIsBlind ps → Blind (methods_made ps ms)
methods-blind [] ms i f s = refl
methods-blind (p ∷ ps) ms i f s = λ j. on_value (stepped s (λ s. part-blind p ms i.0 f s j)) (λ ms s. methods-blind ps ms i.1 f s j)

made-blind : (at : Option Oid) (n : Name) (ms : Methods) → Blind (classes.class_made at n ms)
made-blind (Some at) n ms f s = refl
made-blind None n ms f s = refl

pub class : (n : Name) (ps : List Part) → AllByRecursion PartIsBlind ps → Blind (classes.class n ps)
class n ps i f s = λ j. on_value (methods-blind ps [] i f s j) (λ ms s.
    on_value (made-blind (declared_at f (heap_of s) (word_of s.names n) s.declarations.classes) n (functions_in (heap_of s) ms) f s j)
    (λ at s. bind_name n (value.Ref at) f s))
