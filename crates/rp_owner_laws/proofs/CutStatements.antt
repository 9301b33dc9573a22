-- Statements come to the same cut off and as it is, where their parts do.
use Rattle.std.proofs.Common.{◌≡◌, refl, ℕ, ◌+◌, false, zero, suc, List, [], ◌∷◌, length, Option, Some, None, Result}
use Rattle.std.proofs.Common.{Ok, Err}
use Rattle.rp_base.specs.declared.operator.BinOp.{BinOp}
use Rattle.rp_base.specs.declared.value.Name.{Name}
use Rattle.rp_base.specs.declared.value.Oid.{Oid}
use Rattle.rp_base.specs.declared.value.Raised.{Raised}
use Rattle.rp_base.specs.declared.value.Rock.TheVariants as rock
use Rattle.rp_base.specs.declared.value.Value.{Value}
use Rattle.rp_base.specs.declared.value.Value.TheVariants as value
use Rattle.rp_base.specs.declared.word.TheConstants.{STR}
use Rattle.rp_base.specs.Names.{word_of}
use Rattle.rp_ops.specs.Outcome as plain
use Rattle.rp_ops.specs.Outcome.{End, raised, no_step, no_cell}
use Rattle.rp_ops.specs.Walk.{Cursor}
use Rattle.rp_show.specs.Show.{show}
use Rattle.rp_store.specs.Object as object
use Rattle.rp_meaning.specs.Classes as classes
use Rattle.rp_meaning.specs.Classes.{Methods, Part, method, other, part_done, methods_made, declared_at, functions_in}
use Rattle.rp_meaning.specs.Exceptions as exception
use Rattle.rp_meaning.specs.Exceptions.{Handler, after, finally, handled, kinds_named, matches, otherwise, raise_value}
use Rattle.rp_meaning.specs.Exceptions.{raise_again, takes_raised}
use Rattle.rp_meaning.specs.Frame.{Meaning, Doing, bind_name, without_name}
use Rattle.rp_meaning.specs.State.{State, Outcome, Flow, next, broke, continued, returned, on_next, heap_of}
use Rattle.rp_meaning.specs.Statements as stmt_forms
use Rattle.rp_meaning.specs.Statements.{Store}
use Rattle.rp_trail.specs.Entry.{Entry}
use Rattle.rp_apart_laws.specs.Apart.{Each}
use Rattle.rp_owner_laws.specs.Cut.{Follows, Unseen, cut_frame}
use Rattle.rp_owner_laws.proofs.CutGoing.{Does, ask_for, same, via, bind, op, chosen, step, charge, andthen}
use Rattle.rp_owner_laws.proofs.CutGoing.{turns_follow, by_option}
use Rattle.rp_owner_laws.proofs.CutForms as form
use Rattle.rp_owner_laws.proofs.CutParts.{OptionIsUnseen, makes_function}

abbrev pub StoreIsUnseen : Store → Type 0
StoreIsUnseen store = (v : Value) → Unseen (store v)

pub block : (ds : List Doing) → Each (λ d. Unseen d) ds → Unseen (stmt_forms.block ds)
block [] i f d c s = same refl refl
block (x ∷ xs) i f d c s = andthen _ (i.0 f d c s) (λ s. block xs i.1 f d c s)

pub nothing : Unseen stmt_forms.nothing
nothing f d c s = same refl refl

pub evaluate : (m : Meaning) → Unseen m → Unseen (stmt_forms.evaluate m)
evaluate m i f d c s = bind _ (i f d c s) (λ v s. same refl refl)

-- storing

pub store_name : (n : Name) → StoreIsUnseen (bind_name n)
store_name n v f d c s = form.bound n v f d c s

pub store_attribute : (m : Meaning) (n : Name) → Unseen m → StoreIsUnseen (stmt_forms.store_attribute m n)
store_attribute m n i v f d c s = bind _ (i f d c s) (λ o s. form.attribute_set o n v f d c s)

pub store_item : (m x : Meaning) → Unseen m → Unseen x → StoreIsUnseen (stmt_forms.store_item m x)
store_item m x i j v f d c s = bind _ (i f d c s) (λ o s. bind _ (j f d c s) (λ y s. form.item_set o y v f d c s))

pub store_all : (ds : List Store) → Each StoreIsUnseen ds → StoreIsUnseen (stmt_forms.store_all ds)
store_all [] i v f d c s = same refl refl
store_all (x ∷ xs) i v f d c s = andthen _ (i.0 v f d c s) (λ s. store_all xs i.1 v f d c s)

at_end : (x : Option (Value × Cursor)) → Does (stmt_forms.at_end x) (stmt_forms.at_end x)
at_end None s = same refl refl
at_end (Some x) s = same refl refl

on_element : {go : Value → Cursor → State → Outcome (List Value)}
    (others : Value → Cursor → State → Outcome (List Value))
    (x : Option (Value × Cursor))
    → ((v : Value) (w : Cursor) → Does (go v w) (others v w))
    → Does (λ s. stmt_forms.on_element x s go) (λ s. stmt_forms.on_element x s others)
on_element others None more s = same refl refl
on_element others (Some x) more s = more x.0 x.1 s

exactly : (n : ℕ) (w : Cursor) → Unseen (stmt_forms.exactly n w)
exactly zero w f d c s = bind _ (form.element w f d c s) (λ x s. at_end x s)
exactly (suc n) w f d c s = bind _ (form.element w f d c s) (λ x s.
    on_element _ x (λ v w s. bind _ (exactly n w f d c s) (λ vs s. same refl refl)) s)

store_each : (ds : List Store) (vs : List Value) → Each StoreIsUnseen ds → Unseen (stmt_forms.store_each ds vs)
store_each [] vs i f d c s = same refl refl
store_each (x ∷ xs) [] i f d c s = same refl refl
store_each (x ∷ xs) (v ∷ vs) i f d c s = andthen _ (i.0 v f d c s) (λ s. store_each xs vs i.1 f d c s)

pub unpack : (ds : List Store) → Each StoreIsUnseen ds → StoreIsUnseen (stmt_forms.unpack ds)
unpack ds i v f d c s =
    bind _ (form.walks v f d c s) (λ w s. bind _ (exactly (length ds) w f d c s) (λ vs s. store_each ds vs i f d c s))

pub assign : (m : Meaning) (store : Store) → Unseen m → StoreIsUnseen store → Unseen (stmt_forms.assign m store)
assign m store i j f d c s = bind _ (i f d c s) (λ v s. j v f d c s)

-- augmented assignment

pub augment_name : (n : Name) (o : BinOp) (m : Meaning) → Unseen m → Unseen (stmt_forms.augment_name n o m)
augment_name n o m i f d c s = bind _ (form.read n f d c s)
    (λ a s. bind _ (i f d c s) (λ b s. bind _ (form.augmented o a b f d c s) (λ v s.
    form.bound n v f d c s)))

pub augment_attribute : (x : Meaning) (n : Name) (o : BinOp) (m : Meaning) → Unseen x → Unseen m
    → Unseen (stmt_forms.augment_attribute x n o m)
augment_attribute x n o m i j f d c s = bind _ (i f d c s) (λ y s. bind _ (form.attribute_got y n f d c s) (λ a s.
    bind _ (j f d c s) (λ b s. bind _ (form.augmented o a b f d c s) (λ v s. form.attribute_set y n v f d c s))))

pub augment_item : (x y : Meaning) (o : BinOp) (m : Meaning) → Unseen x → Unseen y → Unseen m
    → Unseen (stmt_forms.augment_item x y o m)
augment_item x y o m i l j f d c s = bind _ (i f d c s)
    (λ u s. bind _ (l f d c s) (λ w s. bind _ (form.item_got u w f d c s) (λ a s.
    bind _ (j f d c s) (λ b s. bind _ (form.augmented o a b f d c s) (λ v s. form.item_set u w v f d c s)))))

-- deleting and leaving

pub delete_attribute : (m : Meaning) (n : Name) → Unseen m → Unseen (stmt_forms.delete_attribute m n)
delete_attribute m n i f d c s = bind _ (i f d c s) (λ o s. form.attribute_deleted o n f d c s)

pub delete_item : (m x : Meaning) → Unseen m → Unseen x → Unseen (stmt_forms.delete_item m x)
delete_item m x i j f d c s = bind _ (i f d c s) (λ o s. bind _ (j f d c s) (λ y s. form.item_deleted o y f d c s))

pub leave : (flow : Flow) → Unseen (stmt_forms.leave flow)
leave flow f d c s = same refl refl

pub give_back : (m : Option Meaning) → OptionIsUnseen m → Unseen (stmt_forms.give_back m)
give_back None i f d c s = same refl refl
give_back (Some m) i f d c s = bind _ (i f d c s) (λ v s. same refl refl)

raised_again : (r : Option Raised) → Does (raise_again r) (raise_again r)
raised_again None s = same refl refl
raised_again (Some r) s = same refl refl

value_raised : (v : Value) → Does (raise_value v) (raise_value v)
value_raised (value.Rock (rock.Exc kind t)) s = same refl refl
value_raised (value.Rock (rock.Kind kind)) s = same refl refl
value_raised _ s = same refl refl

pub raise : (m : Option Meaning) → OptionIsUnseen m → Unseen (stmt_forms.raise m)
raise None i f d c s = raised_again f.handling s
raise (Some m) i f d c s = bind _ (i f d c s) (λ v s. value_raised v s)

failed : (m : Option Meaning) → OptionIsUnseen m → Unseen (stmt_forms.failed m)
failed None i f d c s = same refl refl
failed (Some m) i f d c s = bind _ (i f d c s) (λ v s. ask_for _ f d STR v s (λ s.
    bind _ (op (show s.names v s.plain) s) (λ t s. same refl refl)))

pub assert : (m : Meaning) (message : Option Meaning) → Unseen m → OptionIsUnseen message
    → Unseen (stmt_forms.assert m message)
assert m message i j f d c s =
    bind _ (i f d c s) (λ v s. form.truth _ _ v f d s (λ s. same refl refl) (λ s. failed message j f d c s))

-- choices and loops

abbrev pub BranchIsUnseen : Meaning × Doing → Type 0
BranchIsUnseen b = Unseen b.0 × Unseen b.1

pub choose : (bs : List (Meaning × Doing)) (last : Doing) → Each BranchIsUnseen bs → Unseen last
    → Unseen (stmt_forms.choose bs last)
choose [] last i j f d c s = j f d c s
choose (b ∷ bs) last i j f d c s = bind _ (i.0.0 f d c s) (λ v s.
    form.truth _ _ v f d s (λ s. i.0.1 f d c s) (λ s. choose bs last i.1 j f d c s))

tested : (m : Meaning) → Unseen m → (w : Unit {0}) → Unseen (λ f. stmt_forms.tested m f w)
tested m i w f d c s = step _ s
    (λ s. bind _ (i f d c s) (λ v s. form.truth _ _ v f d s (λ s. same refl refl) (λ s. same refl refl)))

pub while : (m : Meaning) (body : Doing) → Unseen m → Unseen body → Unseen (stmt_forms.while m body)
while m body i j f d c s = turns_follow _ _ (s.plain.steps + 1) (λ w s. tested m i w f d c s) (λ v s. j f d c s)
    (tt {0}) s

pub for : (m : Meaning) (store : Store) (body : Doing) → Unseen m → StoreIsUnseen store → Unseen body
    → Unseen (stmt_forms.for m store body)
for m store body i j l f d c s = bind _ (i f d c s) (λ v s. bind _ (form.walks v f d c s) (λ w s.
    form.each_follows (λ v frame s. on_next (store v frame s) (body frame)) f d c
    (λ v s. andthen _ (j v f d c s) (λ s. l f d c s)) w s))

pub define : (n : Name) (block : ℕ) (ms : List Meaning) → Each (λ m. Unseen m) ms
    → Unseen (stmt_forms.define n block ms)
define n block ms i f d c s = bind _ (makes_function (Some n) block ms i f d c s)
    (λ at s. form.bound n (value.Ref at) f d c s)

-- exceptions

pub record HandlerIsUnseen (x : Handler) : Type 0 where
  pub kind : OptionIsUnseen x.kind
  pub body : Unseen x.body

after_follows : {old : List Entry} {o p : Outcome Flow} (change : State → State) → Follows old o p
    → ((s : State) → (change s).log ≡ s.log) → Follows old (after o change) (after p change)
after_follows {old} {o} {p} change h log = via (λ o. after o change) (λ p. after p change) o p h (by o.answer) where
  by : (answer : Result Flow End) → Follows o.state.log (after (record { answer = answer; state = o.state }) change)
      (after (record { answer = answer; state = o.state }) change)
  by (Ok flow) = same (log o.state) refl
  by (Err (raised r)) = same (log o.state) refl
  by (Err no_step) = same refl refl
  by (Err no_cell) = same refl refl

handled_follows : (n : Option Name) (body : Doing) (r : Raised) → Unseen body → Unseen (handled n body r)
handled_follows None body r i f d c s = i (record f { handling = Some r }) d c s
handled_follows (Some n) body r i f d c s =
    andthen (λ s. after (body (record (cut_frame d f) { handling = Some r }) s) (without_name n (cut_frame d f)))
    (form.bound n (value.Rock (rock.Exc r.kind r.text)) f d c s) (λ s.
    after_follows (without_name n f) (i (record f { handling = Some r }) d c s) (form.log-without n f))

matched : (v : Value) (r : Raised) → Does (matches v r) (matches v r)
matched v r s = by_option (kinds_named (heap_of s) v) (λ e. rw e (same refl refl)) (λ ks e. rw e (same refl refl))

takes_follows : (m : Option Meaning) (r : Raised) → OptionIsUnseen m → Unseen (takes_raised m r)
takes_follows None r i f d c s = same refl refl
takes_follows (Some m) r i f d c s = bind _ (i f d c s) (λ v s. matched v r s)

handle : (hs : List Handler) (r : Raised) → Each HandlerIsUnseen hs → Unseen (exception.handle hs r)
handle [] r i f d c s = same refl refl
handle (x ∷ xs) r i f d c s = bind _ (takes_follows x.kind r i.0.kind f d c s) (λ b s.
    chosen b _ _ _ _ _ _ (handled_follows x.name x.body r i.0.body f d c s) (handle xs r i.1 f d c s))

otherwise_follows : {old : List Entry} {o p : Outcome Flow} {last : State → Outcome Flow}
    {go : Raised → State → Outcome Flow}
    (last' : State → Outcome Flow) (others : Raised → State → Outcome Flow)
    → Follows old o p → Does last last' → ((r : Raised) → Does (go r) (others r))
    → Follows old (otherwise o last go) (otherwise p last' others)
otherwise_follows {old} {o} {p} {last} {go} last' others h more raising =
    via (λ o. otherwise o last go) (λ p. otherwise p last' others) o p h (by o.answer) where
      by : (answer : Result Flow End)
          → Follows o.state.log (otherwise (record { answer = answer; state = o.state }) last go)
          (otherwise (record { answer = answer; state = o.state }) last' others)
      by (Ok next) = more o.state
      by (Ok broke) = same refl refl
      by (Ok continued) = same refl refl
      by (Ok (returned v)) = same refl refl
      by (Err (raised r)) = raising r o.state
      by (Err no_step) = same refl refl
      by (Err no_cell) = same refl refl

finally_follows : {old : List Entry} {o p : Outcome Flow} {last : State → Outcome Flow} (last' : State → Outcome Flow)
    → Follows old o p → Does last last' → Follows old (finally o last) (finally p last')
finally_follows {old} {o} {p} {last} last' h more = via (λ o. finally o last) (λ p. finally p last') o p h
    (by o.answer) where
      by : (answer : Result Flow End) → Follows o.state.log (finally (record { answer = answer; state = o.state }) last)
          (finally (record { answer = answer; state = o.state }) last')
      by (Ok flow) = andthen _ (more o.state) (λ s. same refl refl)
      by (Err (raised r)) = andthen _ (more o.state) (λ s. same refl refl)
      by (Err no_step) = same refl refl
      by (Err no_cell) = same refl refl

pub try : (body : Doing) (hs : List Handler) (good last : Doing) → Unseen body → Each HandlerIsUnseen hs → Unseen good
    → Unseen last
    → Unseen (exception.try body hs good last)
try body hs good last i j l m f d c s =
    finally_follows (last (cut_frame d f))
    (otherwise_follows (good (cut_frame d f)) (λ r s. exception.handle hs r (cut_frame d f) s) (i f d c s)
    (λ s. l f d c s)
    (λ r s. handle hs r j f d c s)) (λ s. m f d c s)

-- classes

abbrev pub PartIsUnseen : Part → Type 0
PartIsUnseen (method n m) = Unseen m
PartIsUnseen (other does) = Unseen does

part_follows : (p : Part) (ms : Methods) → PartIsUnseen p → Unseen (part_done p ms)
part_follows (method n m) ms i f d c s = bind _ (i f d c s) (λ at s. same refl refl)
part_follows (other does) ms i f d c s = bind _ (i f d c s) (λ flow s. same refl refl)

methods_follow : (ps : List Part) (ms : Methods) → Each PartIsUnseen ps → Unseen (methods_made ps ms)
methods_follow [] ms i f d c s = same refl refl
methods_follow (p ∷ ps) ms i f d c s = bind _ (step _ s (λ s. part_follows p ms i.0 f d c s))
    (λ ms s. methods_follow ps ms i.1 f d c s)

made_follows : (at : Option Oid) (n : Name) (ms : Methods) → Unseen (classes.class_made at n ms)
made_follows (Some at) n ms f d c s = charge _ (length ms) s (λ s. same refl refl)
made_follows None n ms f d c s = op (plain.makes f.side (object.class n false ms) s.plain) s

pub class : (n : Name) (ps : List Part) → Each PartIsUnseen ps → Unseen (classes.class n ps)
class n ps i f d c s = bind _ (methods_follow ps [] i f d c s) (λ ms s.
    bind _ (made_follows (declared_at f (heap_of s) (word_of s.names n) s.declarations.classes) n
    (functions_in (heap_of s) ms) f d c s) (λ at s. form.bound n (value.Ref at) f d c s))
