-- Walks, operators, comparisons and what is shown leave an object to which nothing refers, and give no reference to it.
use Rattle.std.proofs.Common.{ℕ, ◌+◌, ◌-◌, ◌*◌, ◌==◌, Bool, true, false, if◌then◌else◌, List, [], ◌∷◌, ◌++◌}
use Rattle.std.proofs.Common.{length, map, encode_utf8_all, slice_get, Option, Some, None, Result, Ok, Err}
use Rattle.std.specs.Prelude.{ℤ, nat_eq}
use Rattle.rp_base.specs.declared.operator.BinOp.{BinOp}
use Rattle.rp_base.specs.declared.operator.BinOp.TheVariants.{Add, Mul}
use Rattle.rp_base.specs.declared.value.Oid.{Oid}
use Rattle.rp_base.specs.declared.value.Raised.{Raised}
use Rattle.rp_base.specs.declared.value.Rock.{Rock}
use Rattle.rp_base.specs.declared.value.Rock.TheVariants as rock
use Rattle.rp_base.specs.declared.value.Side.{Side}
use Rattle.rp_base.specs.declared.value.Value.{Value}
use Rattle.rp_base.specs.declared.value.Value.TheVariants as value
use Rattle.rp_ops.specs.Binary as binary
use Rattle.rp_ops.specs.Inplace as inplace
use Rattle.rp_ops.specs.Numbers.{computed}
use Rattle.rp_ops.specs.Operand as operand
use Rattle.rp_ops.specs.Operand.{Operand, lent, number_of}
use Rattle.rp_ops.specs.Outcome as plain
use Rattle.rp_ops.specs.View.{handed, held_by, key_rock}
use Rattle.rp_ops.specs.Walk as walk
use Rattle.rp_ops.specs.Walk.{Cursor}
use Rattle.rp_proxy.specs.Taken as taking
use Rattle.rp_store.specs.Heap.{Owned, content_at}
use Rattle.rp_store.specs.Object as object
use Rattle.rp_store.specs.Object.{Content}
use Rattle.rp_store.specs.Writers.{extended, with_elements}
use Rattle.rp_store.specs.declared.key.Key.{Key}
use Rattle.rp_fixed_laws.specs.Fixed.{Placed}
use Rattle.rp_apart_laws.specs.Apart.{Avoids, ContentAvoids, Each, HeapAvoids, IsOther, OnSome}
use Rattle.rp_apart_laws.proofs.Lists.{each_append, each_get, each_made, each_map, each_repeat}
use Rattle.rp_apart_laws.proofs.Plainly.{Does, Leaves, There, bind, change, charge, chosen, elements_apart}
use Rattle.rp_apart_laws.proofs.Plainly.{extended_apart, kept, kept_giving, makes, maybe, read_avoids, read_on, step}

abbrev pub Entry : Type 0
Entry = Key × (Rock × Value)

abbrev pub Values : Placed → List Value → Type 0
Values k = Each (Avoids k.at)

-- ---- values

pub lent_avoids : (a : Oid) (v : Value) → Avoids a v → Avoids a (lent v)
lent_avoids a (value.Rock r) p = tt
lent_avoids a (value.Ref at) p = p
lent_avoids a (value.Prox at) p = p

pub handed_avoids : (a : Oid) (b : Bool) (v : Value) → Avoids a v → Avoids a (handed b v)
handed_avoids a true v p = lent_avoids a v p
handed_avoids a false v p = p

-- a value as code of a side takes it
pub taken_avoids : (a : Oid) (heap : List Owned) (side : Side) (v : Value) → Avoids a v
    → Avoids a (taking.taken heap side v)
taken_avoids a heap side v p = by (nat_eq side.0 0) v p
  where
    owned : (b : Bool) (at : Oid) → IsOther a at → Avoids a (if b then value.Ref at else value.Prox at)
    owned true at p = p
    owned false at p = p

    by : (b : Bool) (v : Value) → Avoids a v → Avoids a (if b then v else taking.taken_by_script heap side v)
    by true v p = p
    by false (value.Rock r) p = tt
    by false (value.Ref at) p = owned (taking.owns heap side at) at p
    by false (value.Prox at) p = owned (taking.owns heap side at) at p

-- ---- new objects and texts

pub new_text : {k : Placed} (t : List ℕ) → Does k (Avoids k.at) (binary.new_text t)
new_text t s h = charge (length (encode_utf8_all t)) s h (kept_giving (value.Rock (rock.Text t)) tt)

pub new_object : {k : Placed} (side : Side) (content : Content) → ContentAvoids k.at content
    → Does k (Avoids k.at) (binary.new_object side content)
new_object side content p s h = bind (makes side content p s h) (λ at other s h. kept h other)

-- ---- walks

walked : {k : Placed} (vs : List Value) → Values k vs → Does k (Values k) (walk.walked vs)
walked [] p s h = kept h tt
walked (v ∷ vs) p s h = step s h (λ s h. bind (walked vs p.1 s h) (λ ws q. kept_giving (v ∷ ws) (p.0, q)))

spelled_out : {k : Placed} (cs : List ℕ) → Does k (Values k) (walk.spelled_out cs)
spelled_out [] s h = kept h tt
spelled_out (c ∷ cs) s h =
    step s h (λ s h. bind (new_text (c ∷ []) s h) (λ v p s h. bind (spelled_out cs s h)
    (λ vs q. kept_giving (v ∷ vs) (p, q))))

rock_elements : {k : Placed} (r : Rock) → Does k (Values k) (walk.rock_elements r)
rock_elements (rock.Text t) s h = spelled_out t s h
rock_elements r s h = kept h tt

content_elements : {k : Placed} (seen : Value → Value) → ((v : Value) → Avoids k.at v → Avoids k.at (seen v))
    → (c : Content) → ContentAvoids k.at c → Does k (Values k) (walk.content_elements seen c)
content_elements {k} seen keeps (object.list xs) p s h =
    walked (map seen xs) (each_map (Avoids k.at) (Avoids k.at) seen keeps xs p) s h
content_elements {k} seen keeps (object.tuple xs) p s h =
    walked (map seen xs) (each_map (Avoids k.at) (Avoids k.at) seen keeps xs p) s h
content_elements {k} seen keeps (object.dict es) p s h =
    walked (map key_rock es) (each_made (Avoids k.at) key_rock (λ e. tt) es) s h
content_elements seen keeps c p s h = kept h tt

pub elements : {k : Placed} (v : Value) → Does k (Values k) (walk.elements v)
elements (value.Rock r) s h = rock_elements r s h
elements {k} (value.Ref at) s h =
    maybe (ContentAvoids k.at) (content_at s.store.heap at) (read_avoids k.at s.store.heap at h.others)
    (λ c p. content_elements (λ v. v) (λ v q. q) c p s h) (kept h tt)
elements {k} (value.Prox at) s h =
    maybe (ContentAvoids k.at) (content_at s.store.heap at) (read_avoids k.at s.store.heap at h.others)
    (λ c p. content_elements lent (lent_avoids k.at) c p s h) (kept h tt)

-- an element of a walk, where there is one
abbrev pub StepAvoids : Placed → Option (Value × Cursor) → Type 0
StepAvoids k = OnSome (λ e. Avoids k.at e.0)

taken : {k : Placed} (v : Option Value) (c : Cursor) → OnSome (Avoids k.at) v → Does k (StepAvoids k) (walk.taken v c)
taken None c p s h = kept h tt
taken (Some v) c p s h = step s h (kept_giving (Some (v, c)) p)

next_character : {k : Placed} (cs : List ℕ) → Does k (StepAvoids k) (walk.next_character cs)
next_character [] s h = kept h tt
next_character (c ∷ cs) s h = step s h (λ s h. bind (new_text (c ∷ []) s h)
    (λ v p. kept_giving (Some (v, walk.characters_from cs)) p))

next_key : {k : Placed} (keys : List Value) → Values k keys → (at : Oid) (i size : ℕ)
    → Does k (StepAvoids k) (walk.next_key keys at i size)
next_key {k} keys p at i size s h =
    chosen (length keys == size)
    (taken (slice_get keys i) (walk.keys_from at (i + 1) size) (each_get (Avoids k.at) keys i p) s h) (kept h tt)

held_avoid : (a : Oid) (c : Content) → ContentAvoids a c → Each (Avoids a) (held_by c)
held_avoid a (object.list xs) p = p
held_avoid a (object.tuple xs) p = p
held_avoid a c p = tt

pub elements_in_avoid : (a : Oid) (heap : List Owned) (b : Bool) (at : Oid) → HeapAvoids a heap
    → Each (Avoids a) (walk.elements_in heap b at)
elements_in_avoid a heap b at h =
    let held = read_on (ContentAvoids a) (Each (Avoids a)) held_by [] (content_at heap at) (read_avoids a heap at h)
    (held_avoid a) tt in
    each_map (Avoids a) (Avoids a) (handed b) (handed_avoids a b) _ held

pub next_of : {k : Placed} (c : Cursor) → Does k (StepAvoids k) (walk.next_of c)
next_of {k} (walk.elements_from b at i) s h =
    taken (slice_get (walk.elements_in s.store.heap b at) i) (walk.elements_from b at (i + 1))
    (each_get (Avoids k.at) (walk.elements_in s.store.heap b at) i
    (elements_in_avoid k.at s.store.heap b at h.others)) s h
next_of {k} (walk.keys_from at i size) s h =
    next_key (walk.keys_in s.store.heap at) (each_made (Avoids k.at) key_rock (λ e. tt) _) at i size s h
next_of (walk.characters_from cs) s h = next_character cs s h

-- ---- operators

abbrev OperandAvoids : Oid → Operand → Type 0
OperandAvoids a (operand.list xs) = Each (Avoids a) xs
OperandAvoids a (operand.tuple xs) = Each (Avoids a) xs
OperandAvoids a x = Unit {0}

rock_operand_avoids : (a : Oid) (r : Rock) → OperandAvoids a (operand.rock_operand r)
rock_operand_avoids a (rock.Int n) = tt
rock_operand_avoids a (rock.Truth b) = tt
rock_operand_avoids a (rock.Text t) = tt
rock_operand_avoids a r = tt

object_operand_avoids : (a : Oid) (seen : Value → Value) → ((v : Value) → Avoids a v → Avoids a (seen v))
    → (c : Content)
    → ContentAvoids a c → OperandAvoids a (operand.object_operand seen c)
object_operand_avoids a seen keeps (object.list xs) p = each_map (Avoids a) (Avoids a) seen keeps xs p
object_operand_avoids a seen keeps (object.tuple xs) p = each_map (Avoids a) (Avoids a) seen keeps xs p
object_operand_avoids a seen keeps c p = tt

operand_avoids : (a : Oid) (heap : List Owned) → HeapAvoids a heap → (v : Value)
    → OperandAvoids a (operand.operand heap v)
operand_avoids a heap h (value.Rock r) = rock_operand_avoids a r
operand_avoids a heap h (value.Ref at) =
    read_on (ContentAvoids a) (OperandAvoids a) (operand.object_operand (λ v. v)) operand.other (content_at heap at)
    (read_avoids a heap at h) (object_operand_avoids a (λ v. v) (λ v q. q)) tt
operand_avoids a heap h (value.Prox at) =
    read_on (ContentAvoids a) (OperandAvoids a) (operand.object_operand lent) operand.other (content_at heap at)
    (read_avoids a heap at h) (object_operand_avoids a lent (lent_avoids a)) tt

pub number_value : {k : Placed} (r : Result ℤ Raised) → Does k (Avoids k.at) (binary.number_value r)
number_value (Ok n) s h = kept h tt
number_value (Err e) s h = kept h tt

arithmetic : {k : Placed} (op : BinOp) (x y : Option ℤ) → Does k (Avoids k.at) (binary.arithmetic op x y)
arithmetic op (Some x) (Some y) s h = number_value (computed op x y) s h
arithmetic op (Some x) None s h = kept h tt
arithmetic op None y s h = kept h tt

truth_value : {k : Placed} {otherwise : plain.Outcome Value} (b : Option Bool) (s : plain.State) → There k s
    → Leaves k (Avoids k.at) otherwise → Leaves k (Avoids k.at) (binary.truth_value b otherwise s)
truth_value (Some b) s h i = kept h tt
truth_value None s h i = i

repeats : {k : Placed} (side : Side) (x : Operand) (n : Option ℤ) → OperandAvoids k.at x
    → Does k (Avoids k.at) (binary.repeats side x n)
repeats side (operand.text t) (Some n) p s h = new_text (binary.repeated n t) s h
repeats {k} side (operand.list xs) (Some n) p s h =
    new_object side (object.list (binary.repeated n xs)) (each_repeat (Avoids k.at) (binary.times n) xs p) s h
repeats {k} side (operand.tuple xs) (Some n) p s h =
    new_object side (object.tuple (binary.repeated n xs)) (each_repeat (Avoids k.at) (binary.times n) xs p) s h
repeats side x n p s h = kept h tt

calculated : {k : Placed} (op : BinOp) (x y : Operand) → Does k (Avoids k.at) (binary.calculated op x y)
calculated op x y s h =
    truth_value (binary.logical_of op x y) s h (arithmetic op (number_of x) (number_of y) s h)

operated : {k : Placed} (side : Side) (op : BinOp) (x y : Operand) → OperandAvoids k.at x → OperandAvoids k.at y
    → Does k (Avoids k.at) (binary.operated side op x y)
operated side Add (operand.text x) (operand.text y) p q s h = new_text (x ++ y) s h
operated {k} side Add (operand.list xs) (operand.list ys) p q s h =
    new_object side (object.list (xs ++ ys)) (each_append (Avoids k.at) xs ys p q) s h
operated {k} side Add (operand.tuple xs) (operand.tuple ys) p q s h =
    new_object side (object.tuple (xs ++ ys)) (each_append (Avoids k.at) xs ys p q) s h
operated side Mul (operand.text x) y p q s h = repeats side (operand.text x) (number_of y) p s h
operated side Mul (operand.list xs) y p q s h = repeats side (operand.list xs) (number_of y) p s h
operated side Mul (operand.tuple xs) y p q s h = repeats side (operand.tuple xs) (number_of y) p s h
operated side Mul x (operand.text y) p q s h = repeats side (operand.text y) (number_of x) q s h
operated side Mul x (operand.list ys) p q s h = repeats side (operand.list ys) (number_of x) q s h
operated side Mul x (operand.tuple ys) p q s h = repeats side (operand.tuple ys) (number_of x) q s h
operated side op x y p q s h = calculated op x y s h

pub binary_leaves : {k : Placed} (side : Side) (op : BinOp) (a b : Value)
    → Does k (Avoids k.at) (binary.binary side op a b)
binary_leaves {k} side op a b s h =
    operated side op (operand.operand s.store.heap a) (operand.operand s.store.heap b)
    (operand_avoids k.at s.store.heap h.others a) (operand_avoids k.at s.store.heap h.others b) s h

-- what is changed in place is what the value names
extends : {k : Placed} (a : Value) (at : Oid) (b : Value) → Avoids k.at a → IsOther k.at at
    → Does k (Avoids k.at) (inplace.extends a at b)
extends {k} a at b p other s h =
    bind (elements b s h) (λ vs q s h. charge (length vs) s h
    (λ s h. change a p s at (extended vs) other (extended_apart k.at vs q) h))

repeats_list : {k : Placed} (a : Value) (at : Oid) (xs : List Value) (n : Option ℤ) → Avoids k.at a → IsOther k.at at
    → Values k xs → Does k (Avoids k.at) (inplace.repeats_list a at xs n)
repeats_list {k} a at xs (Some n) p other q s h = charge ((binary.times n - 1) * length xs) s h
    (λ s h. change a p s at (with_elements (binary.repeated n xs)) other
    (elements_apart k.at (binary.repeated n xs) (each_repeat (Avoids k.at) (binary.times n) xs q)) h)
repeats_list a at xs None p other q s h = kept h tt

list_inplace : {k : Placed} (side : Side) (op : BinOp) (a : Value) (at : Oid) (xs : List Value) (b : Value)
    → Avoids k.at a → IsOther k.at at → Values k xs → Does k (Avoids k.at) (inplace.list_inplace side op a at xs b)
list_inplace side Add a at xs b p other q s h = extends a at b p other s h
list_inplace side Mul a at xs b p other q s h =
    repeats_list a at xs (number_of (operand.operand s.store.heap b)) p other q s h
list_inplace side op a at xs b p other q s h = binary_leaves side op a b s h

content_inplace : {k : Placed} (side : Side) (op : BinOp) (a : Value) (at : Oid) (c : Content) (b : Value)
    → Avoids k.at a → IsOther k.at at → ContentAvoids k.at c
    → Does k (Avoids k.at) (inplace.content_inplace side op a at c b)
content_inplace side op a at (object.list xs) b p other q s h = list_inplace side op a at xs b p other q s h
content_inplace side op a at c b p other q s h = binary_leaves side op a b s h

object_inplace : {k : Placed} (side : Side) (op : BinOp) (a : Value) (at : Oid) (b : Value) → Avoids k.at a
    → IsOther k.at at → Does k (Avoids k.at) (inplace.object_inplace side op a at b)
object_inplace {k} side op a at b p other s h =
    maybe (ContentAvoids k.at) (content_at s.store.heap at) (read_avoids k.at s.store.heap at h.others)
    (λ c q. content_inplace side op a at c b p other q s h) (binary_leaves side op a b s h)

pub inplace_leaves : {k : Placed} (side : Side) (op : BinOp) (a b : Value) → Avoids k.at a
    → Does k (Avoids k.at) (inplace.inplace side op a b)
inplace_leaves side op (value.Rock r) b p s h = binary_leaves side op (value.Rock r) b s h
inplace_leaves side op (value.Ref at) b p s h = object_inplace side op (value.Ref at) at b p p s h
inplace_leaves side op (value.Prox at) b p s h = object_inplace side op (value.Prox at) at b p p s h
