-- The names of declared classes stay among a world's names over plain operators, also where they are done in place.
use Rattle.std.proofs.Common.{ℕ, ◌+◌, ◌*◌, ◌-◌, ℤ, Bool, List, [], ◌∷◌, ◌++◌, length, map, Option, Some, None, Result, Ok, Err}
use Rattle.std.specs.Prelude.{encode_utf8_all, nat_lt}
use Rattle.std.specs.Option.{option_map_or}
use Rattle.std.proofs.lemmas.List.Elements.{All-append, All-cons, All-nil}
use Rattle.rp_base.specs.declared.operator.BinOp.{BinOp}
use Rattle.rp_base.specs.declared.operator.BinOp.TheVariants as op
use Rattle.rp_base.specs.declared.value.Oid.{Oid}
use Rattle.rp_base.specs.declared.value.Raised.{Raised}
use Rattle.rp_base.specs.declared.value.Rock.{Rock}
use Rattle.rp_base.specs.declared.value.Rock.TheVariants as rock
use Rattle.rp_base.specs.declared.value.Side.{Side}
use Rattle.rp_base.specs.declared.value.Value.{Value}
use Rattle.rp_base.specs.declared.value.Value.TheVariants as value
use Rattle.rp_ops.specs.Binary as binary
use Rattle.rp_ops.specs.Inplace as inplace
use Rattle.rp_ops.specs.Numbers.{computed}
use Rattle.rp_ops.specs.Operand.{Operand, text, list, tuple, lent, number_of, operand}
use Rattle.rp_ops.specs.Outcome as plain
use Rattle.rp_ops.specs.Outcome.{charged, ends, gives, makes, no_cell, on_value, with_change}
use Rattle.rp_ops.specs.Walk as walk
use Rattle.rp_proxy.specs.Held.{AreNamed, IsNamed}
use Rattle.rp_store.specs.Cost.{cost}
use Rattle.rp_store.specs.Heap.{Owned, content_at}
use Rattle.rp_store.specs.Object as object
use Rattle.rp_store.specs.Object.{Content}
use Rattle.rp_store.specs.Store.{made}
use Rattle.rp_store.specs.Writers.{extended, with_elements}
use Rattle.rp_access.proofs.Naming.{Named, charged_named, changed_named, if_named, list_named, stepped_named, then_named}

module _ (names : List (List ℕ)) where
  abbrev Holds : Owned → Type 0
  Holds o = IsNamed names o.content

  -- what is made

  text_named : (t : List ℕ) (s : plain.State) → AreNamed names s.store.heap → Named names (binary.new_text t s)
  text_named t s h = charged_named names (length (encode_utf8_all t)) s (gives (value.Rock (rock.Text t))) h (λ u k. k)

  made_named : (side : Side) (c : Content) (s : plain.State) → IsNamed names c → AreNamed names s.store.heap → Named names (binary.new_object side c s)
  made_named side c s is h =
      then_named names (makes side c s) (λ at s. gives (value.Ref at) s)
      (if_named names (nat_lt s.store.limit (s.store.used + cost c)) (ends no_cell s) (gives (record { 0 = length s.store.heap }) (record s { store = made s.store side c })) h
      (All-append Holds s.store.heap (record { owner = side; content = c } ∷ []) h (All-cons Holds (record { owner = side; content = c }) [] is (All-nil Holds))))
      (λ at t k. k)

  number_named : (r : Result ℤ Raised) (s : plain.State) → AreNamed names s.store.heap → Named names (binary.number_value r s)
  number_named (Ok n) s h = h
  number_named (Err e) s h = h

  arithmetic_named : (o : BinOp) (x y : Option ℤ) (s : plain.State) → AreNamed names s.store.heap → Named names (binary.arithmetic o x y s)
  arithmetic_named o (Some x) (Some y) s h = number_named (computed o x y) s h
  arithmetic_named o (Some x) None s h = h
  arithmetic_named o None (Some y) s h = h
  arithmetic_named o None None s h = h

  truth_named : (b : Option Bool) (other : plain.Outcome Value) (s : plain.State) → AreNamed names s.store.heap → Named names other → Named names (binary.truth_value b other s)
  truth_named (Some b) other s h k = h
  truth_named None other s h k = k

  calculated_named : (o : BinOp) (x y : Operand) (s : plain.State) → AreNamed names s.store.heap → Named names (binary.calculated o x y s)
  calculated_named o x y s h =
      truth_named (binary.logical_of o x y) (binary.arithmetic o (number_of x) (number_of y) s) s h (arithmetic_named o (number_of x) (number_of y) s h)

  repeats_named : (side : Side) (x : Operand) (n : Option ℤ) (s : plain.State) → AreNamed names s.store.heap → Named names (binary.repeats side x n s)
  repeats_named side (text t) (Some n) s h = text_named (binary.repeated n t) s h
  repeats_named side (list xs) (Some n) s h = made_named side (object.list (binary.repeated n xs)) s tt h
  repeats_named side (tuple xs) (Some n) s h = made_named side (object.tuple (binary.repeated n xs)) s tt h
  repeats_named side _ _ s h = h

  operated_named : (side : Side) (o : BinOp) (x y : Operand) (s : plain.State) → AreNamed names s.store.heap → Named names (binary.operated side o x y s)
  operated_named side op.Add (text x) (text y) s h = text_named (x ++ y) s h
  operated_named side op.Add (list xs) (list ys) s h = made_named side (object.list (xs ++ ys)) s tt h
  operated_named side op.Add (tuple xs) (tuple ys) s h = made_named side (object.tuple (xs ++ ys)) s tt h
  operated_named side op.Mul (text x) y s h = repeats_named side (text x) (number_of y) s h
  operated_named side op.Mul (list xs) y s h = repeats_named side (list xs) (number_of y) s h
  operated_named side op.Mul (tuple xs) y s h = repeats_named side (tuple xs) (number_of y) s h
  operated_named side op.Mul x (text y) s h = repeats_named side (text y) (number_of x) s h
  operated_named side op.Mul x (list ys) s h = repeats_named side (list ys) (number_of x) s h
  operated_named side op.Mul x (tuple ys) s h = repeats_named side (tuple ys) (number_of x) s h
  operated_named side o x y s h = calculated_named o x y s h

  binary_named : (side : Side) (o : BinOp) (a b : Value) (s : plain.State) → AreNamed names s.store.heap → Named names (binary.binary side o a b s)
  binary_named side o a b s h = operated_named side o (operand s.store.heap a) (operand s.store.heap b) s h

  -- what is walked

  walked_named : (vs : List Value) (s : plain.State) → AreNamed names s.store.heap → Named names (walk.walked vs s)
  walked_named [] s h = h
  walked_named (v ∷ vs) s h =
      stepped_named names s (λ s. on_value (walk.walked vs s) (λ us s. gives (v ∷ us) s)) h
      (λ t k. then_named names (walk.walked vs t) (λ us s. gives (v ∷ us) s) (walked_named vs t k) (λ us u j. j))

  spelled_named : (cs : List ℕ) (s : plain.State) → AreNamed names s.store.heap → Named names (walk.spelled_out cs s)
  spelled_named [] s h = h
  spelled_named (c ∷ cs) s h =
      stepped_named names s (λ s. on_value (binary.new_text (c ∷ []) s) (λ v s. on_value (walk.spelled_out cs s) (λ vs s. gives (v ∷ vs) s))) h
      (λ t k. then_named names (binary.new_text (c ∷ []) t) (λ v s. on_value (walk.spelled_out cs s) (λ vs s. gives (v ∷ vs) s)) (text_named (c ∷ []) t k)
      (λ v u j. then_named names (walk.spelled_out cs u) (λ vs s. gives (v ∷ vs) s) (spelled_named cs u j) (λ vs x i. i)))

  content_named : (seen : Value → Value) (c : Content) (s : plain.State) → AreNamed names s.store.heap → Named names (walk.content_elements seen c s)
  content_named seen (object.list xs) s h = walked_named (map seen xs) s h
  content_named seen (object.tuple xs) s h = walked_named (map seen xs) s h
  content_named seen (object.dict es) s h = walked_named (map (λ e. value.Rock e.1.0) es) s h
  content_named seen _ s h = h

  held_elements : (seen : Value → Value) (c : Option Content) (s : plain.State) → AreNamed names s.store.heap
      → Named names (option_map_or (λ c. walk.content_elements seen c s) c (walk.not_walked s))
  held_elements seen None s h = h
  held_elements seen (Some c) s h = content_named seen c s h

  rock_named : (r : Rock) (s : plain.State) → AreNamed names s.store.heap → Named names (walk.rock_elements r s)
  rock_named (rock.Text t) s h = spelled_named t s h
  rock_named _ s h = h

  elements_named : (a : Value) (s : plain.State) → AreNamed names s.store.heap → Named names (walk.elements a s)
  elements_named (value.Rock r) s h = rock_named r s h
  elements_named (value.Ref at) s h = held_elements (λ v. v) (content_at s.store.heap at) s h
  elements_named (value.Prox at) s h = held_elements lent (content_at s.store.heap at) s h

  -- what is done in place

  extends_named : (a : Value) (at : Oid) (b : Value) (s : plain.State) → AreNamed names s.store.heap → Named names (inplace.extends a at b s)
  extends_named a at b s h =
      then_named names (walk.elements b s) (λ vs s. charged (length vs) s (λ s. gives a (with_change s at (extended vs)))) (elements_named b s h)
      (λ vs t k. charged_named names (length vs) t (λ s. gives a (with_change s at (extended vs))) k
      (λ u j. changed_named names (extended vs) (list_named names (λ xs. xs ++ vs)) u.store.heap at.0 j))

  grows_named : (a : Value) (at : Oid) (xs : List Value) (n : Option ℤ) (s : plain.State) → AreNamed names s.store.heap → Named names (inplace.repeats_list a at xs n s)
  grows_named a at xs (Some n) s h =
      charged_named names ((binary.times n - 1) * length xs) s (λ s. gives a (with_change s at (with_elements (binary.repeated n xs)))) h
      (λ t k. changed_named names (with_elements (binary.repeated n xs)) (list_named names (λ ys. binary.repeated n xs)) t.store.heap at.0 k)
  grows_named a at xs None s h = h

  listed_named : (side : Side) (o : BinOp) (a : Value) (at : Oid) (xs : List Value) (b : Value) (s : plain.State) → AreNamed names s.store.heap
      → Named names (inplace.list_inplace side o a at xs b s)
  listed_named side op.Add a at xs b s h = extends_named a at b s h
  listed_named side op.Mul a at xs b s h = grows_named a at xs (number_of (operand s.store.heap b)) s h
  listed_named side o a at xs b s h = binary_named side o a b s h

  content_inplace : (side : Side) (o : BinOp) (a : Value) (at : Oid) (c : Content) (b : Value) (s : plain.State) → AreNamed names s.store.heap
      → Named names (inplace.content_inplace side o a at c b s)
  content_inplace side o a at (object.list xs) b s h = listed_named side o a at xs b s h
  content_inplace side o a at _ b s h = binary_named side o a b s h

  held_inplace : (side : Side) (o : BinOp) (a : Value) (at : Oid) (c : Option Content) (b : Value) (s : plain.State) → AreNamed names s.store.heap
      → Named names (option_map_or (λ c. inplace.content_inplace side o a at c b s) c (binary.binary side o a b s))
  held_inplace side o a at None b s h = binary_named side o a b s h
  held_inplace side o a at (Some c) b s h = content_inplace side o a at c b s h

  pub inplace_named : (side : Side) (o : BinOp) (a b : Value) (s : plain.State) → AreNamed names s.store.heap → Named names (inplace.inplace side o a b s)
  inplace_named side o (value.Rock r) b s h = binary_named side o (value.Rock r) b s h
  inplace_named side o (value.Ref at) b s h = held_inplace side o (value.Ref at) at (content_at s.store.heap at) b s h
  inplace_named side o (value.Prox at) b s h = held_inplace side o (value.Prox at) at (content_at s.store.heap at) b s h
