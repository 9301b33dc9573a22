-- Operators and comparisons on whole numbers: what the code computes where it needs them is what the forms of rp_meaning mean.
use Rattle.std.proofs.Common.{◌≡◌, ℕ, zero, suc, ℤ, Bool, true, false, List, [], ◌∷◌, Some, Ok, refl, ap, ◌∙◌}
use Rattle.std.specs.Prelude.{nat_eq, if◌then◌else◌}
use Rattle.rp_base.specs.Names.{word_of}
use Rattle.rp_base.specs.declared.operator.BinOp.{BinOp}
use Rattle.rp_base.specs.declared.operator.BinOp.TheVariants.{Add, Sub, Mul, FloorDiv, Mod, Pow, BitAnd, BitOr, BitXor, LShift, RShift}
use Rattle.rp_base.specs.declared.operator.CmpOp.{CmpOp}
use Rattle.rp_base.specs.declared.operator.CmpOp.TheVariants.{Lt, Le, Gt, Ge, Eq, Ne}
use Rattle.rp_base.specs.declared.value.Name.{Name}
use Rattle.rp_base.specs.declared.value.Side.{Side}
use Rattle.rp_base.specs.declared.value.Value.{Value}
use Rattle.rp_frame.specs.declared.activation.Activation.{Activation}
use Rattle.rp_meaning.specs.Expressions as forms
use Rattle.rp_meaning.specs.Frame.{Frame, Meaning, Run, layouts_of, place_of, read_name}
use Rattle.rp_meaning.specs.Operators.{operate, tested}
use Rattle.rp_meaning.specs.Scopes.{Place, local, outer, global, held, slot_at, value_at}
use Rattle.rp_meaning.specs.State.{State, Outcome, choose, heap_of, lifted, stepped}
use Rattle.rp_meaning.proofs.Laws.{then_then}
use Rattle.rp_ops.specs.Binary.{binary, number_value}
use Rattle.rp_ops.specs.Numbers.{computed}
use Rattle.rp_ops.specs.Outcome as plain
use Rattle.rp_ops.specs.Outcome.{gives, on_value}
use Rattle.rp_proxy.specs.Taken.{taken}
use Rattle.rp_store.specs.Heap.{Owned}
use Rattle.rp_tree.specs.declared.parts.Test.TheVariants as test
use Rattle.rp_access.specs.Parts.{step_end}
use Rattle.rp_engine.proofs.Going.{operate_is}
use Rattle.rp_engine.specs.Moment.{frame_of, run_of}
use Rattle.rp_engine.specs.NumberSteps.{compared, in_three, int, truth}
use Rattle.rp_engine.specs.declared.units.Units.{Units}

-- a step keeps the objects, so what goes on alike where they are goes on alike behind it
pub stepped_same : {A : Type 0} (s : State) (go more : State → Outcome A) → ((t : State) → heap_of t ≡ heap_of s → go t ≡ more t) → stepped s go ≡ stepped s more
stepped_same s go more same = by s.plain.steps where
  by : (n : ℕ) → stepped (record s { plain = record s.plain { steps = n } }) go ≡ stepped (record s { plain = record s.plain { steps = n } }) more
  by zero = refl
  by (suc n) = same (record s { plain = record s.plain { steps = n } }) refl

-- a value with its step is gone on with
step_then : {A B : Type 0} (a : A) (s : State) (go : A → State → Outcome B) → on_value (stepped s (gives a)) go ≡ stepped s (go a)
step_then a s go = then_then (step_end s) (λ _ s. gives a s) go

module _ (f : Frame) (heap : List Owned) (m n : Meaning) (a b v : Value) (left : (s : State) → heap_of s ≡ heap → m f s ≡ stepped s (gives a))
    (right : (s : State) → heap_of s ≡ heap → n f s ≡ stepped s (gives b)) where
  -- what is done with two operands, the second one behind a step
  pub with_both : (go : Value → Value → State → Outcome Value) → ((s : State) → go a b s ≡ gives v s) → (s : State) → heap_of s ≡ heap
      → on_value (m f s) (λ x s. stepped s (λ s. on_value (n f s) (go x))) ≡ in_three v s
  with_both go is s same =
      ap (λ o. on_value o (λ x s. stepped s (λ s. on_value (n f s) (go x)))) (left s same)
      ∙ step_then a s (λ x s. stepped s (λ s. on_value (n f s) (go x)))
      ∙ stepped_same s (λ s. stepped s (λ s. on_value (n f s) (go a))) (λ s. stepped s (λ s. stepped s (gives v)))
      (λ t e. stepped_same t (λ s. on_value (n f s) (go a)) (λ s. stepped s (gives v))
      (λ r d. ap (λ o. on_value o (go a)) (right r (d ∙ e ∙ same)) ∙ step_then b r (go a) ∙ stepped_same r (go a b) (gives v) (λ q c. is q)))

-- an operator on two numbers

binary_is : (side : Side) (op : BinOp) (x y : ℤ) (p : plain.State) → binary side op (int x) (int y) p ≡ number_value (computed op x y) p
binary_is side Add x y p = refl
binary_is side Sub x y p = refl
binary_is side Mul x y p = refl
binary_is side FloorDiv x y p = refl
binary_is side Mod x y p = refl
binary_is side Pow x y p = refl
binary_is side BitAnd x y p = refl
binary_is side BitOr x y p = refl
binary_is side BitXor x y p = refl
binary_is side LShift x y p = refl
binary_is side RShift x y p = refl

int_taken : (heap : List Owned) (side : Side) (x : ℤ) → taken heap side (int x) ≡ int x
int_taken heap side x = by (nat_eq side.0 0) where
  by : (b : Bool) → (if b then int x else int x) ≡ int x
  by true = refl
  by false = refl

module _ (base : Run) (units : Units) (at : Activation) where
  abbrev frame : Frame
  frame = frame_of (run_of base units) at

  operate_gives : (op : BinOp) (x y z : ℤ) → computed op x y ≡ Ok z → (s : State) → operate op (int x) (int y) frame s ≡ gives (int z) s
  operate_gives op x y z is s =
      operate_is base units at op (int x) (int y) s
      ∙ ap (λ o. on_value (lifted o s) (λ v s. gives (taken (heap_of s) at.side v) s)) (binary_is at.side op x y s.plain ∙ ap (λ r. number_value r s.plain) is)
      ∙ ap (λ v. gives v s) (int_taken (heap_of s) at.side z)

  pub chain_is : (heap : List Owned) (m n : Meaning) (op : BinOp) (x y z : ℤ) → ((s : State) → heap_of s ≡ heap → m frame s ≡ stepped s (gives (int x)))
      → ((s : State) → heap_of s ≡ heap → n frame s ≡ stepped s (gives (int y))) → computed op x y ≡ Ok z → (s : State) → heap_of s ≡ heap
      → forms.chain m ((op, n) ∷ []) frame s ≡ in_three (int z) s
  chain_is heap m n op x y z left right is s same =
      with_both frame heap m n (int x) (int y) (int z) left right (λ a b s. on_value (operate op a b frame s) (λ v s. gives v s))
      (λ s. ap (λ o. on_value o (λ v s. gives v s)) (operate_gives op x y z is s)) s same

  -- a comparison of two numbers

  compare_is : (op : CmpOp) (x y : ℤ) (s : State) → tested (test.Order op) (int x) (int y) frame s ≡ gives (compared op x y) s
  compare_is Lt x y s = refl
  compare_is Le x y s = refl
  compare_is Gt x y s = refl
  compare_is Ge x y s = refl
  compare_is Eq x y s = refl
  compare_is Ne x y s = refl

  chosen : (b : Bool) (s : State) → choose b (gives (truth true)) (gives (truth false)) s ≡ gives (truth b) s
  chosen true s = refl
  chosen false s = refl

  pub order_is : (heap : List Owned) (m n : Meaning) (op : CmpOp) (x y : ℤ) → ((s : State) → heap_of s ≡ heap → m frame s ≡ stepped s (gives (int x)))
      → ((s : State) → heap_of s ≡ heap → n frame s ≡ stepped s (gives (int y))) → (s : State) → heap_of s ≡ heap
      → forms.compare m ((test.Order op, n) ∷ []) frame s ≡ in_three (truth (compared op x y)) s
  order_is heap m n op x y left right s same =
      with_both frame heap m n (int x) (int y) (truth (compared op x y)) left right
      (λ a b s. on_value (tested (test.Order op) a b frame s) (λ r s. choose r (gives (truth true)) (gives (truth false)) s))
      (λ s. ap (λ o. on_value o (λ r s. choose r (gives (truth true)) (gives (truth false)) s)) (compare_is op x y s) ∙ chosen (compared op x y) s) s same

-- a name that is bound

value_bound : (side : Side) (place : Place) (v : Value) (word : List ℕ) (s : State) → value_at side place (Some v) word s ≡ gives v s
value_bound side (local i) v word s = refl
value_bound side (outer n i) v word s = refl
value_bound side global v word s = refl

pub name_read : (f : Frame) (name : Name) (heap : List Owned) (v : Value) → held heap (slot_at (layouts_of f) heap f.scope (place_of f name) name) ≡ Some v
    → (s : State) → heap_of s ≡ heap → forms.name name f s ≡ stepped s (gives v)
name_read f name heap v is s same = stepped_same s (read_name name f) (gives v) (λ t e.
    ap (λ (heap : List Owned). value_at f.side (place_of f name) (held heap (slot_at (layouts_of f) heap f.scope (place_of f name) name)) (word_of t.names name) t) (e ∙ same)
    ∙ ap (λ o. value_at f.side (place_of f name) o (word_of t.names name) t) is
    ∙ value_bound f.side (place_of f name) v (word_of t.names name) t)
