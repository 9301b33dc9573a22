-- Plain operations add no step where their parts add none.
use Rattle.std.proofs.Common.{◌≤◌, ℕ, zero, suc, ◌+◌, Bool, true, false, if◌then◌else◌, Option, Some, None}
use Rattle.std.proofs.Common.{Result, Ok, Err}
use Rattle.std.proofs.Math.Nat.{le-suc, le_trans}
use Rattle.std.specs.Prelude.{nat_lt}
use Rattle.std.specs.Option.{option_map_or}
use Rattle.rp_base.specs.declared.value.Oid.{Oid}
use Rattle.rp_base.specs.declared.value.Raised.{Raised}
use Rattle.rp_base.specs.declared.value.Side.{Side}
use Rattle.rp_ops.specs.Depth.{nested}
use Rattle.rp_ops.specs.Outcome as plain
use Rattle.rp_ops.specs.Outcome.{End, ends, gives, no_cell, on_answer, on_found, on_value, with_used}
use Rattle.rp_store.specs.Cost.{cost}
use Rattle.rp_store.specs.Object.{Content}

-- at most so many are left
abbrev pub There : ℕ → plain.State → Type 0
There k s = s.steps ≤ k

-- and behind an operation
pub record Leaves {A : Type 0} (k : ℕ) (o : plain.Outcome A) : Type 0 where
  pub steps : There k o.state

abbrev pub Does : {A : Type 0} → ℕ → (plain.State → plain.Outcome A) → Type 0
Does k does = (s : plain.State) → There k s → Leaves k (does s)

pub kept : {A : Type 0} {k : ℕ} {o : plain.Outcome A} → There k o.state → Leaves k o
kept h = record { steps = h }

-- what gives a value takes no step
pub kept_giving : {A : Type 0} {k : ℕ} (a : A) → Does k (gives a)
kept_giving a s h = kept h

pub bind : {A B : Type 0} {k : ℕ} {o : plain.Outcome A} {go : A → plain.State → plain.Outcome B}
    → Leaves k o → ((a : A) → Does k (go a)) → Leaves k (on_value o go)
bind {A} {B} {k} {o} {go} h more = by o.answer
  where
    by : (answer : Result A End) → Leaves k (on_answer answer o.state go)
    by (Ok a) = more a o.state h.steps
    by (Err e) = kept h.steps

pub found : {A B : Type 0} {k : ℕ} {go : A → plain.State → plain.Outcome B} (r : Result A Raised) (s : plain.State)
    → There k s → ((a : A) → Does k (go a)) → Leaves k (on_found r s go)
found {A} {B} {k} {go} r s h more = by r
  where
    by : (r : Result A Raised) → Leaves k (on_found r s go)
    by (Ok a) = more a s h
    by (Err e) = kept h

-- by what there may be
pub maybe : {X A : Type 0} {k : ℕ} {f : X → plain.Outcome A} {d : plain.Outcome A} (x : Option X)
    → ((y : X) → Leaves k (f y)) → Leaves k d → Leaves k (option_map_or f x d)
maybe None some none = none
maybe (Some y) some none = some y

pub chosen : {A : Type 0} {k : ℕ} {x y : plain.Outcome A} (b : Bool) → Leaves k x → Leaves k y
    → Leaves k (if b then x else y)
chosen true h i = h
chosen false h i = i

-- as deep as it goes
abbrev pub OnSome : {X : Type 0} → (X → Type 0) → Option X → Type 0
OnSome P None = Unit {0}
OnSome P (Some x) = P x

pub within : {X A : Type 0} {k : ℕ} {go : X → plain.Outcome A} (P : X → Type 0) (x : Option X) (s : plain.State)
    → OnSome P x → There k s → ((y : X) → P y → Leaves k (go y)) → Leaves k (nested x s go)
within P None s i h more = kept h
within P (Some y) s i h more = more y i

pub step : {A : Type 0} {k : ℕ} {go : plain.State → plain.Outcome A} (s : plain.State) → There k s → Does k go
    → Leaves k (plain.stepped s go)
step {A} {k} {go} s h more = by s.steps h
  where
    by : (n : ℕ) → n ≤ k → Leaves k (plain.stepped (record s { steps = n }) go)
    by zero h = kept h
    by (suc n) h = more (record s { steps = n }) (le_trans (le-suc n) h)

pub charge : {A : Type 0} {k : ℕ} {go : plain.State → plain.Outcome A} (cells : ℕ) (s : plain.State) → There k s
    → Does k go → Leaves k (plain.charged cells s go)
charge {A} {k} {go} cells s h more = by (nat_lt s.store.limit (s.store.used + cells))
  where
    by : (b : Bool) → Leaves k (if b then ends no_cell s else go (with_used s (s.store.used + cells)))
    by true = kept h
    by false = more (with_used s (s.store.used + cells)) h

pub makes : {k : ℕ} (side : Side) (content : Content) (s : plain.State) → There k s
    → Leaves k (plain.makes side content s)
makes side content s h = chosen (nat_lt s.store.limit (s.store.used + cost content)) (kept h) (kept h)

-- an object is changed
pub change : {A : Type 0} {k : ℕ} (a : A) (s : plain.State) (at : Oid) (f : Content → Content) → There k s
    → Leaves k (gives a (plain.with_change s at f))
change a s at f h = kept h
