-- What holds of everything, and of each of some elements, or of what there may be, where more holds.
use Rattle.std.proofs.Common.{ℕ, List, [], ◌∷◌, Option, Some, None}
use Rattle.std.specs.Option.{option_map_or}
use Rattle.rp_base.specs.declared.value.Value.{Value}
use Rattle.rp_base.specs.declared.value.Value.TheVariants as value
use Rattle.rp_store.specs.declared.object.Callee.{Callee}
use Rattle.rp_store.specs.declared.object.Callee.TheVariants as callee
use Rattle.rp_meaning.specs.Blocks.{Code, def, lambda, of_expr, of_stmts}
use Rattle.rp_apart_laws.specs.Apart.{Each, OnSome}
use Rattle.rp_keeper_laws.specs.Blocks.{CodeHas}
use Rattle.rp_keeper_laws.specs.Keepers.{CalleeRefers, Refers}

-- ---- nothing is asked

pub any_value : (v : Value) → Refers (λ at. Unit {0}) v
any_value (value.Rock r) = tt
any_value (value.Ref at) = tt
any_value (value.Prox at) = tt

pub any_callee : (c : Callee) → CalleeRefers (λ at. Unit {0}) c
any_callee (callee.Function at) = tt
any_callee (callee.Native id) = tt

pub any_some : {A : Type 0} (o : Option A) → OnSome (λ a. Unit {0}) o
any_some None = tt
any_some (Some a) = tt

pub any_each : {A : Type 0} (xs : List A) → Each (λ a. Unit {0}) xs
any_each [] = tt
any_each (x ∷ xs) = (tt, any_each xs)

pub any_code : (number : ℕ) (code : Code) → CodeHas (λ e. Unit {0}) (λ b. Unit {0}) number code
any_code number (def ps b) = record { functions = any_each (of_stmts b); blocks = any_each _ }
any_code number (lambda ps x) = record { functions = any_each (of_expr x); blocks = any_each _ }

-- ---- more holds

pub each_more : {A : Type 0} (P Q : A → Type 0) → ((x : A) → P x → Q x) → (xs : List A) → Each P xs → Each Q xs
each_more P Q f [] h = tt
each_more P Q f (x ∷ xs) h = (f x h.0, each_more P Q f xs h.1)

pub some_more : {A : Type 0} (P Q : A → Type 0) → ((x : A) → P x → Q x) → (o : Option A) → OnSome P o → OnSome Q o
some_more P Q f None h = tt
some_more P Q f (Some x) h = f x h

-- of what is read, whatever there is
pub read_on : {X A : Type 0} (P : X → Type 0) (Q : A → Type 0) (f : X → A) (d : A) (o : Option X) → OnSome P o
    → ((x : X) → P x → Q (f x)) → Q d → Q (option_map_or f o d)
read_on P Q f d None h some none = none
read_on P Q f d (Some x) h some none = some x h
