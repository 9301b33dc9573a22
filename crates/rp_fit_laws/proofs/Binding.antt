-- What arguments are bound to is a value for each parameter.
use Rattle.std.proofs.Common.{◌≡◌, refl, ap, subst, ◌∙◌, ℕ, suc, ◌+◌, List, [], ◌∷◌, ◌++◌}
use Rattle.std.proofs.Common.{length, map, drop, is_some, Option, Some, None, Result, Ok, Err, arith}
use Rattle.std.proofs.lemmas.List.{length-append, length-map}
use Rattle.std.specs.Option.{option_map_or}
use Rattle.rp_base.specs.declared.value.Side.{Side}
use Rattle.rp_base.specs.declared.value.Value.{Value}
use Rattle.rp_calls.specs.Binding as calls
use Rattle.rp_calls.specs.Binding.{Parameter, filled, no_binding, put, slot_made}
use Rattle.rp_ops.specs.Binary.{new_object}
use Rattle.rp_ops.specs.Outcome.{End, Outcome, State, gives, on_answer, on_value}
use Rattle.rp_store.specs.Object as object
use Rattle.rp_store.specs.Object.{Content, Entries}
use Rattle.rp_tree.specs.Expressions as tree
use Rattle.rp_meaning.specs.Binding.{Arguments, all_made, bind, offered, plain_names}
use Rattle.rp_apart_laws.specs.Apart.{OnSome, OnValue}
use Rattle.rp_fit_laws.specs.Programs.{count_of, plain_count, star_count}

abbrev Slots : Type 0
Slots = List (Option Value)

-- so many slots
abbrev Many : ℕ → Slots → Type 0
Many n vs = length vs ≡ n

offered_count : (names : List (List ℕ)) (ps : tree.Plain) (args defaults : List Value)
    → length (offered names ps args defaults) ≡ plain_count ps
offered_count names tree.no_plain args defaults = refl
offered_count names (tree.plain n x ps) args defaults = ap suc (offered_count names ps (drop 1 args) _)

filled_count : (ps : List Parameter) (named : List (List ℕ × Value))
    → OnSome (λ (vs : List Value). length vs ≡ length ps) (filled ps named)
filled_count [] named = refl
filled_count (p ∷ ps) named = by (calls.value_of p named) (filled ps named) (filled_count ps named) where
  by : (v : Option Value) (vs : Option (List Value)) → OnSome (λ (vs : List Value). length vs ≡ length ps) vs
      → OnSome (λ (vs : List Value). length vs ≡ suc (length ps)) (put v vs)
  by None vs h = tt
  by (Some v) None h = tt
  by (Some v) (Some vs) h = ap suc h

-- of what is given
on_each : {A B : Type 0} (P : A → Type 0) (Q : B → Type 0) (o : Outcome A) (go : A → State → Outcome B)
    → OnValue P o.answer → ((a : A) (s : State) → P a → OnValue Q (go a s).answer) → OnValue Q (on_value o go).answer
on_each {A} {B} P Q o go h more = by o.answer h where
  by : (answer : Result A End) → OnValue P answer → OnValue Q (on_answer answer o.state go).answer
  by (Ok a) h = more a o.state h
  by (Err e) h = tt

any_value : {A : Type 0} (r : Result A End) → OnValue (λ a. Unit {0}) r
any_value (Ok a) = tt
any_value (Err e) = tt

slot_count : {A : Type 0} (star : Option A) (side : Side) (c : Content) (vs : Slots) (s : State) (n : ℕ) → Many n vs
    → OnValue (Many (n + star_count star)) (slot_made (is_some star) side c vs s).answer
slot_count None side c vs s n h = omega (arith, h)
slot_count (Some x) side c vs s n h =
    on_each (λ (v : Value). Unit {0}) (Many (n + 1)) (new_object side c s) (λ v s. gives (vs ++ Some v ∷ []) s)
    (any_value (new_object side c s).answer)
    (λ v s u. let l = length-append vs (Some v ∷ []) in omega (arith, l, h))

made_count : {A B : Type 0} (side : Side) (list : Option A) (dict : Option B) (values rest : List Value) (es : Entries)
    (s : State) → OnValue (Many (length values + star_count list + star_count dict))
    (all_made side (is_some list) (is_some dict) values rest es s).answer
made_count side list dict values rest es s =
    on_each (Many (length values + star_count list)) (Many (length values + star_count list + star_count dict))
    (slot_made (is_some list) side (object.tuple rest) (map Some values) s)
    (λ slots s. slot_made (is_some dict) side (object.dict es) slots s)
    (slot_count list side (object.tuple rest) (map Some values) s (length values) (length-map values Some))
    (λ slots s h. slot_count dict side (object.dict es) slots s (length values + star_count list) h)

-- by what there may be
by_found : {X A : Type 0} (P : A → Type 0) (f : X → Outcome A) (o : Option X) (s : State)
    → ((x : X) → o ≡ Some x → OnValue P (f x).answer) → OnValue P (option_map_or f o (no_binding s)).answer
by_found P f None s more = tt
by_found P f (Some x) s more = more x refl

pub bound_count : (side : Side) (names : List (List ℕ)) (ps : tree.Params) (defaults : List Value) (a : Arguments)
    (s : State) → OnValue (λ (vs : Slots). length vs ≡ count_of ps) (bind side names ps defaults a s).answer
bound_count side names (tree.params ps list dict) defaults a s =
    by_found P (λ rest. option_map_or (λ values. option_map_or (λ es.
    all_made side (is_some list) (is_some dict) values rest es s) (entries) (no_binding s)) (values_for) (no_binding s))
    (calls.elements_for (is_some list) (length (plain_names ps)) a.plain) s (λ rest e.
    by_found P (λ values. option_map_or (λ es.
    all_made side (is_some list) (is_some dict) values rest es s) (entries) (no_binding s)) (values_for) s (λ values f.
    by_found P (λ es. all_made side (is_some list) (is_some dict) values rest es s) entries s (λ es i.
    subst (λ (n : ℕ). OnValue (Many (n + star_count list + star_count dict))
    (all_made side (is_some list) (is_some dict) values rest es s).answer) (as_many values f)
    (made_count side list dict values rest es s))))
  where
    P : Slots → Type 0
    P vs = length vs ≡ plain_count ps + star_count list + star_count dict

    entries : Option Entries
    entries = calls.entries_for (is_some dict) names (plain_names ps) a.named

    values_for : Option (List Value)
    values_for = filled (offered names ps a.plain defaults) a.named

    as_many : (values : List Value) → values_for ≡ Some values → length values ≡ plain_count ps
    as_many values f =
        subst (OnSome (λ (vs : List Value). length vs ≡ length (offered names ps a.plain defaults))) f
        (filled_count (offered names ps a.plain defaults) a.named)
        ∙ offered_count names ps a.plain defaults
