-- Arguments with stars and names, from what is known of those at hand.
use Rattle.std.proofs.Common.{◌≡◌, ◌≢◌, ◌≤◌, ◌<◌, ℕ, zero, suc, ◌+◌, ◌*◌, codes, List, [], ◌∷◌, ◌++◌, drop, length, map, reverse, take, Option, Some, None, Result, Err, refl, sym, ap, ◌∙◌, ◌⊎◌, inl, inr, add-zero, subst, arith}
use Rattle.std.specs.Prelude.{All, OnOk}
use Rattle.std.specs.Prelude.{slice_get}
use Rattle.std.proofs.lemmas.List.{append-nil, append_assoc, drop_all as past_all, length-reverse, reverse-append, reverse-reverse}
use Rattle.std.proofs.Math.Nat.{add-suc, suc-add}
use Rattle.rp_base.specs.declared.kind.Kind.TheVariants.{TypeError}
use Rattle.rp_base.specs.declared.value.Name.{Name}
use Rattle.rp_base.specs.declared.value.Oid.{Oid}
use Rattle.rp_base.specs.declared.value.OpEnd.{OpEnd}
use Rattle.rp_base.specs.declared.value.Rock.TheVariants as rock
use Rattle.rp_base.specs.declared.value.Side.{Side}
use Rattle.rp_base.specs.declared.value.Value.{Value}
use Rattle.rp_base.specs.declared.value.Value.TheVariants as value
use Rattle.rp_base.specs.declared.word.TheConstants.{CALL, ITER, ITEMS}
use Rattle.rp_frame.specs.Top.{top}
use Rattle.rp_meaning.specs.Binding.{Arguments, only}
use Rattle.rp_meaning.specs.Calls as calls
use Rattle.rp_meaning.specs.Calls.{Argument, entries_named, named_argument, plain_argument, star_argument, stars_argument, with_named, with_plain}
use Rattle.rp_meaning.specs.Expressions as forms
use Rattle.rp_meaning.specs.Frame.{Frame, Meaning, Run, got}
use Rattle.rp_meaning.specs.State.{State, Outcome, heap_of, plainly}
use Rattle.rp_meaning.proofs.Laws.{then_then}
use Rattle.rp_ops.specs.Outcome.{Raises, gives, on_value}
use Rattle.rp_ops.specs.Walk.{elements}
use Rattle.rp_proxy.specs.Taken.{taken}
use Rattle.rp_proxy.specs.declared.world.World.{World}
use Rattle.rp_access.specs.Calling.{IsCallRefused, IsCodeLeft}
use Rattle.rp_access.specs.Comes.{IsEnd}
use Rattle.rp_access.specs.Moment.{state_of}
use Rattle.rp_access.specs.Parts.{asking}
use Rattle.rp_access.specs.Spreading.{all_got, all_taken, got_through, spread, spread_named}
use Rattle.rp_access.proofs.Going.{IsEnd-same, IsEnd-then, gives-then, on_same, raises_end}
use Rattle.rp_engine.specs.ArgumentSteps.{arguments_at, known, named_in, sum_of, word_at, with_all, with_all_named, with_arguments, with_spread, with_spread_behind, with_spread_named}
use Rattle.rp_expressions.specs.Arguments.{Calls, NamedCalls}
use Rattle.rp_engine.specs.DefinitionSteps.{called}
use Rattle.rp_engine.specs.HandSteps.{held_by, size_of}
use Rattle.rp_engine.specs.Law.{frame_in, rest_of}
use Rattle.rp_engine.specs.Ready.{IsReady}
use Rattle.rp_engine.specs.Rest.{Held, gave, rest}
use Rattle.rp_engine.specs.declared.calling.Hand.{Hand}
use Rattle.rp_engine.specs.declared.halt.Halt.{Halt}
use Rattle.rp_engine.specs.declared.machine.Machine.{Machine}
use Rattle.rp_engine.specs.declared.units.Units.{Units}
use Rattle.rp_frame.specs.declared.activation.Activation.{Activation}
use Rattle.rp_store.specs.Kept.{AreFit, IsFit}
use Rattle.std.proofs.lemmas.List.Elements.{All-append, All-head, All-tail}
use Rattle.rp_engine.proofs.CodeCalls.{code_found}
use Rattle.rp_engine.proofs.Going.{asked_then}
use Rattle.rp_engine.proofs.Lasts.{fit_reversed}
use Rattle.rp_engine.proofs.Moves.{on_ok}

none_or_some : {A : Type 0} (o : Option A) → (o ≡ None) ⊎ ((a : A) × (o ≡ Some a))
none_or_some None = inl refl
none_or_some (Some a) = inr (a, refl)

-- one more argument, of any kind, is its expression first
module _ (A : Meaning → Argument) (is : (m : Meaning) (a : Arguments) (frame : Frame) (s : State) → A m a frame s ≡ on_value (m frame s) (λ v s. A (known v) a frame s)) where
  pub all_more : (as' : List Argument) (ts : List (Value → Meaning)) (f : Value) (m : Meaning) (a : Arguments) (frame : Frame) (s : State)
      → with_all (A m ∷ as') ts f a frame s ≡ on_value (m frame s) (λ v s. with_all (A (known v) ∷ as') ts f a frame s)
  all_more as' ts f m a frame s =
      ap (λ o. on_value (on_value (on_value o more) called) behind) (is m a frame s)
      ∙ ap (λ o. on_value (on_value o called) behind) (then_then (m frame s) one more)
      ∙ ap (λ o. on_value o behind) (then_then (m frame s) (λ v s. on_value (one v s) more) called)
      ∙ then_then (m frame s) (λ v s. on_value (on_value (one v s) more) called) behind where
        one : Value → State → Outcome Arguments
        one v s = A (known v) a frame s

        more : Arguments → State → Outcome Arguments
        more a s = calls.arguments as' a frame s

        called : Arguments → State → Outcome Value
        called a s = calls.call f a frame s

        behind : Value → State → Outcome Value
        behind w s = forms.trailers ts w frame s

pub stars_more : (as' : List Argument) (ts : List (Value → Meaning)) (f : Value) (m : Meaning) (a : Arguments) (frame : Frame) (s : State)
    → with_all (stars_argument m ∷ as') ts f a frame s ≡ on_value (m frame s) (λ v s. with_spread_named as' ts f a v frame s)
stars_more as' ts f m a frame s = all_more stars_argument (λ m a frame s. refl) as' ts f m a frame s

pub key_more : (name : Name) (as' : List Argument) (ts : List (Value → Meaning)) (f : Value) (m : Meaning) (a : Arguments) (frame : Frame) (s : State)
    → with_all (named_argument name m ∷ as') ts f a frame s ≡ on_value (m frame s) (λ v s. with_all (named_argument name (known v) ∷ as') ts f a frame s)
key_more name as' ts f m a frame s = all_more (named_argument name) (λ m a frame s. refl) as' ts f m a frame s

pub plain_more : (as' : List Argument) (ts : List (Value → Meaning)) (f : Value) (m : Meaning) (a : Arguments) (frame : Frame) (s : State)
    → with_all (plain_argument m ∷ as') ts f a frame s ≡ on_value (m frame s) (λ v s. with_all (plain_argument (known v) ∷ as') ts f a frame s)
plain_more as' ts f m a frame s = all_more plain_argument (λ m a frame s. refl) as' ts f m a frame s

pub spread_more : (as' : List Argument) (ts : List (Value → Meaning)) (f : Value) (m : Meaning) (a : Arguments) (frame : Frame) (s : State)
    → with_all (star_argument m ∷ as') ts f a frame s ≡ on_value (m frame s) (λ v s. with_spread_behind as' ts f a v frame s)
spread_more as' ts f m a frame s = all_more star_argument (λ m a frame s. refl) as' ts f m a frame s

-- what an argument adds is known
module _ (x : Argument) (as' : List Argument) (ts : List (Value → Meaning)) (f : Value) (a : Arguments) (frame : Frame) where
  pub added_then : (s : State) (o : Outcome Arguments) → x a frame s ≡ o → with_all (x ∷ as') ts f a frame s ≡ on_value o (λ a s. with_all as' ts f a frame s)
  added_then s o is =
      ap (λ o. on_value (on_value (on_value o more) called) behind) is
      ∙ ap (λ o. on_value o behind) (then_then o more called) ∙ then_then o (λ a s. on_value (more a s) called) behind where
        more : Arguments → State → Outcome Arguments
        more a s = calls.arguments as' a frame s

        called : Arguments → State → Outcome Value
        called a s = calls.call f a frame s

        behind : Value → State → Outcome Value
        behind w s = forms.trailers ts w frame s

-- what is spread, as it is decided
module _ (base : Run) (m : Machine) where
  star_is : (v : Value) (a : Arguments) (s : State) → star_argument (known v) a (frame_in base m) s ≡ on_value (spread m.frame.side v s) (λ us s. gives (with_plain a us) s)
  star_is v a s =
      asked_then base m.units.now m.frame ITER v s (λ s. on_value (plainly (elements v) s) (λ us s. gives (with_plain a (map (taken (heap_of s) m.frame.side) us)) s))
      ∙ sym (then_then (asking ITER v s) (λ _ s. on_value (plainly (elements v) s) (λ us s. all_taken m.frame.side us s)) (λ us s. gives (with_plain a us) s)
      ∙ on_same (asking ITER v s) _ _ (λ _ t. then_then (plainly (elements v) t) (λ us s. all_taken m.frame.side us s) (λ us s. gives (with_plain a us) s)))

  got_is : (from : Value) (ns : List (List ℕ × Value)) (s : State) → calls.got_named from ns (frame_in base m) s ≡ gives (map (got_through (heap_of s) m.frame.side from) ns) s
  got_is from [] s = refl
  got_is from (n ∷ ns) s = ap (λ o. on_value o (λ vs t. gives (got_through (heap_of s) m.frame.side from n ∷ vs) t)) (got_is from ns s)

  stars_is : (v : Value) (a : Arguments) (s : State) → stars_argument (known v) a (frame_in base m) s ≡ on_value (spread_named m.frame.side v s) (λ ns s. gives (with_named a ns) s)
  stars_is v a s =
      asked_then base m.units.now m.frame ITEMS v s _
      ∙ on_same (asking ITEMS v s) _ _ (λ _ t. elim (none_or_some (entries_named (heap_of t) v)) [
        | inl e ↦ rw e refl
        | inr h ↦ rw h.1 (ap (λ o. on_value o (λ ns s. gives (with_named a ns) s)) (got_is v h.0 t))
      ])
      ∙ sym (then_then (asking ITEMS v s) (λ _ s. all_got m.frame.side v (entries_named (heap_of s) v) s) (λ ns s. gives (with_named a ns) s))

module _ (m : Machine) (w u : World) (as' : List Argument) (ts : List (Value → Meaning)) (f : Value) (v : Value) where
  -- over arguments without a name
  pub behind_gives : (a : Arguments) (us : List Value) → spread m.frame.side v (state_of w) ≡ gives us (state_of u) → (base : Run)
      → with_spread_behind as' ts f a v (frame_in base m) (state_of w) ≡ with_all as' ts f (with_plain a us) (frame_in base m) (state_of u)
  behind_gives a us is base =
      added_then (star_argument (known v)) as' ts f a (frame_in base m) (state_of w) _
      (star_is base m v a (state_of w) ∙ gives-then us (state_of u) _ (λ us s. gives (with_plain a us) s) is)

  pub behind_ends : (a : Arguments) (e : OpEnd) → IsEnd e (state_of u) (spread m.frame.side v (state_of w)) → (base : Run)
      → IsEnd e (state_of u) (with_spread_behind as' ts f a v (frame_in base m) (state_of w))
  behind_ends a e is base =
      IsEnd-same e (state_of u) _ _ (added_then (star_argument (known v)) as' ts f a (frame_in base m) (state_of w) _ (star_is base m v a (state_of w)))
      (IsEnd-then e (state_of u) _ (λ a s. with_all as' ts f a (frame_in base m) s) (IsEnd-then e (state_of u) _ (λ us s. gives (with_plain a us) s) is))

  -- over arguments with names
  pub named_gives : (a : Arguments) (ns : List (List ℕ × Value)) → spread_named m.frame.side v (state_of w) ≡ gives ns (state_of u) → (base : Run)
      → with_spread_named as' ts f a v (frame_in base m) (state_of w) ≡ with_all as' ts f (with_named a ns) (frame_in base m) (state_of u)
  named_gives a ns is base =
      added_then (stars_argument (known v)) as' ts f a (frame_in base m) (state_of w) _
      (stars_is base m v a (state_of w) ∙ gives-then ns (state_of u) _ (λ ns s. gives (with_named a ns) s) is)

  pub named_ends : (a : Arguments) (e : OpEnd) → IsEnd e (state_of u) (spread_named m.frame.side v (state_of w)) → (base : Run)
      → IsEnd e (state_of u) (with_spread_named as' ts f a v (frame_in base m) (state_of w))
  named_ends a e is base =
      IsEnd-same e (state_of u) _ _ (added_then (stars_argument (known v)) as' ts f a (frame_in base m) (state_of w) _ (stars_is base m v a (state_of w)))
      (IsEnd-then e (state_of u) _ (λ a s. with_all as' ts f a (frame_in base m) s) (IsEnd-then e (state_of u) _ (λ ns s. gives (with_named a ns) s) is))

-- lists at hand

-- values put upon others
drop_front : {A : Type 0} (xs ys : List A) (k : ℕ) → drop (k + length xs) (xs ++ ys) ≡ drop k ys
drop_front [] ys k = ap (λ j. drop j ys) (add-zero k)
drop_front (x ∷ xs) ys k = rw (add-suc k (length xs)) (drop_front xs ys k)

take_front : {A : Type 0} (xs ys : List A) (k : ℕ) → take (k + length xs) (xs ++ ys) ≡ xs ++ take k ys
take_front [] ys k = ap (λ j. take j ys) (add-zero k)
take_front (x ∷ xs) ys k = rw (add-suc k (length xs)) (ap (λ zs. x ∷ zs) (take_front xs ys k))

-- the next name with its value
twice : (k : ℕ) → 2 * suc k ≡ suc (suc (2 * k))
twice k = omega arith

more_at : (n k : ℕ) (word : List ℕ) (v : Value) (vs : List Value)
    → arguments_at n (suc k) (v ∷ value.Rock (rock.Text word) ∷ vs) ≡ with_named (arguments_at n k vs) ((word, v) ∷ [])
more_at n k word v vs =
    let vs' : List Value = v ∷ value.Rock (rock.Text word) ∷ vs in
    let at : ℕ → Arguments = λ j. record { plain = reverse (take n (drop j vs')); named = named_in (take j vs') } in
    ap at (twice k)

sum_more : (n k : ℕ) → sum_of n (suc k) ≡ suc (suc (sum_of n k))
sum_more n k = omega arith

-- so many more
all_at : (n k : ℕ) (ns : List (List ℕ × Value)) (vs : List Value) → arguments_at n (k + length ns) (with_all_named ns vs) ≡ with_named (arguments_at n k vs) ns
all_at n k [] vs = ap (λ j. arguments_at n j vs) (add-zero k) ∙ ap (λ xs. record (arguments_at n k vs) { named = xs }) (sym (append-nil (arguments_at n k vs).named))
all_at n k (x ∷ ns) vs =
    ap (λ j. arguments_at n j (with_all_named ns (x.1 ∷ value.Rock (rock.Text x.0) ∷ vs))) (add-suc k (length ns) ∙ sym (suc-add k (length ns)))
    ∙ all_at n (suc k) ns (x.1 ∷ value.Rock (rock.Text x.0) ∷ vs)
    ∙ ap (λ a. with_named a ns) (more_at n k x.0 x.1 vs)
    ∙ ap (λ xs. record (arguments_at n k vs) { named = xs }) (append_assoc (arguments_at n k vs).named (x ∷ []) ns)

drop_all : (n k : ℕ) (ns : List (List ℕ × Value)) (vs : List Value) → drop (sum_of n (k + length ns)) (with_all_named ns vs) ≡ drop (sum_of n k) vs
drop_all n k [] vs = ap (λ j. drop (sum_of n j) vs) (add-zero k)
drop_all n k (x ∷ ns) vs =
    ap (λ j. drop (sum_of n j) (with_all_named ns (x.1 ∷ value.Rock (rock.Text x.0) ∷ vs))) (add-suc k (length ns) ∙ sym (suc-add k (length ns)))
    ∙ drop_all n (suc k) ns (x.1 ∷ value.Rock (rock.Text x.0) ∷ vs) ∙ ap (λ j. drop j (x.1 ∷ value.Rock (rock.Text x.0) ∷ vs)) (sum_more n k)

drop_next : (n k : ℕ) (v u : Value) (vs : List Value) → drop (sum_of n (suc k)) (v ∷ u ∷ vs) ≡ drop (sum_of n k) vs
drop_next n k v u vs = ap (λ j. drop j (v ∷ u ∷ vs)) (sum_more n k)

pub past : {A : Type 0} (k : ℕ) (xs : List A) → drop (suc k) xs ≡ drop 1 (drop k xs)
past zero xs = refl
past (suc k) [] = refl
past (suc k) (x ∷ xs) = past k xs

-- values that were spread stand upon the arguments
module _ (us vs : List Value) (i : ℕ) where
  pub dropped_spread : drop (i + length us) (reverse us ++ vs) ≡ drop i vs
  dropped_spread = ap (λ k. drop (i + k) (reverse us ++ vs)) (sym (length-reverse us)) ∙ drop_front (reverse us) vs i

  pub taken_spread : reverse (take (i + length us) (reverse us ++ vs)) ≡ reverse (take i vs) ++ us
  taken_spread =
      ap (λ k. reverse (take (i + k) (reverse us ++ vs))) (sym (length-reverse us)) ∙ ap reverse (take_front (reverse us) vs i)
      ∙ reverse-append (reverse us) (take i vs) ∙ ap (λ ys. reverse (take i vs) ++ ys) (reverse-reverse us)

-- what is left to be done, with so many values fewer
module _ (m n : Machine) (v : World) (r : Result (Unit {0}) Halt) (k : ℕ) where
  abbrev pub Left : (Run → Outcome Value) → Type 0
  Left o = (base : Run) → rest_of base n (state_of v) ≡ rest m.tasks (gave (frame_in base m) (drop k m.values) (o base))

  pub left_as : (o p : Run → Outcome Value) → ((base : Run) → o base ≡ p base) → OnOk r (Left p) → OnOk r (Left o)
  left_as o p same h = on_ok r (Left p) (Left o) (λ law base. law base ∙ ap (λ o. rest m.tasks (gave (frame_in base m) (drop k m.values) o)) (sym (same base))) h

  pub left_end : (o : Run → Outcome Value) (e : OpEnd) → ((base : Run) → IsEnd e (state_of v) (o base))
      → OnOk r ((base : Run) (s : State) (o : Outcome Value) → IsEnd e s o → rest_of base n s ≡ rest m.tasks (gave (frame_in base m) (drop k m.values) o)) → OnOk r (Left o)
  left_end o e is h = on_ok r ((base : Run) (s : State) (o : Outcome Value) → IsEnd e s o → rest_of base n s ≡ rest m.tasks (gave (frame_in base m) (drop k m.values) o)) (Left o)
      (λ law base. law base (state_of v) (o base) (is base)) h

-- a part is waited for
module _ (m n : Machine) (r : Result (Unit {0}) Halt) (as' : List Argument) (ts : List (Value → Meaning)) where
  abbrev pub Waits : ℕ → (Frame → State → Outcome Value) → Type 0
  Waits k o = (base : Run) (s : State) → rest_of base n s ≡ rest m.tasks (gave (frame_in base m) (drop (suc k) m.values) (o (frame_in base m) s))

  module _ (h : Hand) where
    abbrev pub callee : Value
    callee = top (drop (size_of h) m.values)

    abbrev pub hand : Arguments
    hand = held_by h m.values

    -- one with a name
    pub key_waits : (name : Name) (x : Meaning) (a : Argument) → a ≡ named_argument name x
        → OnOk r (Waits (size_of h) (λ f s. on_value (x f s) (λ v s. with_all (named_argument name (known v) ∷ as') ts callee hand f s)))
        → OnOk r ((w : World) → NamedCalls h (a ∷ as') ts m w n w)
    key_waits name x a is law = subst (λ (a : Argument). OnOk r ((w : World) → NamedCalls h (a ∷ as') ts m w n w)) (sym is)
        (on_ok r (Waits (size_of h) (λ f s. on_value (x f s) (λ v s. with_all (named_argument name (known v) ∷ as') ts callee hand f s))) ((w : World) → NamedCalls h (named_argument name x ∷ as') ts m w n w)
        (λ law w base. law base (state_of w) ∙ ap (λ o. rest m.tasks (gave (frame_in base m) (drop (suc (size_of h)) m.values) o))
        (sym (key_more name as' ts callee x hand (frame_in base m) (state_of w)))) law)

    -- one with two stars
    pub stars_waits : (x : Meaning) (a : Argument) → a ≡ stars_argument x
        → OnOk r (Waits (size_of h) (λ f s. on_value (x f s) (λ v s. with_spread_named as' ts callee hand v f s)))
        → OnOk r ((w : World) → NamedCalls h (a ∷ as') ts m w n w)
    stars_waits x a is law = subst (λ (a : Argument). OnOk r ((w : World) → NamedCalls h (a ∷ as') ts m w n w)) (sym is)
        (on_ok r (Waits (size_of h) (λ f s. on_value (x f s) (λ v s. with_spread_named as' ts callee hand v f s))) ((w : World) → NamedCalls h (stars_argument x ∷ as') ts m w n w)
        (λ law w base. law base (state_of w) ∙ ap (λ o. rest m.tasks (gave (frame_in base m) (drop (suc (size_of h)) m.values) o))
        (sym (stars_more as' ts callee x hand (frame_in base m) (state_of w)))) law)

    -- one without a name
    pub plain_waits : (x : Meaning) (a : Argument) → a ≡ plain_argument x
        → OnOk r (Waits (size_of h) (λ f s. on_value (x f s) (λ v s. with_all (plain_argument (known v) ∷ as') ts callee hand f s)))
        → OnOk r ((w : World) → NamedCalls h (a ∷ as') ts m w n w)
    plain_waits x a is law = subst (λ (a : Argument). OnOk r ((w : World) → NamedCalls h (a ∷ as') ts m w n w)) (sym is)
        (on_ok r (Waits (size_of h) (λ f s. on_value (x f s) (λ v s. with_all (plain_argument (known v) ∷ as') ts callee hand f s))) ((w : World) → NamedCalls h (plain_argument x ∷ as') ts m w n w)
        (λ law w base. law base (state_of w) ∙ ap (λ o. rest m.tasks (gave (frame_in base m) (drop (suc (size_of h)) m.values) o))
        (sym (plain_more as' ts callee x hand (frame_in base m) (state_of w)))) law)

    -- one with a star
    pub behind_waits : (x : Meaning) (a : Argument) → a ≡ star_argument x
        → OnOk r (Waits (size_of h) (λ f s. on_value (x f s) (λ v s. with_spread_behind as' ts callee hand v f s)))
        → OnOk r ((w : World) → NamedCalls h (a ∷ as') ts m w n w)
    behind_waits x a is law = subst (λ (a : Argument). OnOk r ((w : World) → NamedCalls h (a ∷ as') ts m w n w)) (sym is)
        (on_ok r (Waits (size_of h) (λ f s. on_value (x f s) (λ v s. with_spread_behind as' ts callee hand v f s))) ((w : World) → NamedCalls h (star_argument x ∷ as') ts m w n w)
        (λ law w base. law base (state_of w) ∙ ap (λ o. rest m.tasks (gave (frame_in base m) (drop (suc (size_of h)) m.values) o))
        (sym (spread_more as' ts callee x hand (frame_in base m) (state_of w)))) law)

-- no argument at hand has a name

abbrev pub plain_hand : ℕ → Hand
plain_hand i = record { plain = i; named = 0 }

pub size_plain : (i : ℕ) → sum_of i 0 ≡ i
size_plain i = omega arith

module _ (m : Machine) (i : ℕ) where
  pub plain_callee : top (drop (sum_of i 0) m.values) ≡ top (drop i m.values)
  plain_callee = ap (λ j. top (drop j m.values)) (size_plain i)

module _ (m n : Machine) (w v : World) (r : Result (Unit {0}) Halt) (as' : List Argument) (ts : List (Value → Meaning)) (i : ℕ) where
  pub plain_calls : OnOk r (NamedCalls (plain_hand i) as' ts m w n v) → OnOk r (Calls i as' ts m w n v)
  plain_calls h = on_ok r (NamedCalls (plain_hand i) as' ts m w n v) (Calls i as' ts m w n v)
      (λ law base. law base ∙ ap (λ j. rest m.tasks (gave (frame_in base m) (drop (suc j) m.values) (with_all as' ts (top (drop j m.values)) (only (reverse (take i m.values))) (frame_in base m) (state_of w))))
      (size_plain i)) h

  pub named_calls : OnOk r (Calls i as' ts m w n v) → OnOk r (NamedCalls (plain_hand i) as' ts m w n v)
  named_calls h = on_ok r (Calls i as' ts m w n v) (NamedCalls (plain_hand i) as' ts m w n v)
      (λ law base. law base ∙ ap (λ j. rest m.tasks (gave (frame_in base m) (drop (suc j) m.values) (with_all as' ts (top (drop j m.values)) (only (reverse (take i m.values))) (frame_in base m) (state_of w))))
      (sym (size_plain i))) h

-- a call has no value
pub plain_ends : (m n : Machine) (r : Result (Unit {0}) Halt) (i : ℕ) (e : OpEnd)
    → OnOk r ((base : Run) (s : State) (o : Outcome Value) → IsEnd e s o → rest_of base n s ≡ rest m.tasks (gave (frame_in base m) (drop (suc (sum_of i 0)) m.values) o))
    → OnOk r ((base : Run) (s : State) (o : Outcome Value) → IsEnd e s o → rest_of base n s ≡ rest m.tasks (gave (frame_in base m) (drop (suc i) m.values) o))
plain_ends m n r i e law =
    subst (λ (j : ℕ). OnOk r ((base : Run) (s : State) (o : Outcome Value) → IsEnd e s o → rest_of base n s ≡ rest m.tasks (gave (frame_in base m) (drop (suc j) m.values) o))) (size_plain i) law

-- tasks that wait for a part do the same, whether they count no argument with a name or count none
module _ (as' : List Argument) (ts : List (Value → Meaning)) (n k : ℕ) (none : k ≡ 0) (f : Frame) (vs : List Value) (o : Outcome Value) where
  pub first_plain : gave f (drop (suc n) vs) (on_value o (λ v s. with_arguments as' ts (top (drop n vs)) (reverse (take n vs) ++ v ∷ []) f s))
      ≡ gave f (drop (suc (sum_of n k)) vs) (on_value o (λ v s. with_all as' ts (top (drop (sum_of n k) vs)) (with_plain (arguments_at n k vs) (v ∷ [])) f s))
  first_plain =
      subst (λ (k : ℕ). gave f (drop (suc n) vs) (on_value o (λ v s. with_arguments as' ts (top (drop n vs)) (reverse (take n vs) ++ v ∷ []) f s))
      ≡ gave f (drop (suc (sum_of n k)) vs) (on_value o (λ v s. with_all as' ts (top (drop (sum_of n k) vs)) (with_plain (arguments_at n k vs) (v ∷ [])) f s))) (sym none)
      (ap (λ j. gave f (drop (suc j) vs) (on_value o (λ v s. with_all as' ts (top (drop j vs)) (only (reverse (take n vs) ++ v ∷ [])) f s))) (sym (size_plain n)))

  pub first_star : gave f (drop (suc n) vs) (on_value o (λ v s. with_spread as' ts (top (drop n vs)) (reverse (take n vs)) v f s))
      ≡ gave f (drop (suc (sum_of n k)) vs) (on_value o (λ v s. with_spread_behind as' ts (top (drop (sum_of n k) vs)) (arguments_at n k vs) v f s))
  first_star =
      subst (λ (k : ℕ). gave f (drop (suc n) vs) (on_value o (λ v s. with_spread as' ts (top (drop n vs)) (reverse (take n vs)) v f s))
      ≡ gave f (drop (suc (sum_of n k)) vs) (on_value o (λ v s. with_spread_behind as' ts (top (drop (sum_of n k) vs)) (arguments_at n k vs) v f s))) (sym none)
      (ap (λ j. gave f (drop (suc j) vs) (on_value o (λ v s. with_spread_behind as' ts (top (drop j vs)) (only (reverse (take n vs))) v f s))) (sym (size_plain n)))

-- a part is waited for by a task that does the same as another
pub waits_as : (m n : Machine) (r : Result (Unit {0}) Halt) (g h : Frame → List Value → Outcome Value → Held) → ((f : Frame) (vs : List Value) (o : Outcome Value) → g f vs o ≡ h f vs o) → (x : Meaning)
    → OnOk r ((base : Run) (s : State) → rest_of base n s ≡ rest m.tasks (g (frame_in base m) m.values (x (frame_in base m) s)))
    → OnOk r ((base : Run) (s : State) → rest_of base n s ≡ rest m.tasks (h (frame_in base m) m.values (x (frame_in base m) s)))
waits_as m n r g h same x law =
    on_ok r ((base : Run) (s : State) → rest_of base n s ≡ rest m.tasks (g (frame_in base m) m.values (x (frame_in base m) s)))
    ((base : Run) (s : State) → rest_of base n s ≡ rest m.tasks (h (frame_in base m) m.values (x (frame_in base m) s)))
    (λ law base s. law base s ∙ ap (rest m.tasks) (same (frame_in base m) m.values (x (frame_in base m) s))) law

-- more values are at hand
module _ (m n : Machine) (w v : World) (r : Result (Unit {0}) Halt) (as' : List Argument) (ts : List (Value → Meaning)) where
  -- those with names
  module _ (h : Hand) where
    abbrev pub Behind : List (List ℕ × Value) → Type 0
    Behind ns = Left m n v r (suc (size_of h)) (λ base. with_all as' ts (top (drop (size_of h) m.values)) (with_named (held_by h m.values) ns) (frame_in base m) (state_of w))

    pub named_held : (ns : List (List ℕ × Value)) (k : ℕ) (z : Machine) → k ≡ h.named + length ns → z ≡ record m { values = with_all_named ns m.values }
        → OnOk r (NamedCalls (record { plain = h.plain; named = k }) as' ts z w n v) → OnOk r (Behind ns)
    named_held ns k z counted held law =
        on_ok r (NamedCalls (record { plain = h.plain; named = h.named + length ns }) as' ts (record m { values = with_all_named ns m.values }) w n v) (Behind ns)
        (λ law base. law base
        ∙ ap (λ (xs : List Value). rest m.tasks (gave (frame_in base m) xs (with_all as' ts (top (drop (sum_of h.plain (h.named + length ns)) (with_all_named ns m.values))) (arguments_at h.plain (h.named + length ns) (with_all_named ns m.values)) (frame_in base m) (state_of w))))
        (past (sum_of h.plain (h.named + length ns)) (with_all_named ns m.values) ∙ ap (drop 1) (drop_all h.plain h.named ns m.values) ∙ sym (past (size_of h) m.values))
        ∙ ap (λ (xs : List Value). rest m.tasks (gave (frame_in base m) (drop (suc (size_of h)) m.values) (with_all as' ts (top xs) (arguments_at h.plain (h.named + length ns) (with_all_named ns m.values)) (frame_in base m) (state_of w))))
        (drop_all h.plain h.named ns m.values)
        ∙ ap (λ (a : Arguments). rest m.tasks (gave (frame_in base m) (drop (suc (size_of h)) m.values) (with_all as' ts (top (drop (size_of h) m.values)) a (frame_in base m) (state_of w)))) (all_at h.plain h.named ns m.values))
        (subst (λ (k : ℕ). OnOk r (NamedCalls (record { plain = h.plain; named = k }) as' ts (record m { values = with_all_named ns m.values }) w n v)) counted
        (subst (λ (z : Machine). OnOk r (NamedCalls (record { plain = h.plain; named = k }) as' ts z w n v)) held law))

-- a call is asked for, once it is decided
module _ (base : Run) (m : Machine) where
  found : Value → Oid → Arguments → State → Outcome Value
  found v at a s = on_value (calls.found_call at (slice_get (heap_of s) at.0) a (frame_in base m) s) (λ r s. got v r (frame_in base m) s)

  pub decided_named : (v : Value) (a : Arguments) (s t : State) → IsCodeLeft v s t → calls.call v a (frame_in base m) s ≡ called v a (frame_in base m) t
  unfolding found
  decided_named (value.Rock r) a s t left = absurd left
  decided_named (value.Ref at) a s t left = asked_then base m.units.now m.frame CALL (value.Ref at) s (found (value.Ref at) at a) ∙ gives-then (tt {0}) t _ (λ _ s. found (value.Ref at) at a s) left.0
      ∙ ap (λ o. on_value o (λ r s. got (value.Ref at) r (frame_in base m) s)) (code_found (heap_of t) at a (frame_in base m) t (slice_get (heap_of t) at.0) left.1)
  decided_named (value.Prox at) a s t left = asked_then base m.units.now m.frame CALL (value.Prox at) s (found (value.Prox at) at a) ∙ gives-then (tt {0}) t _ (λ _ s. found (value.Prox at) at a s) left.0
      ∙ ap (λ o. on_value o (λ r s. got (value.Prox at) r (frame_in base m) s)) (code_found (heap_of t) at a (frame_in base m) t (slice_get (heap_of t) at.0) left.1)

module _ (m n : Machine) (w u : World) (r : Result (Unit {0}) Halt) (h : Hand) (ts : List (Value → Meaning)) where
  abbrev called_at : Value
  called_at = top (drop (size_of h) m.values)

  pub named_asks : IsCodeLeft called_at (state_of w) (state_of u)
      → OnOk r ((base : Run) (s : State) → rest_of base n s ≡ rest m.tasks (gave (frame_in base m) (drop (suc (size_of h)) m.values)
      (on_value (called called_at (held_by h m.values) (frame_in base m) s) (λ w s. forms.trailers ts w (frame_in base m) s))))
      → OnOk r (NamedCalls h [] ts m w n u)
  named_asks left law = on_ok r
      ((base : Run) (s : State) → rest_of base n s ≡ rest m.tasks (gave (frame_in base m) (drop (suc (size_of h)) m.values)
      (on_value (called called_at (held_by h m.values) (frame_in base m) s) (λ w s. forms.trailers ts w (frame_in base m) s))))
      (NamedCalls h [] ts m w n u)
      (λ law base. law base (state_of u)
      ∙ ap (λ o. rest m.tasks (gave (frame_in base m) (drop (suc (size_of h)) m.values) (on_value o (λ w s. forms.trailers ts w (frame_in base m) s))))
      (sym (decided_named base m called_at (held_by h m.values) (state_of w) (state_of u) left))) law

  pub named_refused : (e : OpEnd) → IsCallRefused called_at (Err e) (state_of w) (state_of u) → (held_by h m.values).named ≢ []
      → OnOk r ((base : Run) (s : State) (o : Outcome Value) → IsEnd e s o → rest_of base n s ≡ rest m.tasks (gave (frame_in base m) (drop (suc (size_of h)) m.values) o))
      → OnOk r (NamedCalls h [] ts m w n u)
  named_refused e refused some law = on_ok r
      ((base : Run) (s : State) (o : Outcome Value) → IsEnd e s o → rest_of base n s ≡ rest m.tasks (gave (frame_in base m) (drop (suc (size_of h)) m.values) o))
      (NamedCalls h [] ts m w n u)
      (λ law base. law base (state_of u) _ (IsEnd-then e (state_of u) _ (λ w s. forms.trailers ts w (frame_in base m) s) (refused (held_by h m.values) (frame_in base m) some))) law

-- there are arguments with names

pushed_some : (xs : List (List ℕ × Value)) (x : List ℕ × Value) → xs ++ x ∷ [] ≢ []
pushed_some [] x = λ h. cc
pushed_some (y ∷ ys) x = λ h. cc

two_named : (k : ℕ) (v u : Value) (vs : List Value) → named_in (take (2 * suc k) (v ∷ u ∷ vs)) ≢ []
two_named k v u vs =
    let P : ℕ → Type 0 = λ j. named_in (take j (v ∷ u ∷ vs)) ≢ [] in
    subst P (sym (twice k)) (pushed_some (named_in (take (2 * k) vs)) (word_at u, v))

pub some_of : (k : ℕ) (vs : List Value) → k ≢ 0 → 2 ≤ length (take 2 vs) → named_in (take (2 * k) vs) ≢ []
some_of zero vs other two = absurd (other refl)
some_of (suc k) [] other two = absurd (omega (arith, two))
some_of (suc k) (v ∷ []) other two = absurd (omega (arith, two))
some_of (suc k) (v ∷ u ∷ vs) other two = two_named k v u vs

pub some_named : (h : Hand) (vs : List Value) → h.named ≢ 0 → 2 ≤ length (reverse (take 2 vs)) → (held_by h vs).named ≢ []
some_named h vs other two = some_of h.named vs other (subst (λ (k : ℕ). 2 ≤ k) (length-reverse (take 2 vs)) two)

-- where no two values are at hand there is no callee

nothing_under : (vs : List Value) (k : ℕ) → length (reverse (take 2 vs)) < 2 → 2 ≤ k → drop k vs ≡ []
nothing_under [] k few some = past_all k [] (omega arith)
nothing_under (v ∷ []) k few some = past_all k (v ∷ []) (omega (arith, some))
nothing_under (v ∷ u ∷ vs) k few some = absurd (omega (arith, few, length-reverse (v ∷ u ∷ [])))

pub nothing_called : (m n : Machine) (w : World) (r : Result (Unit {0}) Halt) (h : Hand) (ts : List (Value → Meaning)) (e : OpEnd) → h.named ≢ 0 → length (reverse (take 2 m.values)) < 2
    → Raises e (record { kind = TypeError; text = codes "call" })
    → OnOk r ((base : Run) (s : State) (o : Outcome Value) → IsEnd e s o → rest_of base n s ≡ rest m.tasks (gave (frame_in base m) (drop (suc (size_of h)) m.values) o))
    → OnOk r (NamedCalls h [] ts m w n w)
nothing_called m n w r h ts e other few raised law =
    let some : 1 ≤ h.named = omega (arith, other) in
    let size : 2 ≤ size_of h = omega (arith, some) in
    let nil : top (drop (size_of h) m.values) ≡ value.Rock rock.Nil = ap top (nothing_under m.values (size_of h) few size) in
    on_ok r ((base : Run) (s : State) (o : Outcome Value) → IsEnd e s o → rest_of base n s ≡ rest m.tasks (gave (frame_in base m) (drop (suc (size_of h)) m.values) o)) (NamedCalls h [] ts m w n w)
    (λ law base. law base (state_of w) _ (IsEnd-same e (state_of w) _ _ (ap (λ f. with_all [] ts f (held_by h m.values) (frame_in base m) (state_of w)) nil)
    (raises_end Value e (record { kind = TypeError; text = codes "call" }) (state_of w) raised))) law

-- values that are fit are put upon others
pub fit_added : (units : Units) (a : Activation) (vs us : List Value) (w : World) → AreFit w.store.heap a.side us → IsReady units a vs w → IsReady units a (reverse us ++ vs) w
fit_added units a vs us w fit h = record {
  faithful = h.faithful;
  scope = h.scope;
  fit = All-append (IsFit w.store.heap a.side) (reverse us) vs (fit_reversed w.store.heap a.side us fit) h.fit;
  indexed = h.indexed;
}

-- values with names are put at hand, one after another

pub kept_more : (m p q : Machine) (vs : List Value) → p ≡ record m { values = p.values } → q ≡ record p { values = vs } → q ≡ record m { values = q.values }
kept_more m p q vs before now =
    now ∙ ap (λ (z : Machine). record z { values = vs }) before ∙ ap (λ (xs : List Value). record m { values = xs }) (sym (ap (λ (z : Machine). z.values) now))

pub pair_more : (p q : Machine) (ns rest : List (List ℕ × Value)) (word : List ℕ) (v : Value) → ns ≡ (word, v) ∷ rest → q ≡ record p { values = v ∷ value.Rock (rock.Text word) ∷ p.values }
    → with_all_named rest q.values ≡ with_all_named ns p.values
pair_more p q ns rest word v steps now =
    ap (λ (z : Machine). with_all_named rest z.values) now ∙ ap (λ (xs : List (List ℕ × Value)). with_all_named xs p.values) (sym steps)

pub pair_ready : (m p q : Machine) (w : World) (ns rest : List (List ℕ × Value)) (word : List ℕ) (v : Value) → ns ≡ (word, v) ∷ rest → p ≡ record m { values = p.values }
    → (IsReady p.units.now p.frame p.values w → IsFit w.store.heap p.frame.side v → IsReady q.units.now q.frame q.values w)
    → IsReady p.units.now p.frame p.values w × All (λ n. IsFit w.store.heap m.frame.side n.1) ns
    → IsReady q.units.now q.frame q.values w × All (λ n. IsFit w.store.heap m.frame.side n.1) rest
pair_ready m p q w ns rest word v steps kept ready h =
    let Fit : List ℕ × Value → Type 0 = λ n. IsFit w.store.heap m.frame.side n.1 in
    let all : All Fit ((word, v) ∷ rest) = subst (All Fit) steps h.1 in
    (ready h.0 (subst (λ (side : Side). IsFit w.store.heap side v) (sym (ap (λ (z : Machine). z.frame.side) kept)) (All-head Fit (word, v) rest all)), All-tail Fit (word, v) rest all)

pub all_kept : (m p : Machine) (rest ns named : List (List ℕ × Value)) → rest ≡ [] → ns ≡ named → p ≡ record m { values = p.values }
    → with_all_named rest p.values ≡ with_all_named ns m.values → p ≡ record m { values = with_all_named named m.values }
all_kept m p rest ns named none is kept held =
    kept ∙ ap (λ (vs : List Value). record m { values = vs })
    (sym (ap (λ (xs : List (List ℕ × Value)). with_all_named xs p.values) none) ∙ held ∙ ap (λ (xs : List (List ℕ × Value)). with_all_named xs m.values) is)
