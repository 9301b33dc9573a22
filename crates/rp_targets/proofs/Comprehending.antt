-- Comprehensions, from what is known of a part: what the code does is what their forms of rp_meaning do.
use Rattle.std.proofs.Common.{◌≡◌, ℕ, Bool, true, false, List, [], ◌∷◌, Result, Ok, Err, is_ok, refl, sym, ap, ◌∙◌}
use Rattle.std.specs.Prelude.{if◌then◌else◌, codes, length, nat_lt, ◌+◌}
use Rattle.rp_base.specs.declared.kind.Kind.TheVariants.{TypeError}
use Rattle.rp_base.specs.declared.value.Oid.{Oid}
use Rattle.rp_base.specs.declared.value.OpEnd.{OpEnd}
use Rattle.rp_base.specs.declared.value.Side.{Side}
use Rattle.rp_base.specs.declared.value.Value.{Value}
use Rattle.rp_base.specs.declared.value.Value.TheVariants as value
use Rattle.rp_base.specs.declared.word.TheConstants.{ITER}
use Rattle.rp_frame.specs.declared.spot.Made.{Made}
use Rattle.rp_frame.specs.declared.spot.Made.TheVariants as made
use Rattle.rp_items.specs.Items as items
use Rattle.rp_meaning.specs.Expressions as forms
use Rattle.rp_meaning.specs.Expressions.{Clause}
use Rattle.rp_meaning.specs.Frame.{Doing, Meaning, Run, layouts_of}
use Rattle.rp_meaning.specs.State.{State, Outcome, done, heap_of, lifted, makes, plainly}
use Rattle.rp_meaning.specs.Statements as stmt_forms
use Rattle.rp_meaning.specs.Walks.{walk}
use Rattle.rp_ops.specs.Outcome as plain
use Rattle.rp_ops.specs.Outcome.{End, Raises, ends, gives, no_cell, on_found, on_value, raises, with_change, with_used}
use Rattle.rp_ops.specs.Walk.{Cursor, walk_of}
use Rattle.rp_proxy.specs.declared.world.World.{World}
use Rattle.rp_store.specs.Object.{Content}
use Rattle.rp_store.specs.Writers.{pushed}
use Rattle.rp_access.specs.Adding.{element_put}
use Rattle.rp_access.specs.Comes.{Comes, IsEnd}
use Rattle.rp_access.specs.Moment.{state_of}
use Rattle.rp_access.specs.Parts.{step_end}
use Rattle.rp_access.specs.Spots.{walk_asked}
use Rattle.rp_access.proofs.Going.{IsEnd-same, IsEnd-then, gives-then, raises_end}
use Rattle.rp_engine.specs.ComprehensionSteps.{HasNoItems, Result as TheResult, comprehension_in, comprehension_of, comprehension_over, display_of, does_made, element_added, entry_added, place_at, turns_within}
use Rattle.rp_engine.specs.DisplaySteps.{makes_display, makes_of}
use Rattle.rp_engine.specs.Law.{frame_in}
use Rattle.rp_engine.specs.declared.machine.Machine.{Machine}
use Rattle.rp_engine.proofs.Going.{asked_then}

-- a comprehension by its first clause, those behind it, and what it makes
module _ (m : Machine) (w u : World) (block : ℕ) (c : Clause) (cs : List Clause) (r : TheResult) where
  -- its step
  pub comprehension_gives : (x : Meaning) → c.of ≡ x → step_end (state_of w) ≡ gives (tt {0}) (state_of u) → (base : Run)
      → forms.comprehension block (c ∷ cs) r.0 r.1 (frame_in base m) (state_of w)
      ≡ on_value (x (frame_in base m) (state_of u)) (λ v s. comprehension_of block c cs r v (frame_in base m) s)
  comprehension_gives x is taken base =
      gives-then (tt {0}) (state_of u) _ (λ _ s. on_value (c.of (frame_in base m) s) (λ v s. comprehension_of block c cs r v (frame_in base m) s)) taken
      ∙ ap (λ (x : Meaning). on_value (x (frame_in base m) (state_of u)) (λ v s. comprehension_of block c cs r v (frame_in base m) s)) is

  pub comprehension_ends : (e : OpEnd) → IsEnd e (state_of u) (step_end (state_of w)) → (base : Run)
      → IsEnd e (state_of u) (forms.comprehension block (c ∷ cs) r.0 r.1 (frame_in base m) (state_of w))
  comprehension_ends e is base =
      IsEnd-then e (state_of u) _ (λ _ s. on_value (c.of (frame_in base m) s) (λ v s. comprehension_of block c cs r v (frame_in base m) s)) is

  -- the walk
  walk_is : (v : Value) (base : Run) → walk v (frame_in base m) (state_of w) ≡ walk_asked v (state_of w)
  walk_is v base = asked_then base m.units.now m.frame ITER v (state_of w) (λ s. on_found (walk_of (heap_of s) v) s gives)

  pub walk_gives : (v : Value) (d : Cursor) → walk_asked v (state_of w) ≡ gives d (state_of u) → (base : Run)
      → comprehension_of block c cs r v (frame_in base m) (state_of w) ≡ comprehension_over block c cs r d (frame_in base m) (state_of u)
  walk_gives v d is base = gives-then d (state_of u) _ (λ d s. comprehension_over block c cs r d (frame_in base m) s) (walk_is v base ∙ is)

  pub walk_ends : (v : Value) (e : OpEnd) → IsEnd e (state_of u) (walk_asked v (state_of w)) → (base : Run)
      → IsEnd e (state_of u) (comprehension_of block c cs r v (frame_in base m) (state_of w))
  walk_ends v e is base =
      IsEnd-then e (state_of u) _ (λ d s. comprehension_over block c cs r d (frame_in base m) s) (IsEnd-same e (state_of u) _ _ (walk_is v base) is)

  -- the scope
  abbrev pub Scope : Result Oid OpEnd → Type 0
  Scope a = (base : Run) → Comes a (state_of u)
      (forms.new_scope block (frame_in base m) (forms.empty_slots (length ((layouts_of (frame_in base m)).locals block))) (state_of w))

  pub scope_gives : (d : Cursor) (at : Oid) → Scope (Ok at) → (base : Run)
      → comprehension_over block c cs r d (frame_in base m) (state_of w) ≡ comprehension_in block c cs r d at (frame_in base m) (state_of u)
  scope_gives d at is base = gives-then at (state_of u) _ (λ at s. comprehension_in block c cs r d at (frame_in base m) s) (is base)

  pub scope_ends : (d : Cursor) (e : OpEnd) → Scope (Err e) → (base : Run)
      → IsEnd e (state_of u) (comprehension_over block c cs r d (frame_in base m) (state_of w))
  scope_ends d e is base = IsEnd-then e (state_of u) _ (λ at s. comprehension_in block c cs r d at (frame_in base m) s) (is base)

-- what is made, by the value that refers to it

placed_of : (r : Result Oid End) (s : State) → record { answer = r; state = s }
    ≡ on_value (on_value (record { answer = r; state = s }) (λ at s. gives (value.Ref at) s)) (λ v s. gives (place_at v) s)
placed_of (Ok at) s = refl
placed_of (Err e) s = refl

makes_placed : (side : Side) (x : Content) (s : State) → makes side x s ≡ on_value (makes_of side x s) (λ v s. gives (place_at v) s)
makes_placed side x s = placed_of (makes side x s).answer (makes side x s).state

display_is : (x : Made) (side : Side) (s : State) → makes_of side (does_made x).0 s ≡ makes_display side (display_of x) [] s
display_is (made.List x) side s = refl
display_is (made.Dict k x) side s = refl

made_is : (x : Made) (side : Side) (s : State) → makes side (does_made x).0 s ≡ on_value (makes_display side (display_of x) [] s) (λ v s. gives (place_at v) s)
made_is x side s = makes_placed side (does_made x).0 s ∙ ap (λ o. on_value o (λ v s. gives (place_at v) s)) (display_is x side s)

-- it is a plain reference

abbrev refers : Result Value End → Bool
refers (Ok (value.Ref at)) = true
refers _ = false

never : (v : Value) → false ≡ true → refers (Ok v) ≡ true
never v is = absurd (cc)

placed_refers : (r : Result Oid End) (s t : State) (v : Value) → on_value (record { answer = r; state = s }) (λ at s. gives (value.Ref at) s) ≡ gives v t
    → refers (Ok v) ≡ true
placed_refers (Ok at) s t v is = sym (ap (λ (o : Outcome Value). refers o.answer) is)
placed_refers (Err e) s t v is = never v (ap (λ (o : Outcome Value). is_ok o.answer) is)

placed_holds : (P : Value → Type 0) (v : Value) → refers (Ok v) ≡ true → P v → P (value.Ref (place_at v))
placed_holds P (value.Ref at) is h = h
placed_holds P (value.Prox at) is h = let k : false ≡ true = is in absurd (cc)
placed_holds P (value.Rock r) is h = let k : false ≡ true = is in absurd (cc)

-- so what is known of the value is known of the reference to its place
pub result_holds : (x : Made) (side : Side) (s t : State) (v : Value) (P : Value → Type 0) → makes_display side (display_of x) [] s ≡ gives v t → P v → P (value.Ref (place_at v))
result_holds x side s t v P is =
    placed_holds P v (placed_refers (makes side (does_made x).0 s).answer (makes side (does_made x).0 s).state t v (display_is x side s ∙ is))

module _ (m : Machine) (w u : World) (block : ℕ) (c : Clause) (cs : List Clause) (x : Made) (d : Cursor) (scope : Oid) where
  pub result_gives : (v : Value) → makes_display m.frame.side (display_of x) [] (state_of w) ≡ gives v (state_of u) → (base : Run)
      → comprehension_in block c cs (does_made x) d scope (frame_in base m) (state_of w)
      ≡ turns_within block c cs (does_made x).1 d scope (place_at v) (frame_in base m) (state_of u)
  result_gives v is base =
      gives-then (place_at v) (state_of u) _ (λ at s. turns_within block c cs (does_made x).1 d scope at (frame_in base m) s)
      (made_is x m.frame.side (state_of w) ∙ gives-then v (state_of u) _ (λ v s. gives (place_at v) s) is)

  pub result_ends : (e : OpEnd) → IsEnd e (state_of u) (makes_display m.frame.side (display_of x) [] (state_of w)) → (base : Run)
      → IsEnd e (state_of u) (comprehension_in block c cs (does_made x) d scope (frame_in base m) (state_of w))
  result_ends e is base =
      IsEnd-then e (state_of u) _ (λ at s. turns_within block c cs (does_made x).1 d scope at (frame_in base m) s)
      (IsEnd-same e (state_of u) _ _ (made_is x m.frame.side (state_of w)) (IsEnd-then e (state_of u) _ (λ v s. gives (place_at v) s) is))

-- a later clause is a loop
pub nest_is : (c : Clause) (cs : List Clause) (inside : Doing) → forms.nest (c ∷ cs) inside ≡ stmt_forms.for c.of c.bind (forms.where_all c.tests (forms.nest cs inside))
nest_is c cs inside = refl

-- an element is added

put_by : (b : Bool) (at : Oid) (v : Value) (s : State)
    → on_value (plainly (λ p. if b then ends no_cell p else gives (tt {0}) (with_used p (p.store.used + 1))) s) (λ _ s. done (record s { plain = with_change s.plain at (pushed v) }))
    ≡ on_value (plainly (λ p. if b then ends no_cell p else gives (tt {0}) (with_change (with_used p (p.store.used + 1)) at (pushed v))) s) (λ _ s. done s)
put_by true at v s = refl
put_by false at v s = refl

pub element_is : (m : Machine) (base : Run) (at : Oid) (v : Value) (s : State) → element_added at v (frame_in base m) s ≡ on_value (element_put at v s) (λ _ s. done s)
element_is m base at v s = put_by (nat_lt s.plain.store.limit (s.plain.store.used + 1)) at v s

module _ (m : Machine) (w u : World) (at : Oid) (v : Value) where
  pub element_gives : element_put at v (state_of w) ≡ gives (tt {0}) (state_of u) → (base : Run) → element_added at v (frame_in base m) (state_of w) ≡ done (state_of u)
  element_gives is base = element_is m base at v (state_of w) ∙ gives-then (tt {0}) (state_of u) _ (λ _ s. done s) is

  pub element_ends : (e : OpEnd) → IsEnd e (state_of u) (element_put at v (state_of w)) → (base : Run) → IsEnd e (state_of u) (element_added at v (frame_in base m) (state_of w))
  element_ends e is base = IsEnd-same e (state_of u) _ _ (element_is m base at v (state_of w)) (IsEnd-then e (state_of u) _ (λ _ s. done s) is)

  -- or an entry
  pub entry_gives : (k : Value) → plainly (items.set_item (value.Ref at) k v) (state_of w) ≡ gives (tt {0}) (state_of u) → (base : Run)
      → entry_added at k v (frame_in base m) (state_of w) ≡ done (state_of u)
  entry_gives k is base = gives-then (tt {0}) (state_of u) _ (λ _ s. done s) is

  pub entry_ends : (k : Value) (e : OpEnd) → IsEnd e (state_of u) (plainly (items.set_item (value.Ref at) k v) (state_of w)) → (base : Run)
      → IsEnd e (state_of u) (entry_added at k v (frame_in base m) (state_of w))
  entry_ends k e is base = IsEnd-then e (state_of u) _ (λ _ s. done s) is

-- or nothing that stands there has items
pub entry_refused : (m : Machine) (w : World) (at : Oid) (v k : Value) (e : OpEnd) → Raises e (record { kind = TypeError; text = codes "item" })
    → HasNoItems w.store.heap at → (base : Run) → IsEnd e (state_of w) (entry_added at k v (frame_in base m) (state_of w))
entry_refused m w at v k e is none base =
    entry_ends m w w at v k e (IsEnd-same e (state_of w) (plainly (items.set_item (value.Ref at) k v) (state_of w)) (raises TypeError (codes "item") (state_of w))
    (ap (λ (o : plain.Outcome (Unit {0})). lifted o (state_of w)) (none k v (state_of w).plain refl)) (raises_end (Unit {0}) e (record { kind = TypeError; text = codes "item" }) (state_of w) is)) base
