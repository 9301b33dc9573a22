-- What is known before the code of a function runs.
use Rattle.std.proofs.Common.{◌≡◌, ◌≢◌, ◌<◌, ◌+◌, ◌-◌, length, replicate, ℕ, zero, suc, Bool, true, false, List, [], ◌∷◌, ◌++◌, map, take, get_or, Option, Some, None, Result, Ok, Err, refl, sym, ap, ◌∙◌, subst, nat_eq, if◌then◌else◌}
use Rattle.std.specs.Prelude.{All, IfSome, OnErr, OnOk}
use Rattle.std.specs.Option.{option_map, option_map_or}
use Rattle.rp_base.specs.declared.value.Name.{Name}
use Rattle.rp_base.specs.declared.value.Oid.{Oid}
use Rattle.rp_base.specs.declared.value.OpEnd.{OpEnd}
use Rattle.rp_base.specs.declared.value.OpEnd.TheVariants as end
use Rattle.rp_base.specs.declared.value.Rock.{Rock}
use Rattle.rp_base.specs.declared.value.Side.{Side}
use Rattle.rp_base.specs.declared.value.Value.{Value}
use Rattle.rp_base.specs.declared.value.Value.TheVariants as value
use Rattle.rp_calls.specs.Binding as calls
use Rattle.rp_calls.specs.View.{AreSlotsSound, slots_of}
use Rattle.std.specs.declared.alloc.Global.{Global}
use Rattle.std.specs.declared.vec.Vec.{Vec}
use Rattle.rp_meaning.specs.Binding.{Arguments, bind, only}
use Rattle.rp_meaning.specs.Running.{slots_taken}
use Rattle.rp_meaning.specs.State.{State, Outcome, heap_of, lifted, makes, plainly}
use Rattle.rp_meaning.proofs.BindingLaws.{bind_seen}
use Rattle.rp_ops.specs.Outcome as plain
use Rattle.rp_ops.specs.Outcome.{End, Meets, gives, on_answer, on_value}
use Rattle.rp_proxy.proofs.LaterStores.{with_store, IsFaithful-stored}
use Rattle.rp_proxy.specs.Faithful.{IsFaithful}
use Rattle.rp_proxy.specs.Held.{AreNamed, IsNamed}
use Rattle.rp_proxy.specs.Taken.{taken, taken_by_script}
use Rattle.rp_proxy.specs.declared.world.World.{World}
use Rattle.rp_store.specs.Heap.{Owned, owner_at}
use Rattle.rp_store.specs.Kept.{AreFit, AreSound, IsFit, IsSound}
use Rattle.rp_store.specs.declared.key.Key.{Key}
use Rattle.rp_store.specs.Object as object
use Rattle.rp_store.specs.Object.{Content, Entries}
use Rattle.rp_store.specs.Store.{Cells, made}
use Rattle.rp_tree.specs.Expressions.{Params as PureParams}
use Rattle.rp_tree.specs.declared.expr.Params.{Params}
use Rattle.rp_tree.specs.ExpressionViews.{view_params}
use Rattle.rp_access.specs.Comes.{Comes, IsEnd}
use Rattle.rp_enter.specs.Entering.{AreNamedSound, AreSlotsFit, entered, entered_with, filled_to, scope_made}
use Rattle.rp_access.specs.Moment.{state_of}
use Rattle.std.proofs.lemmas.Bool.{eq-eqb, eqb-true}
use Rattle.std.proofs.lemmas.List.{append_assoc, map-append, replicate_more, take_more}
use Rattle.std.proofs.lemmas.List.Elements.{All-append, All-cons, All-get_or, All-head, All-nil, All-push, All-tail, All-weaker}
use Rattle.rp_access.proofs.Going.{Comes-lifted, Comes-same, IsEnd-then, gives-then}
use Rattle.rp_access.proofs.Namings.{new_named}

abbrev Slots : Type 0
Slots = List (Option Value)

-- the binding of the code is that of the meaning
pub bound_comes : (w : World) (store : Cells) (r : Result Slots OpEnd) (side : Side) (ps : Params) (defaults args : List Value) (named : List (List ℕ × Value))
    → Meets r (plain.state_of store w.running.meter.left) (calls.bind side w.names ps defaults args named (plain.state_of w.store w.running.meter.left))
    → Comes r (state_of (with_store w store)) (plainly (bind side w.names (view_params ps) defaults (record { plain = args; named = named })) (state_of w))
bound_comes w store r side ps defaults args named is =
    Comes-same r (state_of (with_store w store)) _ _ (ap (λ o. lifted o (state_of w)) (bind_seen side w.names ps defaults (record { plain = args; named = named }) (plain.state_of w.store w.running.meter.left)))
    (Comes-lifted r (state_of w) (plain.state_of store w.running.meter.left) (calls.bind side w.names ps defaults args named (plain.state_of w.store w.running.meter.left)) is)

-- no class is made
module _ (names : List (List ℕ)) where
  abbrev Stays : {A : Type 0} → plain.Outcome A → Type 0
  Stays o = AreNamed names o.state.store.heap

  gives_named : {A B : Type 0} (o : plain.Outcome A) (f : A → B) → Stays o → Stays (on_value o (λ a s. gives (f a) s))
  gives_named o f h = by o.answer where
    by : (r : Result _ End) → AreNamed names (on_answer r o.state (λ a s. gives (f a) s)).state.store.heap
    by (Ok a) = h
    by (Err e) = h

  slot_named : (made : Bool) (side : Side) (c : Content) (slots : Slots) (s : plain.State) → IsNamed names c → AreNamed names s.store.heap → Stays (calls.slot_made made side c slots s)
  slot_named true side c slots s is h = gives_named _ (λ v. slots ++ Some v ∷ []) (new_named names side c s is h)
  slot_named false side c slots s is h = h

  made_named : (side : Side) (ps : Params) (slots : Slots) (rest : List Value) (es : List (Key × (Rock × Value))) (s : plain.State) → AreNamed names s.store.heap → Stays (calls.all_made side ps slots rest es s)
  made_named side ps slots rest es s h = by (calls.slot_made (calls.has_list ps) side (object.tuple rest) slots s) (slot_named (calls.has_list ps) side (object.tuple rest) slots s tt h) where
    by : (o : plain.Outcome Slots) → Stays o → Stays (on_value o (λ slots s. calls.slot_made (calls.has_dict ps) side (object.dict es) slots s))
    by o k = go o.answer where
      go : (r : Result Slots End) → AreNamed names (on_answer r o.state (λ slots s. calls.slot_made (calls.has_dict ps) side (object.dict es) slots s)).state.store.heap
      go (Ok slots) = slot_named (calls.has_dict ps) side (object.dict es) slots o.state tt k
      go (Err e) = k

  module _ (side : Side) (ps : Params) (s : plain.State) (h : AreNamed names s.store.heap) where
    entries_named : (rest values : List Value) (es : Option Entries)
        → Stays (option_map_or (λ es. calls.all_made side ps (map Some values) rest es s) es (calls.no_binding s))
    entries_named rest values (Some es) = made_named side ps (map Some values) rest es s h
    entries_named rest values None = h

    values_named : (rest : List Value) (values : Option (List Value)) (es : Option Entries)
        → Stays (option_map_or (λ values. option_map_or (λ es. calls.all_made side ps (map Some values) rest es s) es (calls.no_binding s)) values (calls.no_binding s))
    values_named rest (Some values) es = entries_named rest values es
    values_named rest None es = h

    rest_named : (rest : Option (List Value)) (values : Option (List Value)) (es : Option Entries)
        → Stays (option_map_or (λ rest. option_map_or (λ values. option_map_or (λ es. calls.all_made side ps (map Some values) rest es s) es (calls.no_binding s)) values (calls.no_binding s)) rest (calls.no_binding s))
    rest_named (Some rest) values es = values_named rest values es
    rest_named None values es = h

  bind_named : (side : Side) (ws : List (List ℕ)) (ps : Params) (defaults args : List Value) (named : List (List ℕ × Value)) (s : plain.State) → AreNamed names s.store.heap
      → Stays (calls.bind side ws ps defaults args named s)
  bind_named side ws ps defaults args named s h =
      rest_named side ps s h (calls.elements_for (calls.has_list ps) (length (calls.plain ps)) args) (calls.filled (calls.offered ws (calls.plain ps) args defaults) named)
      (calls.entries_for (calls.has_dict ps) ws (calls.plain ps) named)

meets_state : {A : Type 0} (r : Result A OpEnd) (t : plain.State) (o : plain.Outcome A) → r ≢ Err end.Memory → Meets r t o → o.state ≡ t
meets_state (Ok a) t o other is = ap (λ (o : plain.Outcome _). o.state) is
meets_state (Err (end.Raised x)) t o other is = ap (λ (o : plain.Outcome _). o.state) is
meets_state (Err end.StopSteps) t o other is = ap (λ (o : plain.Outcome _). o.state) is
meets_state (Err end.StopCells) t o other is = ap (λ (o : plain.Outcome _). o.state) is
meets_state (Err end.Memory) t o other is = absurd (other refl)

no_memory : (r : Result (Vec (Option Value) Global) OpEnd) → r ≢ Err end.Memory → slots_of r ≢ Err end.Memory
no_memory (Ok slots) other = λ h. cc
no_memory (Err (end.Raised x)) other = λ h. cc
no_memory (Err end.StopSteps) other = λ h. cc
no_memory (Err end.StopCells) other = λ h. cc
no_memory (Err end.Memory) other = λ h. other refl

pub bound_faithful : (w : World) (store : Cells) (r : Result (Vec (Option Value) Global) OpEnd) (side : Side) (ps : Params) (defaults args : List Value) (named : List (List ℕ × Value))
    → Meets (slots_of r) (plain.state_of store 0) (calls.bind side w.names ps defaults args named (plain.state_of w.store 0)) → IsFaithful w
    → r ≢ Err end.Memory → IsFaithful (with_store w store)
bound_faithful w store r side ps defaults args named is h other =
    IsFaithful-stored w store
    (subst (λ (t : plain.State). AreNamed w.names t.store.heap) (meets_state (slots_of r) (plain.state_of store 0) _ (no_memory r other) is)
    (bind_named w.names side w.names ps defaults args named (plain.state_of w.store 0) h.classes)) h

-- one more empty slot
pub filled_next : (xs ys zs : Slots) (i : ℕ) → ys ≡ xs ++ replicate i None → zs ≡ ys ++ None ∷ [] → zs ≡ xs ++ replicate (i + 1) None
filled_next xs ys zs i is more = more ∙ ap (λ ys. ys ++ None ∷ []) is ∙ append_assoc xs (replicate i None) (None ∷ []) ∙ ap (λ ns. xs ++ ns) (replicate_more i None)

-- what code of a side may hold is taken by it as it is
module _ (heap : List Owned) (side : Side) where
  owner_is : (owner : Side) → nat_eq owner.0 side.0 ≡ true → Some owner ≡ Some side
  owner_is owner e = let k : owner.0 ≡ side.0 = eqb-true owner.0 side.0 e in ap (λ (n : ℕ). Some (record { 0 = n })) k

  own_proxy : (at : Oid) (owner : Option Side) → owner ≢ Some side
      → (if option_map_or (λ owner. nat_eq owner.0 side.0) owner false then value.Ref at else value.Prox at) ≡ value.Prox at
  own_proxy at None other = refl
  own_proxy at (Some owner) other = by (nat_eq owner.0 side.0) refl where
    by : (b : Bool) → nat_eq owner.0 side.0 ≡ b → (if b then value.Ref at else value.Prox at) ≡ value.Prox at
    by true e = absurd (other (owner_is owner e))
    by false e = refl

  own_script : (v : Value) → side.0 ≢ 0 → IsFit heap side v → taken_by_script heap side v ≡ v
  own_script (value.Rock rock) script fit = refl
  own_script (value.Ref at) script fit =
      ap (λ (owner : Option Side). if option_map_or (λ owner. nat_eq owner.0 side.0) owner false then value.Ref at else value.Prox at) (fit.1 script)
      ∙ ap (λ (b : Bool). if b then value.Ref at else value.Prox at) (eq-eqb side.0 side.0 refl)
  own_script (value.Prox at) script fit = own_proxy at (owner_at heap at) (fit.1 script)

  own : (v : Value) → IsFit heap side v → taken heap side v ≡ v
  own v fit = by (nat_eq side.0 0) refl where
    by : (b : Bool) → nat_eq side.0 0 ≡ b → (if b then v else taken_by_script heap side v) ≡ v
    by true e = refl
    by false e = own_script v (λ z. let k : false ≡ true = sym e ∙ ap (λ n. nat_eq n 0) z in cc) fit

  own_all : (vs : List Value) → AreFit heap side vs → map (taken heap side) vs ≡ vs
  own_all [] fit = refl
  own_all (v ∷ vs) fit = ap (λ x. x ∷ map (taken heap side) vs) (own v (All-head (IsFit heap side) v vs fit)) ∙ ap (λ xs. v ∷ xs) (own_all vs (All-tail (IsFit heap side) v vs fit))

  own_slot : (slot : Option Value) → IfSome slot (IsFit heap side) → option_map (taken heap side) slot ≡ slot
  own_slot None fit = refl
  own_slot (Some v) fit = ap Some (own v fit)

  pub own_slots : (slots : Slots) → AreSlotsFit heap side slots → slots_taken heap side slots ≡ slots
  own_slots [] fit = refl
  own_slots (x ∷ xs) fit =
      ap (λ y. y ∷ map (option_map (taken heap side)) xs) (own_slot x (All-head (λ slot. IfSome slot (IsFit heap side)) x xs fit))
      ∙ ap (λ ys. x ∷ ys) (own_slots xs (All-tail (λ slot. IfSome slot (IsFit heap side)) x xs fit))

pub own_entered : (r : Result Oid OpEnd) (t s : State) (from side : Side) (number : ℕ) (within : Oid) (locals : ℕ) (ps : PureParams) (defaults vs : List Value)
    → nat_eq from.0 side.0 ≡ true → AreFit (heap_of s) from vs
    → Comes r t (entered_with side number within locals ps defaults (only vs) s) → Comes r t (entered side number within locals ps defaults (only vs) s)
own_entered r t s from side number within locals ps defaults vs same fit is =
    subst (λ (us : List Value). Comes r t (entered_with side number within locals ps defaults (only us) s))
    (sym (own_all (heap_of s) side vs (subst (λ (side : Side). AreFit (heap_of s) side vs) (same_side same) fit))) is where
      same_side : nat_eq from.0 side.0 ≡ true → from ≡ side
      same_side e = let k : from.0 ≡ side.0 = eqb-true from.0 side.0 e in ap (λ (n : ℕ). record { 0 = n }) k

-- an object that is made
pub made_comes : (w : World) (store : Cells) (r : Result Oid OpEnd) (side : Side) (c d : Content) → c ≡ d
    → Meets r (plain.state_of store w.running.meter.left) (plain.makes side c (plain.state_of w.store w.running.meter.left))
    → Comes r (state_of (with_store w store)) (makes side d (state_of w))
made_comes w store r side c d same is =
    subst (λ (x : Content). Comes r (state_of (with_store w store)) (makes side x (state_of w))) same
    (Comes-lifted r (state_of w) (plain.state_of store w.running.meter.left) (plain.makes side c (plain.state_of w.store w.running.meter.left)) is)

pub made_faithful : (w : World) (store : Cells) (r : Result Oid OpEnd) (side : Side) (c : Content) → IsNamed w.names c
    → OnOk r (store ≡ made w.store side c) → OnErr r (store ≡ w.store) → IsFaithful w → IsFaithful (with_store w store)
made_faithful w store (Ok at) side c named is same h =
    subst (λ (s : Cells). IsFaithful (with_store w s)) (sym is)
    (IsFaithful-stored w (made w.store side c)
    (All-append (λ (o : Owned). IsNamed w.names o.content) w.store.heap (record { owner = side; content = c } ∷ []) h.classes
    (All-cons (λ (o : Owned). IsNamed w.names o.content) (record { owner = side; content = c }) [] named (All-nil (λ (o : Owned). IsNamed w.names o.content)))) h)
made_faithful w store (Err e) side c named is same h = subst (λ (s : Cells). IsFaithful (with_store w s)) (sym same) h

-- what a scope holds
module _ (heap : List Owned) (side : Side) where
  abbrev FitSlot : Option Value → Type 0
  FitSlot slot = IfSome slot (IsFit heap side)

  empty_fit : (n : ℕ) → All FitSlot (replicate n None)
  empty_fit zero = All-nil FitSlot
  empty_fit (suc n) = All-cons FitSlot None (replicate n None) tt (empty_fit n)

  pub filled_fit : (slots all : Slots) (locals : ℕ) → all ≡ filled_to locals slots → AreSlotsFit heap side slots → AreSlotsFit heap side all
  filled_fit slots all locals is fit =
      subst (λ (xs : Slots). AreSlotsFit heap side xs) (sym is)
      (All-append FitSlot slots (replicate (locals - length slots) None) fit (empty_fit (locals - length slots)))

  pub fit_sound : (vs : List Value) → AreFit heap side vs → AreSound heap vs
  fit_sound vs fit = All-weaker (IsFit heap side) (IsSound heap) (λ v h. h.0) vs fit

-- a value of some
pub sound_at : (heap : List Owned) (vs : List Value) (i : ℕ) (v : Value) → v ≡ get_or vs i v → i < length vs → AreSound heap vs → IsSound heap v
sound_at heap vs i v is within h = subst (IsSound heap) (sym is) (All-get_or (IsSound heap) vs i v within h)

pub are_pushed : (heap : List Owned) (items more : List Value) (v : Value) → more ≡ items ++ v ∷ [] → IsSound heap v → AreSound heap items → AreSound heap more
are_pushed heap items more v is sound are = subst (AreSound heap) (sym is) (All-push (IsSound heap) items v are sound)

-- an instance with no attribute
pub no_field : (heap : List Owned) (fields : List (Name × Value)) → fields ≡ [] → All (λ field. IsSound heap field.1) fields
no_field heap fields is = subst (λ (fs : List (Name × Value)). All (λ field. IsSound heap field.1) fs) (sym is) (All-nil (λ field. IsSound heap field.1))

-- one more value is taken
pub taken_next : (heap : List Owned) (side : Side) (vs : List Value) (i : ℕ) (v copy : Value) (items more : List Value) → i < length vs → v ≡ get_or vs i v
    → more ≡ items ++ copy ∷ [] → copy ≡ taken heap side v → IsSound heap copy → items ≡ map (taken heap side) (take i vs)
    → more ≡ map (taken heap side) (take (i + 1) vs)
taken_next heap side vs i v copy items more within is pushed got sound before =
    pushed ∙ ap (λ (xs : List Value). xs ++ copy ∷ []) before ∙ ap (λ (x : Value). map (taken heap side) (take i vs) ++ x ∷ []) (got ∙ ap (taken heap side) is)
    ∙ sym (map-append (taken heap side) (take i vs) (get_or vs i v ∷ [])) ∙ sym (ap (map (taken heap side)) (take_more vs i v within))

-- the code is entered where the arguments are bound and the scope is made
module _ (w u : World) (side : Side) (number : ℕ) (within : Oid) (locals : ℕ) (ps : PureParams) (defaults : List Value) (a : Arguments) where
  abbrev binding : Outcome Slots
  binding = plainly (bind side w.names ps defaults a) (state_of w)

  abbrev scoped : Slots → State → Outcome Oid
  scoped slots s = scope_made side number within locals (slots_taken (heap_of s) side slots) s

  pub entered_fails : (e : OpEnd) → IsEnd e (state_of u) binding → IsEnd e (state_of u) (entered_with side number within locals ps defaults a (state_of w))
  entered_fails e is = IsEnd-then e (state_of u) binding scoped is

  pub entered_scoped : (v : World) (r : Result Oid OpEnd) (slots all : Slots) → binding ≡ gives slots (state_of u) → all ≡ slots_taken u.store.heap side slots
      → Comes r (state_of v) (scope_made side number within locals all (state_of u))
      → Comes r (state_of v) (entered_with side number within locals ps defaults a (state_of w))
  entered_scoped v r slots all bound is comes =
      Comes-same r (state_of v) _ _ (gives-then slots (state_of u) binding scoped bound)
      (subst (λ (xs : Slots). Comes r (state_of v) (scope_made side number within locals xs (state_of u))) is comes)

-- what stands in slots, each taken
module _ (heap : List Owned) (side : Side) where
  pub slot_sound : (slots : Slots) (i : ℕ) (slot : Option Value) → slot ≡ get_or slots i slot → i < length slots → AreSlotsSound heap slots → IfSome slot (IsSound heap)
  slot_sound slots i slot is within h =
      subst (λ (s : Option Value). IfSome s (IsSound heap)) (sym is) (All-get_or (λ (s : Option Value). IfSome s (IsSound heap)) slots i slot within h)

  pub slot_next : (slots : Slots) (i : ℕ) (slot got : Option Value) (items more : Slots) → i < length slots → slot ≡ get_or slots i slot
      → more ≡ items ++ got ∷ [] → got ≡ option_map (taken heap side) slot → items ≡ slots_taken heap side (take i slots) → more ≡ slots_taken heap side (take (i + 1) slots)
  slot_next slots i slot got items more within is pushed same before =
      pushed ∙ ap (λ (xs : Slots). xs ++ got ∷ []) before
      ∙ ap (λ (x : Option Value). map (option_map (taken heap side)) (take i slots) ++ x ∷ []) (same ∙ ap (option_map (taken heap side)) is)
      ∙ sym (map-append (option_map (taken heap side)) (take i slots) (get_or slots i slot ∷ []))
      ∙ sym (ap (map (option_map (taken heap side))) (take_more slots i slot within))

  pub slots_pushed : (items more : Slots) (slot : Option Value) → more ≡ items ++ slot ∷ [] → IfSome slot (IsFit heap side) → AreSlotsFit heap side items
      → AreSlotsFit heap side more
  slots_pushed items more slot is fit are =
      subst (AreSlotsFit heap side) (sym is) (All-push (λ (s : Option Value). IfSome s (IsFit heap side)) items slot are fit)

-- the owner of an object, by its number
pub owned_safe : (heap : List Owned) (side owner : Side) (at : Oid) → owner_at heap at ≡ Some owner → nat_eq owner.0 side.0 ≡ true → owner_at heap at ≡ Some side
owned_safe heap side owner at is e = is ∙ owner_is heap side owner e

pub other_safe : (heap : List Owned) (side owner : Side) (at : Oid) → owner_at heap at ≡ Some owner → nat_eq owner.0 side.0 ≡ false → owner_at heap at ≢ Some side
other_safe heap side owner at is e h =
    let same : Some owner ≡ Some side = sym is ∙ h in
    let owners : owner ≡ side = cc in
    let k : true ≡ false = sym (eq-eqb owner.0 side.0 (ap (λ (s : Side). s.0) owners)) ∙ e in
    absurd (cc)

-- the same arguments, and those that are taken
module _ (r : Result Oid OpEnd) (t s : State) (side : Side) (number : ℕ) (within : Oid) (locals : ℕ) (ps : PureParams) (defaults : List Value) where
  pub entered_same : (us vs : List Value) (ns : List (List ℕ × Value)) → us ≡ vs → Comes r t (entered side number within locals ps defaults (record { plain = us; named = ns }) s)
      → Comes r t (entered side number within locals ps defaults (record { plain = vs; named = ns }) s)
  entered_same us vs ns same is = subst (λ (xs : List Value). Comes r t (entered side number within locals ps defaults (record { plain = xs; named = ns }) s)) same is

  pub entered_taken : (vs us : List Value) (ns ms : List (List ℕ × Value)) → us ≡ map (taken (heap_of s) side) vs → ms ≡ map (λ n. (n.0, taken (heap_of s) side n.1)) ns
      → Comes r t (entered_with side number within locals ps defaults (record { plain = us; named = ms }) s)
      → Comes r t (entered side number within locals ps defaults (record { plain = vs; named = ns }) s)
  entered_taken vs us ns ms same names is =
      subst (λ (xs : List Value). Comes r t (entered_with side number within locals ps defaults (record { plain = xs; named = map (λ n. (n.0, taken (heap_of s) side n.1)) ns }) s)) same
      (subst (λ (xs : List (List ℕ × Value)). Comes r t (entered_with side number within locals ps defaults (record { plain = us; named = xs }) s)) names is)

-- one more argument with a name is taken
module _ (heap : List Owned) (side : Side) where
  abbrev named_taken : List ℕ × Value → List ℕ × Value
  named_taken n = (n.0, taken heap side n.1)

  pub named_next : (ns : List (List ℕ × Value)) (i : ℕ) (n : List ℕ × Value) (word : List ℕ) (copy : Value) (items more : List (List ℕ × Value)) → i < length ns → n ≡ get_or ns i n
      → more ≡ items ++ (word, copy) ∷ [] → word ≡ n.0 → copy ≡ taken heap side n.1 → items ≡ map named_taken (take i ns)
      → more ≡ map named_taken (take (i + 1) ns)
  named_next ns i n word copy items more within is pushed same got before =
      pushed ∙ ap (λ (xs : List (List ℕ × Value)). xs ++ (word, copy) ∷ []) before
      ∙ ap (λ (x : List ℕ × Value). map named_taken (take i ns) ++ x ∷ []) (ap (λ (w : List ℕ). (w, copy)) same ∙ ap (λ (v : Value). (n.0, v)) got ∙ ap named_taken is)
      ∙ sym (map-append named_taken (take i ns) (get_or ns i n ∷ [])) ∙ sym (ap (map named_taken) (take_more ns i n within))

pub named_sound : (heap : List Owned) (ns : List (List ℕ × Value)) (i : ℕ) (n : List ℕ × Value) → n ≡ get_or ns i n → i < length ns → AreNamedSound heap ns → IsSound heap n.1
named_sound heap ns i n is within h =
    subst (λ (n : List ℕ × Value). IsSound heap n.1) (sym is) (All-get_or (λ (n : List ℕ × Value). IsSound heap n.1) ns i n within h)

pub named_pushed : (heap : List Owned) (items more : List (List ℕ × Value)) (n : List ℕ × Value) → more ≡ items ++ n ∷ [] → IsSound heap n.1 → AreNamedSound heap items → AreNamedSound heap more
named_pushed heap items more n is sound are = subst (AreNamedSound heap) (sym is) (All-push (λ (n : List ℕ × Value). IsSound heap n.1) items n are sound)

pub behind_sound : (heap : List Owned) (receiver : Value) (args all : List Value) → all ≡ receiver ∷ args → IsSound heap receiver → AreSound heap args → AreSound heap all
behind_sound heap receiver args all is first others = subst (AreSound heap) (sym is) (All-cons (IsSound heap) receiver args first others)
