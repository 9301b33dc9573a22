-- How objects stay such that they fit the programs, as objects change and are made.
use Rattle.std.proofs.Common.{◌≡◌, refl, sym, ap, subst, ◌∙◌, ℕ, zero, suc, List, [], ◌∷◌, ◌++◌, length, slice_get}
use Rattle.std.proofs.Common.{Option, Some, None}
use Rattle.std.specs.Prelude.{option_and_then, slice_set}
use Rattle.std.specs.Option.{option_map}
use Rattle.rp_base.specs.declared.value.Name.{Name}
use Rattle.rp_base.specs.declared.value.Oid.{Oid}
use Rattle.rp_base.specs.declared.value.Side.{Side}
use Rattle.rp_base.specs.declared.value.Value.{Value}
use Rattle.rp_store.specs.Heap.{Owned, changed_at, changed_from}
use Rattle.rp_store.specs.Object as object
use Rattle.rp_store.specs.Object.{Content}
use Rattle.rp_store.specs.Writers.{with_methods, with_slot}
use Rattle.rp_meaning.specs.Frame.{Program}
use Rattle.rp_apart_laws.proofs.Lists.{each_append, each_get}
use Rattle.rp_apart_laws.specs.Apart.{Each, OnSome}
use Rattle.rp_keeper_laws.specs.Keepers.{next_place, with_new}
use Rattle.rp_keeper_laws.specs.PlainKeepers.{rest}
use Rattle.rp_keeper_laws.proofs.Mildly.{IsMade, StayFrom, Stays}
use Rattle.rp_keeper_laws.proofs.Everything.{each_more}
use Rattle.rp_fit_laws.specs.Fit.{AreDefaults, FitElsewhere, Fits, IsCodeOf, IsParent, IsScope}
use Rattle.rp_fit_laws.specs.Fit.{IsScopeOf, block_of}
use Rattle.rp_fit_laws.specs.Programs.{around}

-- ---- scopes stay

abbrev pub Grows : List Owned → List Owned → Type 0
Grows old new = (at : Oid) (side : Side) (block : ℕ) → IsScope old side block at → IsScope new side block at

pub grows_not : (heap : List Owned) → Grows heap heap
grows_not heap at side block h = h

pub grows_on : (a b c : List Owned) → Grows a b → Grows b c → Grows a c
grows_on a b c g h at side block p = h at side block (g at side block p)

-- what stands at a place, with its owner and its block; so it stays where that stays
abbrev Standing : Option Owned → Side → ℕ → Type 0
Standing o side block = (option_map (λ (o : Owned). o.owner) o ≡ Some side)
    × (option_and_then block_of (option_map (λ (o : Owned). o.content) o) ≡ Some block)

pub grows_by : (old new : List Owned)
    → ((at : Oid) (side : Side) (block : ℕ) → Standing (slice_get old at.0) side block
    → Standing (slice_get new at.0) side block) → Grows old new
grows_by old new more at side block h =
    let these = more at side block (h.owner, h.block) in record { owner = these.0; block = these.1 }

module _ (programs : Side → Program) (old new : List Owned) (g : Grows old new) where
  scope_of_later : (side : Side) (block : Option ℕ) (at : Oid) → IsScopeOf old side block at
      → IsScopeOf new side block at
  scope_of_later side None at h = absurd h
  scope_of_later side (Some block) at h = g at side block h

  parent_later : (side : Side) (number : ℕ) (parent : Option Oid) → IsParent programs old side number parent
      → IsParent programs new side number parent
  parent_later side zero parent h = h
  parent_later side (suc n) None h = absurd h
  parent_later side (suc n) (Some at) h = scope_of_later side (around (programs side) (suc n)) at h

  pub fits_later : (side : Side) (c : Content) → Fits programs old side c → Fits programs new side c
  fits_later side (object.list xs) h = tt
  fits_later side (object.tuple xs) h = tt
  fits_later side (object.dict es) h = tt
  fits_later side (object.instance of fs) h = tt
  fits_later side (object.class name declared ms) h = tt
  fits_later side (object.function name unit number within ds) h =
      (h.0, h.1, scope_of_later side (around (programs side) number) within h.2)
  fits_later side (object.method v called) h = tt
  fits_later side (object.scope None parent vs) h = h
  fits_later side (object.scope (Some number) parent vs) h = (h.0, parent_later side number parent h.1)

  pub all_later : (os : List Owned) → Each (λ (o : Owned). Fits programs old o.owner o.content) os
      → Each (λ (o : Owned). Fits programs new o.owner o.content) os
  all_later os h = each_more (λ (o : Owned). Fits programs old o.owner o.content)
      (λ (o : Owned). Fits programs new o.owner o.content) (λ o p. fits_later o.owner o.content p) os h

-- ---- what is kept

module _ (programs : Side → Program) (sides : Side → Type 0) where
  -- an object that fits, and is of these sides
  abbrev pub Suits : List Owned → Side → Content → Type 0
  Suits heap side c = Fits programs heap side c × IsCodeOf sides side c

  abbrev pub Kept : List Owned → Type 0
  Kept heap = Each (λ o. Suits heap o.owner o.content) heap

  suits_later : (old new : List Owned) → Grows old new → (os : List Owned)
      → Each (λ (o : Owned). Suits old o.owner o.content) os → Each (λ (o : Owned). Suits new o.owner o.content) os
  suits_later old new g os h = each_more (λ (o : Owned). Suits old o.owner o.content)
      (λ (o : Owned). Suits new o.owner o.content) (λ o p.
      (fits_later programs old new g o.owner o.content p.0, p.1)) os h

  -- ---- an object that changes

  changed_standing : (heap : List Owned) (i j : ℕ) (f : Content → Content) → ((c : Content)
      → block_of (f c) ≡ block_of c)
      → (side : Side) (block : ℕ) → Standing (slice_get heap j) side block
      → Standing (slice_get (changed_from heap i f) j) side block
  changed_standing [] i j f m side block h = h
  changed_standing (x ∷ xs) zero zero f m side block h = (h.0, m x.content ∙ h.1)
  changed_standing (x ∷ xs) zero (suc j) f m side block h = h
  changed_standing (x ∷ xs) (suc i) zero f m side block h = h
  changed_standing (x ∷ xs) (suc i) (suc j) f m side block h = changed_standing xs i j f m side block h

  -- a change that leaves an object such
  abbrev SparesIn : List Owned → (Content → Content) → Owned → Type 0
  SparesIn heap f o = Suits heap o.owner o.content → Suits heap o.owner (f o.content)

  changed_each : (all heap : List Owned) (i : ℕ) (f : Content → Content) → OnSome (SparesIn all f) (slice_get heap i)
      → Each (λ (o : Owned). Suits all o.owner o.content) heap
      → Each (λ (o : Owned). Suits all o.owner o.content) (changed_from heap i f)
  changed_each all [] i f p h = tt
  changed_each all (x ∷ xs) zero f p h = (p h.0, h.1)
  changed_each all (x ∷ xs) (suc i) f p h = (h.0, changed_each all xs i f p h.1)

  -- each scope stays one of its block, and the object such
  pub changed_there : (heap : List Owned) (at : Oid) (f : Content → Content)
      → ((c : Content) → block_of (f c) ≡ block_of c) → OnSome (SparesIn heap f) (slice_get heap at.0) → Kept heap
      → Kept (changed_at heap at f) × Grows heap (changed_at heap at f)
  changed_there heap at f m p h =
      let g : Grows heap (changed_at heap at f) = grows_by heap (changed_at heap at f)
      (λ it side block q. changed_standing heap at.0 it.0 f m side block q) in
      (suits_later heap (changed_at heap at f) g (changed_at heap at f) (changed_each heap heap at.0 f p h), g)

  -- so it is where each object stays such
  pub changed : (heap : List Owned) (at : Oid) (f : Content → Content)
      → ((c : Content) → block_of (f c) ≡ block_of c)
      → ((side : Side) (c : Content) → Suits heap side c → Suits heap side (f c)) → Kept heap
      → Kept (changed_at heap at f) × Grows heap (changed_at heap at f)
  changed heap at f m p h = changed_there heap at f m (any (slice_get heap at.0)) h where
    any : (o : Option Owned) → OnSome (SparesIn heap f) o
    any None = tt
    any (Some o) = p o.owner o.content

  -- ---- objects that are made

  appended_standing : (heap news : List Owned) (j : ℕ) (side : Side) (block : ℕ)
      → Standing (slice_get heap j) side block
      → Standing (slice_get (heap ++ news) j) side block
  appended_standing [] news j side block h = absurd (nothing_there h.0) where
    nothing_there : None ≡ Some side → ⊥
    nothing_there e = absurd (cc)
  appended_standing (x ∷ xs) news zero side block h = h
  appended_standing (x ∷ xs) news (suc j) side block h = appended_standing xs news j side block h

  pub appended_grows : (heap news : List Owned) → Grows heap (heap ++ news)
  appended_grows heap news = grows_by heap (heap ++ news)
      (λ at side block h. appended_standing heap news at.0 side block h)

  pub appended : (heap : List Owned) (side : Side) (c : Content) → Suits heap side c → Kept heap
      → Kept (with_new heap side c) × Grows heap (with_new heap side c)
  appended heap side c p h =
      let new : List Owned = record { owner = side; content = c } ∷ [] in
      let g : Grows heap (heap ++ new) = appended_grows heap new in (
        each_append (λ (o : Owned). Suits (heap ++ new) o.owner o.content) heap new
            (suits_later heap (heap ++ new) g heap h)
            ((fits_later programs heap (heap ++ new) g side c p.0, p.1), tt),
        g,
      )

  -- ---- plain operations

  block_of_rest : (c : Content) → block_of (rest c) ≡ block_of c
  block_of_rest (object.list xs) = refl
  block_of_rest (object.tuple xs) = refl
  block_of_rest (object.dict es) = refl
  block_of_rest (object.instance of fs) = refl
  block_of_rest (object.class name declared ms) = refl
  block_of_rest (object.function name unit number within ds) = refl
  block_of_rest (object.method v called) = refl
  block_of_rest (object.scope block parent vs) = refl

  suits_rest : (heap : List Owned) (side : Side) (c : Content) → Suits heap side c → Suits heap side (rest c)
  suits_rest heap side (object.list xs) h = h
  suits_rest heap side (object.tuple xs) h = h
  suits_rest heap side (object.dict es) h = h
  suits_rest heap side (object.instance of fs) h = h
  suits_rest heap side (object.class name declared ms) h = h
  suits_rest heap side (object.function name unit number within ds) h = h
  suits_rest heap side (object.method v called) h = h
  suits_rest heap side (object.scope block parent vs) h = h

  rest_suits : (heap : List Owned) (side : Side) (c : Content) → Suits heap side (rest c) → Suits heap side c
  rest_suits heap side (object.list xs) h = h
  rest_suits heap side (object.tuple xs) h = h
  rest_suits heap side (object.dict es) h = h
  rest_suits heap side (object.instance of fs) h = h
  rest_suits heap side (object.class name declared ms) h = h
  rest_suits heap side (object.function name unit number within ds) h = h
  rest_suits heap side (object.method v called) h = h
  rest_suits heap side (object.scope block parent vs) h = h

  mildly_standing : (olds heap : List Owned) (j : ℕ) (side : Side) (block : ℕ) → StayFrom olds heap
      → Standing (slice_get olds j) side block → Standing (slice_get heap j) side block
  mildly_standing [] heap j side block h p = absurd (nothing_there p.0) where
    nothing_there : None ≡ Some side → ⊥
    nothing_there e = absurd (cc)
  mildly_standing (o ∷ os) [] j side block h p = absurd h
  mildly_standing (o ∷ os) (x ∷ xs) zero side block h p = (
    ap Some h.0.0 ∙ p.0,
    sym (block_of_rest x.content) ∙ ap block_of h.0.1 ∙ block_of_rest o.content ∙ p.1,
  )
  mildly_standing (o ∷ os) (x ∷ xs) (suc j) side block h p = mildly_standing os xs j side block h.1 p

  pub made_suits : (heap : List Owned) (side : Side) (c : Content) → IsMade c → Suits heap side c
  made_suits heap side (object.list xs) h = (tt, tt)
  made_suits heap side (object.tuple xs) h = (tt, tt)
  made_suits heap side (object.dict es) h = (tt, tt)
  made_suits heap side (object.instance of fs) h = absurd h
  made_suits heap side (object.class name declared ms) h = absurd h
  made_suits heap side (object.function name unit number within ds) h = absurd h
  made_suits heap side (object.method v called) h = absurd h
  made_suits heap side (object.scope block parent vs) h = absurd h

  stays_suit : (heap : List Owned) (o new : Owned) → Stays o new
      → Suits heap o.owner o.content → Suits heap new.owner new.content
  stays_suit heap o new h p =
      rest_suits heap new.owner new.content
      (subst (λ (c : Content). Suits heap new.owner c) (sym h.1)
      (suits_rest heap new.owner o.content (subst (λ (s : Side). Suits heap s o.content) (sym h.0) p)))

  mildly_each : (heap : List Owned) (olds news : List Owned) → StayFrom olds news
      → Each (λ (o : Owned). Suits heap o.owner o.content) olds
      → Each (λ (o : Owned). Suits heap o.owner o.content) news
  mildly_each heap [] news h p = each_more (λ (o : Owned). IsMade o.content)
      (λ (o : Owned). Suits heap o.owner o.content) (λ o q. made_suits heap o.owner o.content q) news h
  mildly_each heap (o ∷ os) [] h p = absurd h
  mildly_each heap (o ∷ os) (x ∷ xs) h p = (stays_suit heap o x h.0 p.0, mildly_each heap os xs h.1 p.1)

  pub mildly_kept : (old new : List Owned) → StayFrom old new → Kept old → Kept new × Grows old new
  mildly_kept old new h p =
      let g : Grows old new = grows_by old new (λ at side block q. mildly_standing old new at.0 side block h q) in
      (mildly_each new old new h (suits_later old new g old p), g)

  -- ---- changes of scopes and classes

  pub slot_block : (i : ℕ) (v : Option Value) (c : Content) → block_of (with_slot i v c) ≡ block_of c
  slot_block i v (object.scope block parent vs) = refl
  slot_block i v (object.list xs) = refl
  slot_block i v (object.tuple xs) = refl
  slot_block i v (object.dict es) = refl
  slot_block i v (object.instance of fs) = refl
  slot_block i v (object.class name declared ms) = refl
  slot_block i v (object.function name unit number within ds) = refl
  slot_block i v (object.method w called) = refl

  set_length : {A : Type 0} (xs : List A) (i : ℕ) (x : A) → length (slice_set xs i x) ≡ length xs
  set_length [] i x = refl
  set_length (y ∷ ys) zero x = refl
  set_length (y ∷ ys) (suc i) x = ap suc (set_length ys i x)

  pub slot_suits : (heap : List Owned) (i : ℕ) (v : Option Value) (side : Side) (c : Content) → Suits heap side c
      → Suits heap side (with_slot i v c)
  slot_suits heap i v side (object.scope None parent vs) h = h
  slot_suits heap i v side (object.scope (Some number) parent vs) h = ((set_length vs i v ∙ h.0.0, h.0.1), h.1)
  slot_suits heap i v side (object.list xs) h = h
  slot_suits heap i v side (object.tuple xs) h = h
  slot_suits heap i v side (object.dict es) h = h
  slot_suits heap i v side (object.instance of fs) h = h
  slot_suits heap i v side (object.class name declared ms) h = h
  slot_suits heap i v side (object.function name unit number within ds) h = h
  slot_suits heap i v side (object.method w called) h = h

  pub methods_block : (ms : List (Name × Oid)) (c : Content) → block_of (with_methods ms c) ≡ block_of c
  methods_block ms (object.scope block parent vs) = refl
  methods_block ms (object.list xs) = refl
  methods_block ms (object.tuple xs) = refl
  methods_block ms (object.dict es) = refl
  methods_block ms (object.instance of fs) = refl
  methods_block ms (object.class name declared old) = refl
  methods_block ms (object.function name unit number within ds) = refl
  methods_block ms (object.method w called) = refl

  pub methods_suit : (heap : List Owned) (ms : List (Name × Oid)) (side : Side) (c : Content) → Suits heap side c
      → Suits heap side (with_methods ms c)
  methods_suit heap ms side (object.class name declared old) h = (tt, tt)
  methods_suit heap ms side (object.scope block parent vs) h = h
  methods_suit heap ms side (object.list xs) h = h
  methods_suit heap ms side (object.tuple xs) h = h
  methods_suit heap ms side (object.dict es) h = h
  methods_suit heap ms side (object.instance of fs) h = h
  methods_suit heap ms side (object.function name unit number within ds) h = h
  methods_suit heap ms side (object.method w called) h = h

  -- ---- what is read

  -- the object at a place
  pub suits_at : (heap : List Owned) (at : Oid) → Kept heap
      → OnSome (λ (o : Owned). Suits heap o.owner o.content) (slice_get heap at.0)
  suits_at heap at h = each_get (λ (o : Owned). Suits heap o.owner o.content) heap at.0 h

-- the scope that was made last
pub last_scope : (heap : List Owned) (side : Side) (block : ℕ) (parent : Option Oid) (vs : List (Option Value))
    → IsScope (with_new heap side (object.scope (Some block) parent vs)) side block (next_place heap)
last_scope heap side block parent vs = let these = last heap in record { owner = these.0; block = these.1 } where
  new : Owned
  new = record { owner = side; content = object.scope (Some block) parent vs }

  last : (heap : List Owned) → Standing (slice_get (heap ++ new ∷ []) (length heap)) side block
  last [] = (refl, refl)
  last (x ∷ xs) = last xs

-- ---- other programs

pub fit_elsewhere : (sides : Side → Type 0) → FitElsewhere sides
fit_elsewhere sides p q heap same of h = all heap of h where
  moved : (side : Side) (c : Content) → IsCodeOf sides side c → Fits p heap side c → Fits q heap side c
  moved side (object.list xs) o h = tt
  moved side (object.tuple xs) o h = tt
  moved side (object.dict es) o h = tt
  moved side (object.instance its fs) o h = tt
  moved side (object.class name declared ms) o h = tt
  moved side (object.function name unit number within ds) o h = (
    h.0,
    subst (λ (x : Program). AreDefaults (x.code number) ds) (same side o) h.1,
    subst (λ (x : Program). IsScopeOf heap side (around x number) within) (same side o) h.2,
  )
  moved side (object.method v called) o h = tt
  moved side (object.scope None parent vs) o h = h
  moved side (object.scope (Some number) parent vs) o h = (
    subst (λ (x : Program). length vs ≡ length (x.layouts.locals number)) (same side o) h.0,
    parent_moved side number parent o h.1,
  ) where
    parent_moved : (side : Side) (number : ℕ) (parent : Option Oid) → sides side → IsParent p heap side number parent
        → IsParent q heap side number parent
    parent_moved side zero parent o h = h
    parent_moved side (suc n) None o h = absurd h
    parent_moved side (suc n) (Some at) o h =
        subst (λ (x : Program). IsScopeOf heap side (around x (suc n)) at) (same side o) h

  all : (os : List Owned) → Each (λ (o : Owned). IsCodeOf sides o.owner o.content) os
      → Each (λ (o : Owned). Fits p heap o.owner o.content) os
      → Each (λ (o : Owned). Fits q heap o.owner o.content) os
  all [] of h = tt
  all (o ∷ os) of h = (moved o.owner o.content of.0 h.0, all os of.1 h.1)
