-- Objects, as plain operations change them: each that was there has its owner and refers to the same, but for what a
-- list, a dict or a field holds; and new ones are lists, tuples and dicts.
use Rattle.std.proofs.Common.{◌≡◌, refl, sym, subst, ◌∙◌, ℕ, zero, suc, List, [], ◌∷◌, ◌++◌}
use Rattle.rp_base.specs.declared.value.Value.{Value}
use Rattle.rp_base.specs.declared.value.Value.TheVariants as value
use Rattle.rp_store.specs.Heap.{Owned, changed_from}
use Rattle.rp_store.specs.Object as object
use Rattle.rp_store.specs.Object.{Content}
use Rattle.rp_apart_laws.proofs.Lists.{each_append}
use Rattle.rp_keeper_laws.specs.PlainKeepers.{AllFit, Bare, Mild, PlainKeeper, rest}

abbrev IsKind : Content → Type 0
IsKind (object.list xs) = Unit {0}
IsKind (object.tuple xs) = Unit {0}
IsKind (object.dict es) = Unit {0}
IsKind c = ⊥

-- what plain operations make, whatever it holds
abbrev pub IsMade : Content → Type 0
IsMade c = IsKind (rest c)

abbrev pub Stays : Owned → Owned → Type 0
Stays o new = (new.owner ≡ o.owner) × (rest new.content ≡ rest o.content)

abbrev pub StayFrom : List Owned → List Owned → Type 0
StayFrom [] heap = AllFit IsMade heap
StayFrom (o ∷ os) [] = ⊥
StayFrom (o ∷ os) (new ∷ news) = Stays o new × StayFrom os news

-- ---- objects that change

pub made_mild : (f : Content → Content) → Mild f → (c : Content) → IsMade c → IsMade (f c)
made_mild f m c h = subst IsKind (sym (m c)) h

each_changed : (heap : List Owned) (i : ℕ) (f : Content → Content) → Mild f → AllFit IsMade heap
    → AllFit IsMade (changed_from heap i f)
each_changed [] i f m h = tt
each_changed (x ∷ xs) zero f m h = (made_mild f m x.content h.0, h.1)
each_changed (x ∷ xs) (suc i) f m h = (h.0, each_changed xs i f m h.1)

pub changed : (olds heap : List Owned) (i : ℕ) (f : Content → Content) → Mild f → StayFrom olds heap
    → StayFrom olds (changed_from heap i f)
changed [] heap i f m h = each_changed heap i f m h
changed (o ∷ os) [] i f m h = absurd h
changed (o ∷ os) (x ∷ xs) zero f m h = ((h.0.0, m x.content ∙ h.0.1), h.1)
changed (o ∷ os) (x ∷ xs) (suc i) f m h = (h.0, changed os xs i f m h.1)

-- ---- objects that are made

pub appended : (olds heap news : List Owned) → AllFit IsMade news → StayFrom olds heap → StayFrom olds (heap ++ news)
appended [] heap news p h = each_append (λ (o : Owned). IsMade o.content) heap news h p
appended (o ∷ os) [] news p h = absurd h
appended (o ∷ os) (x ∷ xs) news p h = (h.0, appended os xs news p h.1)

-- ---- plain operations keep it, and may change each object

abbrev pub mildly : List Owned → PlainKeeper
mildly old = record {
  Kept = λ heap. StayFrom old heap;
  Usable = λ at. Unit {0};
  Fits = λ c. IsMade c;
  list = λ xs. tt;
  tuple = λ xs. tt;
  dict = λ es. tt;
  changed = λ heap at f m usable h. changed old heap at.0 f m h;
  appended = λ heap news p h. appended old heap news p h;
}

-- lists, tuples and dicts may be made, whatever is kept
pub made_fits : (k : PlainKeeper) (c : Content) → IsMade c → k.Fits c
made_fits k (object.list xs) p = k.list xs
made_fits k (object.tuple xs) p = k.tuple xs
made_fits k (object.dict es) p = k.dict es
made_fits k (object.instance of fs) p = absurd p
made_fits k (object.class name declared ms) p = absurd p
made_fits k (object.function name unit block within ds) p = absurd p
made_fits k (object.method v called) p = absurd p
made_fits k (object.scope block parent vs) p = absurd p

pub any_bare : (old : List Owned) (v : Value) → Bare (mildly old) v
any_bare old (value.Rock r) = tt
any_bare old (value.Ref at) = tt
any_bare old (value.Prox at) = tt

-- ---- before anything is done

pub begun : (heap : List Owned) → StayFrom heap heap
begun [] = tt
begun (o ∷ os) = ((refl, refl), begun os)
