-- What the places of a dict say of its pairs.
use Rattle.std.proofs.Common.{◌≡◌, ℕ, zero, suc, ◌<◌, ◌+◌, ◌-◌, Bool, true, false, cond, nat_eq, List, [], ◌∷◌, ◌++◌, length, get_or, position, None, Some, Option, refl, sym, ap, ◌∙◌, remove, slice_set, if◌then◌else◌, arith, true≢false, filter, subst, take, is_some, drop, slice_get, unwrap_or, ◌≤◌, Result, Ok, Err, IfOk, IfErr}
use Rattle.std.specs.Prelude.{MatchOption}
use Rattle.std.specs.Option.{option_map}
use Rattle.std.specs.Map.{keys_of, lookup, remove_entry, values_of}
use Rattle.std.proofs.lemmas.Bool.{eqb-true}
use Rattle.std.proofs.lemmas.Option.{slice_get_past}
use Rattle.std.proofs.lemmas.List.{length-append, length-set, set-append_left}
use Rattle.std.proofs.lemmas.List.Quantifiers.{position-Some}
use Rattle.std.proofs.lemmas.Map.{NonePasses, none_passes_from_lookup}
use Rattle.std.proofs.Math.Seq.{get_or-append_seam, take-append_seam}
use Rattle.std.specs.List.{swap_remove}
use Rattle.indexmap.specs.IndexMap.{insert_entry, set_value_at}
use Rattle.rp_dict.specs.declared.slot.Slot.{Slot}
use Rattle.rp_dict.specs.declared.slot.Slot.TheVariants.{Live, Dead}
use Rattle.rp_dict.specs.Slot.{slot_eq}
use Rattle.rp_dict.specs.Places.{AreKept, Fits, before, dead_at, dead_count, flat, is_live, live, second_changed}
use Rattle.rp_dict.specs.Dict.{with_second}

one_more : (a b : ℕ) → a + 1 ≡ b → suc a + 1 ≡ suc b
one_more a b h = omega (arith, h)

module _ {K V : Type 0} where
  -- each place is a pair or a mark
  pub length-live : (n : ℕ) (es : List (Slot K × Option V)) → AreKept n es → length es ≡ length (live es) + dead_count es
  length-live n [] kept = refl
  length-live n (e ∷ es) kept = by e.0 e.1 kept.0 (length-live n es kept.1)
    where
      by : (s : Slot K) (v : Option V) → Fits n s v → length es ≡ length (live es) + dead_count es → suc (length es) ≡ length (before s v (live es)) + (dead_at s + dead_count es)
      by (Live k) (Some v) fits rest = omega (arith, rest)
      by (Live k) None fits rest = absurd fits
      by (Dead m) v fits rest = omega (arith, rest)

module _ {K V : Type 0} (eq : K → K → Bool) (k : K) (test : Slot K → Bool) (at_live : (b : K) → test (Live b) ≡ eq k b) (at_dead : (m : ℕ) → test (Dead m) ≡ false) where
  -- a key is found where a pair has it
  pub lookup-live : (n : ℕ) (es : List (Slot K × Option V)) → AreKept n es → flat (lookup test es) ≡ lookup (eq k) (live es)
  lookup-live n [] kept = refl
  lookup-live n (e ∷ es) kept = by e.0 e.1 kept.0 (lookup-live n es kept.1)
    where
      by : (s : Slot K) (v : Option V) → Fits n s v → flat (lookup test es) ≡ lookup (eq k) (live es) → flat (cond (test s) (Some v) (lookup test es)) ≡ lookup (eq k) (before s v (live es))
      by (Live b) (Some v) fits rest = ap (λ t. flat (cond t (Some (Some v)) (lookup test es))) (at_live b) ∙ found (eq k b)
        where
          found : (t : Bool) → flat (cond t (Some (Some v)) (lookup test es)) ≡ cond t (Some v) (lookup (eq k) (live es))
          found true = refl
          found false = rest
      by (Live b) None fits rest = absurd fits
      by (Dead m) v fits rest = ap (λ t. flat (cond t (Some v) (lookup test es))) (at_dead m) ∙ rest

  -- what holds where a place with the key becomes a mark, or is taken away
  pub record Taken (n : ℕ) (es : List (Slot K × Option V)) (i : ℕ) (d : Slot K × Option V) : Type 0 where
    pub value : (get_or es i d).1 ≡ lookup (eq k) (live es)
    pub within : i < length es
    pub pair : length (live (take i es)) + 1 ≡ length (live (take (suc i) es))
    pub marked : live (slice_set es i (Dead n, None)) ≡ remove_entry (eq k) (live es)
    pub marked-kept : AreKept (n + 1) (slice_set es i (Dead n, None))
    pub marked-counted : dead_count (slice_set es i (Dead n, None)) ≡ dead_count es + 1
    pub removed : live (remove es i) ≡ remove_entry (eq k) (live es)
    pub removed-kept : AreKept n (remove es i)
    pub removed-counted : dead_count (remove es i) ≡ dead_count es

  later : (n : ℕ) (es : List (Slot K × Option V)) → AreKept n es → AreKept (n + 1) es
  later n [] kept = tt
  later n (e ∷ es) kept = (by e.0 e.1 kept.0, later n es kept.1)
    where
      by : (s : Slot K) (v : Option V) → Fits n s v → Fits (n + 1) s v
      by (Live b) (Some v) fits = tt
      by (Live b) None fits = fits
      by (Dead m) (Some v) fits = fits
      by (Dead m) None fits = omega (arith, fits)

  pub taken : (n : ℕ) (es : List (Slot K × Option V)) (i : ℕ) (d : Slot K × Option V) → AreKept n es → i < length es → test (get_or es i d).0 ≡ true → ((j : ℕ) → j < i → test (get_or es j d).0 ≡ false) → Taken n es i d
  taken n [] i d kept within here apart = absurd (omega arith)
  taken n (e ∷ es) zero d kept within here apart = by e.0 e.1 kept.0 here
    where
      by : (s : Slot K) (v : Option V) → Fits n s v → test s ≡ true → Taken n ((s, v) ∷ es) zero d
      by (Live b) (Some v) fits here =
          let found : eq k b ≡ true = sym (at_live b) ∙ here in
          record {
            value = sym (ap (λ t. cond t (Some v) (lookup (eq k) (live es))) found);
            within = omega arith;
            pair = refl;
            marked = sym (ap (λ t. cond t (live es) ((b, v) ∷ remove_entry (eq k) (live es))) found);
            marked-kept = (omega arith, later n es kept.1);
            marked-counted = omega arith;
            removed = sym (ap (λ t. cond t (live es) ((b, v) ∷ remove_entry (eq k) (live es))) found);
            removed-kept = kept.1;
            removed-counted = omega arith;
          }
      by (Live b) None fits here = absurd fits
      by (Dead m) v fits here = absurd (true≢false (sym here ∙ at_dead m))
  taken n (e ∷ es) (suc i) d kept within here apart =
      by e.0 e.1 kept.0 (apart 0 (omega arith)) (taken n es i d kept.1 (omega arith) here (λ j below. apart (suc j) (omega arith)))
    where
      by : (s : Slot K) (v : Option V) → Fits n s v → test s ≡ false → Taken n es i d → Taken n ((s, v) ∷ es) (suc i) d
      by (Live b) (Some v) fits here rest =
          let missed : eq k b ≡ false = sym (at_live b) ∙ here in
          record {
            value = rest.value ∙ sym (ap (λ t. cond t (Some v) (lookup (eq k) (live es))) missed);
            within = omega (arith, rest.within);
            pair = one_more _ _ rest.pair;
            marked = ap (λ l. (b, v) ∷ l) rest.marked ∙ sym (ap (λ t. cond t (live es) ((b, v) ∷ remove_entry (eq k) (live es))) missed);
            marked-kept = (tt, rest.marked-kept);
            marked-counted = omega (arith, rest.marked-counted);
            removed = ap (λ l. (b, v) ∷ l) rest.removed ∙ sym (ap (λ t. cond t (live es) ((b, v) ∷ remove_entry (eq k) (live es))) missed);
            removed-kept = (tt, rest.removed-kept);
            removed-counted = omega (arith, rest.removed-counted);
          }
      by (Live b) None fits here rest = absurd fits
      by (Dead m) (Some v) fits here rest = absurd fits
      by (Dead m) None fits here rest =
          record {
            value = rest.value;
            within = omega (arith, rest.within);
            pair = rest.pair;
            marked = rest.marked;
            marked-kept = (omega (arith, fits), rest.marked-kept);
            marked-counted = omega (arith, rest.marked-counted);
            removed = rest.removed;
            removed-kept = (fits, rest.removed-kept);
            removed-counted = omega (arith, rest.removed-counted);
          }

module _ {K V : Type 0} (eq : K → K → Bool) (k : K) (v : V) where
  -- what holds after a key has got its value
  pub record Set (n : ℕ) (es : List (Slot K × Option V)) : Type 0 where
    pub pairs : live (insert_entry (slot_eq eq) es (Live k) (Some v)) ≡ insert_entry eq (live es) k v
    pub kept : AreKept n (insert_entry (slot_eq eq) es (Live k) (Some v))
    pub counted : dead_count (insert_entry (slot_eq eq) es (Live k) (Some v)) ≡ dead_count es

  pub set : (n : ℕ) (es : List (Slot K × Option V)) → AreKept n es → Set n es
  set n [] kept = record { pairs = refl; kept = (tt, tt); counted = refl }
  set n (e ∷ es) kept = by e.0 e.1 kept.0 (set n es kept.1)
    where
      by : (s : Slot K) (w : Option V) → Fits n s w → Set n es → Set n ((s, w) ∷ es)
      by (Live b) (Some w) fits rest = found (eq k b) refl
        where
          found : (t : Bool) → eq k b ≡ t → Set n ((Live b, Some w) ∷ es)
          found true e = record {
            pairs = ap (λ t. live (if t then (Live b, Some v) ∷ es else (Live b, Some w) ∷ insert_entry (slot_eq eq) es (Live k) (Some v))) e ∙ sym (ap (λ t. if t then (b, v) ∷ live es else (b, w) ∷ insert_entry eq (live es) k v) e);
            kept = subst (λ t. AreKept n (if t then (Live b, Some v) ∷ es else (Live b, Some w) ∷ insert_entry (slot_eq eq) es (Live k) (Some v))) (sym e) (tt, kept.1);
            counted = ap (λ t. dead_count (if t then (Live b, Some v) ∷ es else (Live b, Some w) ∷ insert_entry (slot_eq eq) es (Live k) (Some v))) e;
          }
          found false e = record {
            pairs = ap (λ t. live (if t then (Live b, Some v) ∷ es else (Live b, Some w) ∷ insert_entry (slot_eq eq) es (Live k) (Some v))) e ∙ ap (λ l. (b, w) ∷ l) rest.pairs ∙ sym (ap (λ t. if t then (b, v) ∷ live es else (b, w) ∷ insert_entry eq (live es) k v) e);
            kept = subst (λ t. AreKept n (if t then (Live b, Some v) ∷ es else (Live b, Some w) ∷ insert_entry (slot_eq eq) es (Live k) (Some v))) (sym e) (tt, rest.kept);
            counted = ap (λ t. dead_count (if t then (Live b, Some v) ∷ es else (Live b, Some w) ∷ insert_entry (slot_eq eq) es (Live k) (Some v))) e ∙ ap (λ m. 0 + m) rest.counted;
          }
      by (Live b) None fits rest = absurd fits
      by (Dead m) (Some w) fits rest = absurd fits
      by (Dead m) None fits rest = record { pairs = rest.pairs; kept = (fits, rest.kept); counted = ap (λ m. 1 + m) rest.counted }

module _ {K V : Type 0} (eq : K → K → Bool) where
  -- a number that was not given out yet marks no place
  pub fresh : (n : ℕ) (es : List (Slot K × Option V)) → AreKept n es → lookup (slot_eq eq (Dead n)) es ≡ None
  fresh n [] kept = refl
  fresh n (e ∷ es) kept = by e.0 e.1 kept.0 ∙ fresh n es kept.1
    where
      other : (m : ℕ) (t : Bool) → nat_eq n m ≡ t → m < n → t ≡ false
      other m true e below = absurd (omega (arith, eqb-true n m e))
      other m false e below = refl

      by : (s : Slot K) (w : Option V) → Fits n s w → cond (slot_eq eq (Dead n) s) (Some w) (lookup (slot_eq eq (Dead n)) es) ≡ lookup (slot_eq eq (Dead n)) es
      by (Live b) w fits = refl
      by (Dead m) (Some w) fits = absurd fits
      by (Dead m) None fits = ap (λ t. cond t (Some None) (lookup (slot_eq eq (Dead n)) es)) (other m (nat_eq n m) refl fits)

module _ {K V : Type 0} where
  abbrev pub holds_key : Slot K × Option V → Bool
  holds_key e = is_live e.0

  pub record Closed (n : ℕ) (es : List (Slot K × Option V)) : Type 0 where
    pub pairs : live (filter holds_key es) ≡ live es
    pub kept : AreKept n (filter holds_key es)
    pub counted : dead_count (filter holds_key es) ≡ 0

  -- the places with keys are the pairs
  pub closed : (n : ℕ) (es : List (Slot K × Option V)) → AreKept n es → Closed n es
  closed n [] kept = record { pairs = refl; kept = tt; counted = refl }
  closed n (e ∷ es) kept = by e.0 e.1 kept.0 (closed n es kept.1)
    where
      by : (s : Slot K) (w : Option V) → Fits n s w → Closed n es → Closed n ((s, w) ∷ es)
      by (Live b) (Some w) fits rest = record { pairs = ap (λ l. (b, w) ∷ l) rest.pairs; kept = (tt, rest.kept); counted = ap (λ m. 0 + m) rest.counted }
      by (Live b) None fits rest = absurd fits
      by (Dead m) w fits rest = record { pairs = rest.pairs; kept = rest.kept; counted = rest.counted }

module _ {X : Type 0} where
  -- the last item goes into the gap
  pub swap_remove-end : (es : List X) (i : ℕ) (d p : X) → i < length es → swap_remove (es ++ d ∷ []) i p ≡ slice_set es i d
  swap_remove-end es i d p within =
      let count : length (es ++ d ∷ []) - 1 ≡ length es = omega (arith, length-append es (d ∷ [])) in
      (λ j. take (count j) (slice_set (es ++ d ∷ []) i (get_or (es ++ d ∷ []) (count j) p)))
      ∙ (λ j. take (length es) (slice_set (es ++ d ∷ []) i (get_or-append_seam es d [] p j)))
      ∙ (λ j. take (sym (length-set es i d) j) (set-append_left es (d ∷ []) i d within j))
      ∙ take-append_seam (slice_set es i d) (d ∷ [])

module _ {K V : Type 0} where
  length-keys : (es : List (Slot K × Option V)) → length (keys_of es) ≡ length es
  length-keys [] = refl
  length-keys (e ∷ es) = ap suc (length-keys es)

  get_or-keys : (es : List (Slot K × Option V)) (i : ℕ) (d : Slot K × Option V) → get_or (keys_of es) i d.0 ≡ (get_or es i d).0
  get_or-keys [] i d = refl
  get_or-keys (e ∷ es) zero d = refl
  get_or-keys (e ∷ es) (suc i) d = get_or-keys es i d

module _ {K V : Type 0} (eq : K → K → Bool) (k : K) (test : Slot K → Bool) (at_live : (b : K) → test (Live b) ≡ eq k b) (at_dead : (m : ℕ) → test (Dead m) ≡ false) where
  -- the same, where the place is the first that passes
  pub taken_at : (n : ℕ) (es : List (Slot K × Option V)) (i : ℕ) → AreKept n es → position test (keys_of es) ≡ Some i → Taken eq k test at_live at_dead n es i (Dead 0, None)
  taken_at n es i kept found =
      let at = position-Some test (keys_of es) i (Dead 0) found in
      let within : i < length es = subst (λ m. i < m) (length-keys es) at.0 in
      taken eq k test at_live at_dead n es i (Dead 0, None) kept within
      (ap test (sym (get_or-keys es i (Dead 0, None))) ∙ at.1)
      (λ j below. ap test (sym (get_or-keys es j (Dead 0, None))) ∙ at.2 j below)

  -- no pair has a key that no place has
  pub absent-live : (n : ℕ) (es : List (Slot K × Option V)) → AreKept n es → false ≡ is_some (lookup test es) → lookup (eq k) (live es) ≡ None
  absent-live n es kept none = sym (lookup-live eq k test at_live at_dead n es kept) ∙ by (lookup test es) none
    where
      by : (o : Option (Option V)) → false ≡ is_some o → flat o ≡ None
      by None e = refl
      by (Some x) e = absurd (true≢false (sym e))

module _ {K V : Type 0} (test : K → Bool) where
  pub remove_entry-missing : (ps : List (K × V)) → lookup test ps ≡ None → remove_entry test ps ≡ ps
  remove_entry-missing ps none = apart ps (none_passes_from_lookup test ps none)
    where
      apart : (fs : List (K × V)) → NonePasses test fs → remove_entry test fs ≡ fs
      apart [] h = refl
      apart (f ∷ fs) h = ap (λ b. cond b fs (f ∷ remove_entry test fs)) h.0 ∙ ap (λ l. f ∷ l) (apart fs h.1)

-- the items from a place on
pub drop_at : {X : Type 0} (es : List X) (i m : ℕ) (e : X) → m ≡ suc i → slice_get es i ≡ Some e → drop i es ≡ e ∷ drop m es
drop_at es i m e next here = by es i e here ∙ (λ j. e ∷ drop (sym next j) es)
  where
    some : {X : Type 0} (x y : X) → Some x ≡ Some y → x ≡ y
    some x y h = ap (λ o. unwrap_or o x) h

    by : {X : Type 0} (es : List X) (i : ℕ) (e : X) → slice_get es i ≡ Some e → drop i es ≡ e ∷ drop (suc i) es
    by [] i e h = absurd (true≢false (sym (ap is_some h)))
    by (x ∷ xs) zero e h = ap (λ y. y ∷ xs) (some x e h)
    by (x ∷ xs) (suc i) e h = by xs i e h

module _ {K V : Type 0} where
  -- where there is no mark, a place is that of its pair
  pub unmarked_at : (n : ℕ) (es : List (Slot K × Option V)) (i : ℕ) → AreKept n es → dead_count es ≡ 0 → (e : Slot K × Option V) → slice_get es i ≡ Some e → slice_get (before e.0 e.1 []) 0 ≡ slice_get (live es) i
  unmarked_at n [] i kept none e h = absurd (true≢false (sym (ap is_some h)))
  unmarked_at n (x ∷ xs) zero kept none e h = ap (λ y. slice_get (before y.0 y.1 []) 0) (sym (ap (λ o. unwrap_or o x) h)) ∙ by x.0 x.1 kept.0 none
    where
      by : (s : Slot K) (v : Option V) → Fits n s v → dead_at s + dead_count xs ≡ 0 → slice_get (before s v []) 0 ≡ slice_get (before s v (live xs)) 0
      by (Live k) (Some v) fits none = refl
      by (Live k) None fits none = absurd fits
      by (Dead m) v fits none = absurd (omega (arith, none))
  unmarked_at n (x ∷ xs) (suc i) kept none e h = unmarked_at n xs i kept.1 (omega (arith, none)) e h ∙ by x.0 x.1 kept.0 none
    where
      by : (s : Slot K) (v : Option V) → Fits n s v → dead_at s + dead_count xs ≡ 0 → slice_get (live xs) i ≡ slice_get (before s v (live xs)) (suc i)
      by (Live k) (Some v) fits none = refl
      by (Live k) None fits none = absurd fits
      by (Dead m) v fits none = absurd (omega (arith, none))

  pub unmarked_past : (n : ℕ) (es : List (Slot K × Option V)) (i : ℕ) → AreKept n es → None ≡ slice_get es i → slice_get (live es) i ≡ None
  unmarked_past n es i kept none = slice_get_past (live es) i (omega (arith, length-live n es kept, past es i none))
    where
      past : {X : Type 0} (xs : List X) (j : ℕ) → None ≡ slice_get xs j → length xs ≤ j
      past [] j h = omega arith
      past (x ∷ xs) zero h = absurd (true≢false (sym (ap is_some h)))
      past (x ∷ xs) (suc j) h = omega (arith, past xs j h)

pub slice_get-later : {X : Type 0} (x : X) (xs : List X) (i : ℕ) → ¬ (i ≡ 0) → slice_get (x ∷ xs) i ≡ slice_get xs (i - 1)
slice_get-later x xs zero apart = absurd (apart refl)
slice_get-later x xs (suc i) apart = ap (slice_get xs) (omega arith)

module _ {K A B : Type 0} (eq : K → K → Bool) (k : K) (test : Slot K → Bool) (at_live : (b : K) → test (Live b) ≡ eq k b) (at_dead : (m : ℕ) → test (Dead m) ≡ false) (v : B) where
  -- what holds where a place with the key gets another second part
  pub record Second (n : ℕ) (es : List (Slot K × Option (A × B))) (i : ℕ) (d : Slot K × Option (A × B)) : Type 0 where
    pub pairs : live (slice_set es i (second_changed v (get_or es i d))) ≡ with_second (eq k) v (live es)
    pub kept : AreKept n (slice_set es i (second_changed v (get_or es i d)))
    pub counted : dead_count (slice_set es i (second_changed v (get_or es i d))) ≡ dead_count es

  second : (n : ℕ) (es : List (Slot K × Option (A × B))) (i : ℕ) (d : Slot K × Option (A × B)) → AreKept n es → i < length es → test (get_or es i d).0 ≡ true → ((j : ℕ) → j < i → test (get_or es j d).0 ≡ false) → Second n es i d
  second n [] i d kept within here apart = absurd (omega arith)
  second n (e ∷ es) zero d kept within here apart = by e.0 e.1 kept.0 here
    where
      by : (s : Slot K) (w : Option (A × B)) → Fits n s w → test s ≡ true → Second n ((s, w) ∷ es) zero d
      by (Live b) (Some w) fits here =
          record {
            pairs = sym (ap (λ t. if t then (b, (w.0, v)) ∷ live es else (b, w) ∷ with_second (eq k) v (live es)) (sym (at_live b) ∙ here));
            kept = (tt, kept.1);
            counted = refl;
          }
      by (Live b) None fits here = absurd fits
      by (Dead m) w fits here = absurd (true≢false (sym here ∙ at_dead m))
  second n (e ∷ es) (suc i) d kept within here apart =
      by e.0 e.1 kept.0 (apart 0 (omega arith)) (second n es i d kept.1 (omega arith) here (λ j below. apart (suc j) (omega arith)))
    where
      by : (s : Slot K) (w : Option (A × B)) → Fits n s w → test s ≡ false → Second n es i d → Second n ((s, w) ∷ es) (suc i) d
      by (Live b) (Some w) fits here rest =
          record {
            pairs = ap (λ l. (b, w) ∷ l) rest.pairs ∙ sym (ap (λ t. if t then (b, (w.0, v)) ∷ live es else (b, w) ∷ with_second (eq k) v (live es)) (sym (at_live b) ∙ here));
            kept = (tt, rest.kept);
            counted = omega (arith, rest.counted);
          }
      by (Live b) None fits here rest = absurd fits
      by (Dead m) (Some w) fits here rest = absurd fits
      by (Dead m) None fits here rest = record { pairs = rest.pairs; kept = (fits, rest.kept); counted = omega (arith, rest.counted) }

  -- the same, where the place is the first that passes
  pub second_place : (n : ℕ) (es : List (Slot K × Option (A × B))) (i : ℕ) → AreKept n es → position test (keys_of es) ≡ Some i → Second n es i (Dead 0, None)
  second_place n es i kept found =
      let at = position-Some test (keys_of es) i (Dead 0) found in
      let within : i < length es = subst (λ m. i < m) (length-keys es) at.0 in
      second n es i (Dead 0, None) kept within
      (ap test (sym (get_or-keys es i (Dead 0, None))) ∙ at.1)
      (λ j below. ap test (sym (get_or-keys es j (Dead 0, None))) ∙ at.2 j below)

module _ {A B : Type 0} (v : B) where
  -- a value that is held comes out, and else the given one comes back
  pub second_answer-held : (o : Option (A × B)) (r : Result B B) → MatchOption o (r ≡ Err v) (λ p. r ≡ Ok p.1) → IfOk r (λ old. option_map (λ p. p.1) o ≡ Some old)
  second_answer-held None r h = subst (λ r. IfOk r (λ old. option_map {T = A × B} (λ p. p.1) None ≡ Some old)) (sym h) tt
  second_answer-held (Some p) r h = subst (λ r. IfOk r (λ old. Some p.1 ≡ Some old)) (sym h) refl

  pub second_answer-absent : (o : Option (A × B)) (r : Result B B) → MatchOption o (r ≡ Err v) (λ p. r ≡ Ok p.1) → IfErr r (λ same. (same ≡ v) × (o ≡ None))
  second_answer-absent None r h = subst (λ r. IfErr r (λ same. (same ≡ v) × (◌≡◌ {A = Option (A × B)} None None))) (sym h) (refl, refl)
  second_answer-absent (Some p) r h = subst (λ r. IfErr r (λ same. (same ≡ v) × (Some p ≡ None))) (sym h) tt

  pub second_says-held : (o : Option (A × B)) (r : B) (pair : A × B) → o ≡ Some pair → r ≡ pair.1 → MatchOption o (◌≡◌ {A = Result B B} (Ok r) (Err v)) (λ p. ◌≡◌ {A = Result B B} (Ok r) (Ok p.1))
  second_says-held o r pair at same = subst (λ o. MatchOption o (◌≡◌ {A = Result B B} (Ok r) (Err v)) (λ p. ◌≡◌ {A = Result B B} (Ok r) (Ok p.1))) (sym at) (ap Ok same)

  pub second_says-absent : (o : Option (A × B)) → o ≡ None → MatchOption o (◌≡◌ {A = Result B B} (Err v) (Err v)) (λ p. ◌≡◌ {A = Result B B} (Err v) (Ok p.1))
  second_says-absent o at = subst (λ o. MatchOption o (◌≡◌ {A = Result B B} (Err v) (Err v)) (λ p. ◌≡◌ {A = Result B B} (Err v) (Ok p.1))) (sym at) refl

module _ {X Y : Type 0} where
  -- the value at a place
  pub value_here : (es : List (X × Y)) (i : ℕ) (w : Y) (d : X × Y) → Some w ≡ slice_get (values_of es) i → (get_or es i d).1 ≡ w
  value_here [] i w d h = absurd (true≢false (ap is_some h))
  value_here (e ∷ es) zero w d h = sym (ap (λ o. unwrap_or o w) h)
  value_here (e ∷ es) (suc i) w d h = value_here es i w d h

  pub no_value_here : (es : List (X × Y)) (i : ℕ) → None ≡ slice_get (values_of es) i → i < length es → ⊥
  no_value_here [] i h within = omega (arith, within)
  no_value_here (e ∷ es) zero h within = absurd (true≢false (sym (ap is_some h)))
  no_value_here (e ∷ es) (suc i) h within = no_value_here es i h (omega (arith, within))

  pub set_value_here : (es : List (X × Y)) (i : ℕ) (w : Y) (d : X × Y) → set_value_at es i w ≡ slice_set es i ((get_or es i d).0, w)
  set_value_here [] i w d = refl
  set_value_here (e ∷ es) zero w d = refl
  set_value_here (e ∷ es) (suc i) w d = ap (λ l. e ∷ l) (set_value_here es i w d)
