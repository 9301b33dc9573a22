-- What the place of a key says of the pairs.
use Rattle.std.proofs.Common.{◌≡◌, ℕ, zero, suc, ◌<◌, Bool, true, false, cond, List, [], ◌∷◌, ◌++◌, length, get_or, position, None, Some, refl, sym, ap, ◌∙◌, remove, slice_set, if◌then◌else◌, arith, not, ◌+◌, nat_lt, subst, append-nil, append_assoc, Result, Ok, Err, OnOk, OnErr, IfErr}
use Rattle.std.specs.Cmp.{IsEquivalence}
use Rattle.std.specs.List.{AllByRecursion, IsDistinct, position_or_len}
use Rattle.std.specs.Map.{keys_of, lookup, remove_entry}
use Rattle.std.proofs.lemmas.List.Quantifiers.{position-Some}
use Rattle.std.proofs.lemmas.Map.{NonePasses, none_passes_from_lookup}
use Rattle.indexmap.specs.IndexMap.{insert_all, insert_entry}
use Rattle.rp_dict.specs.Dict.{with_second}
use Rattle.indexmap.proofs.MapLemmas.{absent_before, absent_from_lookup, insert_entry-absent, Missing-position}

module _ {K V : Type 0} (eq : K → K → Bool) (k : K) where
  -- the key of the pair is the one that is sought
  abbrev pub has_key : K × V → Bool
  has_key pair = eq k pair.0

  -- what holds where the first pair with the key stands at a place
  pub record HeldAt (es : List (K × V)) (i : ℕ) (d : K × V) : Type 0 where
    pub value : lookup (eq k) es ≡ Some (get_or es i d).1
    pub removed : remove_entry (eq k) es ≡ remove es i
    pub set : (v : V) → insert_entry eq es k v ≡ slice_set es i ((get_or es i d).0, v)

  pub held_at : (es : List (K × V)) (i : ℕ) (d : K × V) → i < length es → eq k (get_or es i d).0 ≡ true → ((j : ℕ) → j < i → eq k (get_or es j d).0 ≡ false) → HeldAt es i d
  held_at [] i d within here before = absurd (omega arith)
  held_at (e ∷ es) zero d within here before =
      record {
        value = ap (λ b. cond b (Some e.1) (lookup (eq k) es)) here;
        removed = ap (λ b. cond b es (e ∷ remove_entry (eq k) es)) here;
        set = λ v. ap (λ b. if b then (e.0, v) ∷ es else e ∷ insert_entry eq es k v) here;
      }
  held_at (e ∷ es) (suc i) d within here before =
      let rest = held_at es i d (omega arith) here (λ j below. before (suc j) (omega arith)) in
      let apart = before 0 (omega arith) in
      record {
        value = ap (λ b. cond b (Some e.1) (lookup (eq k) es)) apart ∙ rest.value;
        removed = ap (λ b. cond b es (e ∷ remove_entry (eq k) es)) apart ∙ ap (λ l. e ∷ l) rest.removed;
        set = λ v. ap (λ b. if b then (e.0, v) ∷ es else e ∷ insert_entry eq es k v) apart ∙ ap (λ l. e ∷ l) (rest.set v);
      }

  pub held : (es : List (K × V)) (i : ℕ) (d : K × V) → position has_key es ≡ Some i → HeldAt es i d
  held es i d found =
      let at = position-Some has_key es i d found in
      held_at es i d at.0 at.1 at.2

  position_or_len-keys : (es : List (K × V)) → position_or_len has_key es ≡ position_or_len (eq k) (keys_of es)
  position_or_len-keys [] = refl
  position_or_len-keys (e ∷ es) = ap (λ n. cond (not (eq k e.0)) (1 + n) 0) (position_or_len-keys es)

  length-keys : (es : List (K × V)) → length es ≡ length (keys_of es)
  length-keys [] = refl
  length-keys (e ∷ es) = ap suc (length-keys es)

  position-keys : (es : List (K × V)) → position has_key es ≡ position (eq k) (keys_of es)
  position-keys es = (λ j. cond (nat_lt (position_or_len-keys es j) (length-keys es j)) (Some (position_or_len-keys es j)) None)

  -- no pair has the key
  pub missing : (es : List (K × V)) → position has_key es ≡ None → lookup (eq k) es ≡ None
  missing es none = (Missing-position (eq k) es (sym (position-keys es) ∙ none)).value

  pub remove_entry-missing : (es : List (K × V)) → position has_key es ≡ None → remove_entry (eq k) es ≡ es
  remove_entry-missing es none = apart es (none_passes_from_lookup (eq k) es (missing es none))
    where
      apart : (fs : List (K × V)) → NonePasses (eq k) fs → remove_entry (eq k) fs ≡ fs
      apart [] h = refl
      apart (f ∷ fs) h = ap (λ b. cond b fs (f ∷ remove_entry (eq k) fs)) h.0 ∙ ap (λ l. f ∷ l) (apart fs h.1)

  -- a new key goes last
  pub insert_entry-missing : (es : List (K × V)) (v : V) → lookup (eq k) es ≡ None → insert_entry eq es k v ≡ es ++ (k, v) ∷ []
  insert_entry-missing es v none = insert_entry-absent eq k v es (absent_from_lookup (eq k) es none)

module _ {K V : Type 0} {eq : K → K → Bool} (laws : IsEquivalence eq) where
  insert_all-append : (front es : List (K × V)) → IsDistinct eq (keys_of (front ++ es)) → insert_all eq front es ≡ front ++ es
  insert_all-append front [] distinct = sym (append-nil front)
  insert_all-append front (e ∷ es) distinct =
      let last = insert_entry-missing eq e.0 front e.1 (absent_before laws front es e distinct) in
      ap (λ l. insert_all eq l es) last
      ∙ insert_all-append (front ++ e ∷ []) es (subst (λ l. IsDistinct eq (keys_of l)) (sym (append_assoc front (e ∷ []) es)) distinct)
      ∙ append_assoc front (e ∷ []) es

  -- pairs with distinct keys, each put in turn, are these pairs
  pub insert_all-distinct : (es : List (K × V)) → IsDistinct eq (keys_of es) → insert_all eq [] es ≡ es
  insert_all-distinct es distinct = insert_all-append [] es distinct

module _ {K V : Type 0} (eq : K → K → Bool) where
  pub distinct-empty : (es : List (K × V)) → es ≡ [] → IsDistinct eq (keys_of es)
  unfolding IsDistinct
  distinct-empty es empty = subst (λ l. IsDistinct eq (keys_of l)) (sym empty) tt

  all-insert_entry : (P : K → Type 0) (es : List (K × V)) (k : K) (v : V) → AllByRecursion P (keys_of es) → P k → AllByRecursion P (keys_of (insert_entry eq es k v))
  all-insert_entry P [] k v all here = (here, tt)
  all-insert_entry P (e ∷ es) k v all here = by (eq k e.0) (all-insert_entry P es k v all.1 here)
    where
      by : (b : Bool) → AllByRecursion P (keys_of (insert_entry eq es k v)) → AllByRecursion P (keys_of (if b then (e.0, v) ∷ es else e ∷ insert_entry eq es k v))
      by true rest = all
      by false rest = (all.0, rest)

  -- keys stay distinct where a key gets its value
  pub distinct-insert_entry : IsEquivalence eq → (es : List (K × V)) (k : K) (v : V) → IsDistinct eq (keys_of es) → IsDistinct eq (keys_of (insert_entry eq es k v))
  unfolding IsDistinct
  distinct-insert_entry laws [] k v d = (tt, tt)
  distinct-insert_entry laws (e ∷ es) k v d = by (eq k e.0) refl (distinct-insert_entry laws es k v d.1)
    where
      by : (b : Bool) → eq k e.0 ≡ b → IsDistinct eq (keys_of (insert_entry eq es k v)) → IsDistinct eq (keys_of (if b then (e.0, v) ∷ es else e ∷ insert_entry eq es k v))
      by true same rest = d
      by false apart rest = (all-insert_entry (λ y. eq e.0 y ≡ false) es k v d.0 (laws.symm e.0 k ∙ apart), rest)

module _ {K V : Type 0} (test : K → Bool) where
  all-remove_entry : (P : K → Type 0) (es : List (K × V)) → AllByRecursion P (keys_of es) → AllByRecursion P (keys_of (remove_entry test es))
  all-remove_entry P [] all = tt
  all-remove_entry P (e ∷ es) all = by (test e.0) (all-remove_entry P es all.1)
    where
      by : (b : Bool) → AllByRecursion P (keys_of (remove_entry test es)) → AllByRecursion P (keys_of (cond b es (e ∷ remove_entry test es)))
      by true rest = all.1
      by false rest = (all.0, rest)

  -- and where one is taken out
  pub distinct-remove_entry : (eq : K → K → Bool) (es : List (K × V)) → IsDistinct eq (keys_of es) → IsDistinct eq (keys_of (remove_entry test es))
  unfolding IsDistinct
  distinct-remove_entry eq [] d = tt
  distinct-remove_entry eq (e ∷ es) d = by (test e.0) (distinct-remove_entry eq es d.1)
    where
      by : (b : Bool) → IsDistinct eq (keys_of (remove_entry test es)) → IsDistinct eq (keys_of (cond b es (e ∷ remove_entry test es)))
      by true rest = d.1
      by false rest = (all-remove_entry (λ y. eq e.0 y ≡ false) es d.0, rest)

module _ {K A B : Type 0} (eq : K → K → Bool) (k : K) (v : B) where
  -- the pair at the place of a key has another second part
  second_at : (es : List (K × (A × B))) (i : ℕ) (d : K × (A × B)) → i < length es → eq k (get_or es i d).0 ≡ true → ((j : ℕ) → j < i → eq k (get_or es j d).0 ≡ false)
      → with_second (eq k) v es ≡ slice_set es i ((get_or es i d).0, ((get_or es i d).1.0, v))
  second_at [] i d within here before = absurd (omega arith)
  second_at (e ∷ es) zero d within here before = ap (λ b. if b then (e.0, (e.1.0, v)) ∷ es else e ∷ with_second (eq k) v es) here
  second_at (e ∷ es) (suc i) d within here before =
      ap (λ b. if b then (e.0, (e.1.0, v)) ∷ es else e ∷ with_second (eq k) v es) (before 0 (omega arith))
      ∙ ap (λ l. e ∷ l) (second_at es i d (omega arith) here (λ j below. before (suc j) (omega arith)))

  pub second_held : (es : List (K × (A × B))) (i : ℕ) (d : K × (A × B)) → position (has_key eq k) es ≡ Some i
      → with_second (eq k) v es ≡ slice_set es i ((get_or es i d).0, ((get_or es i d).1.0, v))
  second_held es i d found =
      let at = position-Some (has_key eq k) es i d found in
      second_at es i d at.0 at.1 at.2

module _ {K A B : Type 0} (test : K → Bool) (v : B) where
  pub with_second-missing : (es : List (K × (A × B))) → lookup test es ≡ None → with_second test v es ≡ es
  with_second-missing es none = apart es (none_passes_from_lookup test es none)
    where
      apart : (fs : List (K × (A × B))) → NonePasses test fs → with_second test v fs ≡ fs
      apart [] h = refl
      apart (f ∷ fs) h = ap (λ b. if b then (f.0, (f.1.0, v)) ∷ fs else f ∷ with_second test v fs) h.0 ∙ ap (λ l. f ∷ l) (apart fs h.1)

  -- the keys stay
  pub keys-with_second : (es : List (K × (A × B))) → keys_of (with_second test v es) ≡ keys_of es
  keys-with_second [] = refl
  keys-with_second (e ∷ es) = by (test e.0) (keys-with_second es)
    where
      by : (b : Bool) → keys_of (with_second test v es) ≡ keys_of es → keys_of (if b then (e.0, (e.1.0, v)) ∷ es else e ∷ with_second test v es) ≡ e.0 ∷ keys_of es
      by true rest = refl
      by false rest = ap (λ l. e.0 ∷ l) rest

  -- where the value comes back, the pairs stay
  pub same-with_second : (r : Result B B) (new es : List (K × (A × B))) → new ≡ with_second test v es → IfErr r (λ same. (same ≡ v) × (lookup test es ≡ None)) → OnErr r (new ≡ es)
  same-with_second (Ok x) new es set absent = tt
  same-with_second (Err e) new es set absent = set ∙ with_second-missing es absent.1

-- keys stay distinct where a key got its value, or nothing was written
pub distinct-set : {K V A E : Type 0} (eq : K → K → Bool) → IsEquivalence eq → (old new : List (K × V)) (k : K) (v : V) (r : Result A E)
    → OnOk r (new ≡ insert_entry eq old k v) → OnErr r (new ≡ old) → IsDistinct eq (keys_of old) → IsDistinct eq (keys_of new)
distinct-set eq laws old new k v (Ok x) set same distinct = subst (λ l. IsDistinct eq (keys_of l)) (sym set) (distinct-insert_entry eq laws old k v distinct)
distinct-set eq laws old new k v (Err e) set same distinct = subst (λ l. IsDistinct eq (keys_of l)) (sym same) distinct
