-- Dicts that are filled from keys, each with the value behind it.
use Rattle.std.proofs.Common.{◌≡◌, ℕ, ◌+◌, ◌*◌, ◌<◌, ◌≤◌, true, false, List, [], ◌∷◌, drop, get_or, length, length-drop, pos, Some, Result, Ok, Err, refl, sym, ap, subst, ◌∙◌, arith, if◌then◌else◌, cond, Bool, Option}
use Rattle.std.specs.List.{All}
use Rattle.std.specs.Map.{lookup}
use Rattle.std.specs.Option.{option_map_or}
use Rattle.std.proofs.lemmas.List.{at_drop_more}
use Rattle.std.proofs.lemmas.List.Elements.{All-cons, All-head, All-nil, All-tail}
use Rattle.rp_base.specs.declared.value.OpEnd.{OpEnd}
use Rattle.rp_base.specs.declared.value.OpEnd.TheVariants as end
use Rattle.rp_base.specs.declared.value.Raised.{Raised}
use Rattle.rp_base.specs.declared.value.Rock.{Rock}
use Rattle.rp_base.specs.declared.value.Rock.TheVariants as rock
use Rattle.rp_base.specs.declared.value.Value.{Value}
use Rattle.rp_base.specs.declared.value.Value.TheVariants as value
use Rattle.rp_dict.specs.Dict.{insert_entry}
use Rattle.rp_meaning.specs.Expressions.{dict_with}
use Rattle.rp_ops.specs.Outcome.{Answers}
use Rattle.rp_store.specs.Heap.{Owned}
use Rattle.rp_store.specs.Kept.{AreSound, IsEntry, IsSound}
use Rattle.rp_store.specs.Key.{key_form, same_key}
use Rattle.rp_store.specs.Object as object
use Rattle.rp_store.specs.Object.{Content, Entries, Entry}
use Rattle.rp_store.specs.Writers.{first_written}
use Rattle.rp_store.specs.declared.key.Key.{Key}
use Rattle.rp_store.specs.declared.key.Key.TheVariants as key
use Rattle.rp_access.specs.Entries.{couples, dict_from}

abbrev on_dict : Result Content Raised → (Content → Result Content Raised) → Result Content Raised
on_dict (Ok c) go = go c
on_dict (Err e) go = Err e

-- a key with its value, and then the others
pair_then : (k v : Value) (c : Content) (ps : List (Value × Value)) → dict_with c ((k, v) ∷ ps) ≡ on_dict (dict_with c ((k, v) ∷ [])) (λ c. dict_with c ps)
pair_then (value.Ref at) v c ps = refl
pair_then (value.Prox at) v c ps = refl
pair_then (value.Rock rock.Nil) v c ps = refl
pair_then (value.Rock (rock.Truth true)) v c ps = refl
pair_then (value.Rock (rock.Truth false)) v c ps = refl
pair_then (value.Rock (rock.Int n)) v c ps = refl
pair_then (value.Rock (rock.Text t)) v c ps = refl
pair_then (value.Rock (rock.Exc k t)) v c ps = refl
pair_then (value.Rock (rock.Kind k)) v c ps = refl
pair_then (value.Rock (rock.Native f)) v c ps = refl

pub pair_more : (es new : Entries) (k v : Value) (vs : List Value) → dict_from es (k ∷ v ∷ []) ≡ Ok (object.dict new) → dict_from es (k ∷ v ∷ vs) ≡ dict_from new vs
pair_more es new k v vs is = pair_then k v (object.dict es) (couples vs) ∙ ap (λ r. on_dict r (λ c. dict_with c (couples vs))) is

pair_fails : (es : Entries) (k v : Value) (vs : List Value) (r : Raised) → dict_from es (k ∷ v ∷ []) ≡ Err r → dict_from es (k ∷ v ∷ vs) ≡ Err r
pair_fails es k v vs r is = pair_then k v (object.dict es) (couples vs) ∙ ap (λ r. on_dict r (λ c. dict_with c (couples vs))) is

-- where a key cannot be put, the whole fails
pub put_fails : (es : Entries) (k v : Value) (us vs : List Value) (e : OpEnd) → dict_from es (k ∷ v ∷ us) ≡ dict_from [] vs
    → Answers {A = Content} (Err e) (dict_from es (k ∷ v ∷ [])) → Answers {A = Content} (Err e) (dict_from [] vs)
put_fails es k v us vs (end.Raised r) same is = sym same ∙ pair_fails es k v us r is
put_fails es k v us vs end.StopSteps same is = is
put_fails es k v us vs end.StopCells same is = is
put_fails es k v us vs end.Memory same is = tt

-- the next key, and the value behind it
pub next_pair : (es : Entries) (vs : List Value) (i : ℕ) (k v : Value) → 2 * i + 1 < length vs → k ≡ get_or vs (2 * i) k → v ≡ get_or vs (2 * i + 1) v
    → dict_from es (drop (2 * i) vs) ≡ dict_from es (k ∷ v ∷ drop (2 * (i + 1)) vs)
next_pair es vs i k v within is_key is_value =
    let twice : 2 * i + 1 + 1 ≡ 2 * (i + 1) = omega arith in
    at_drop_more (dict_from es) vs (2 * i) k (omega arith)
    ∙ ap (λ a. dict_from es (a ∷ drop (2 * i + 1) vs)) (sym is_key)
    ∙ at_drop_more (λ us. dict_from es (k ∷ us)) vs (2 * i + 1) v within
    ∙ ap (λ a. dict_from es (k ∷ a ∷ drop (2 * i + 1 + 1) vs)) (sym is_value)
    ∙ ap (λ n. dict_from es (k ∷ v ∷ drop n vs)) twice

-- what is left has no pair
couples_short : (us : List Value) → length us ≤ 1 → couples us ≡ []
couples_short [] short = refl
couples_short (a ∷ []) short = refl
couples_short (a ∷ b ∷ us) short = absurd (omega arith)

pub none_left : (es : Entries) (vs : List Value) (n : ℕ) → length vs ≤ 2 * n + 1 → dict_from es (drop (2 * n) vs) ≡ Ok (object.dict es)
none_left es vs n short = ap (dict_with (object.dict es)) (couples_short (drop (2 * n) vs) (omega (arith, length-drop (2 * n) vs)))

-- a rock with a key form
pub rock_put : (r : Rock) (k : Key) (v : Value) (es : Entries) → key_form r ≡ Some k
    → dict_from es (value.Rock r ∷ v ∷ []) ≡ Ok (object.dict (insert_entry same_key es k (first_written k r es, v)))
rock_put r k v es is = rw is (rw is refl)

-- every entry of the dict is one that it may hold
module _ (heap : List Owned) where
  module _ (k : Key) (r : Rock) (v : Value) (form : key_form r ≡ Some k) (sound : IsSound heap v) where
    put_case : (b : Bool) (e : Entry) (es : List Entry) (found : Option (Rock × Value)) → IsEntry heap e → All (IsEntry heap) es
        → All (IsEntry heap) (insert_entry same_key es k (option_map_or (λ x. x.0) found r, v))
        → All (IsEntry heap) (if b then (e.0, (option_map_or (λ x. x.0) (cond b (Some e.1) found) r, v)) ∷ es
        else e ∷ insert_entry same_key es k (option_map_or (λ x. x.0) (cond b (Some e.1) found) r, v))
    put_case true e es found is h more = All-cons (IsEntry heap) _ es (is.0, sound) h
    put_case false e es found is h more = All-cons (IsEntry heap) e _ is more

    entry_put : (es : List Entry) → All (IsEntry heap) es → All (IsEntry heap) (insert_entry same_key es k (first_written k r es, v))
    entry_put [] h = All-cons (IsEntry heap) _ [] (form, sound) h
    entry_put (e ∷ es) h =
        put_case (same_key k e.0) e es (lookup (same_key k) es) (All-head (IsEntry heap) e es h) (All-tail (IsEntry heap) e es h)
        (entry_put es (All-tail (IsEntry heap) e es h))

  pub record IsDictHeld (c : Content) : Type 0 where
    pub entries : Entries
    pub is : c ≡ object.dict entries
    pub held : All (IsEntry heap) entries

  of_put : (k : Key) (r : Rock) (v : Value) (es : Entries) (c : Content) (x : Result Content Raised) → key_form r ≡ Some k → IsSound heap v → All (IsEntry heap) es
      → x ≡ Ok (object.dict (insert_entry same_key es k (first_written k r es, v))) → x ≡ Ok c → IsDictHeld c
  of_put k r v es c x form sound h put is = record {
    entries = insert_entry same_key es k (first_written k r es, v);
    is = cc;
    held = entry_put k r v form sound es h;
  }

  one_held : (k v : Value) (es : Entries) (c : Content) → dict_with (object.dict es) ((k, v) ∷ []) ≡ Ok c → All (IsEntry heap) es → IsSound heap v → IsDictHeld c
  one_held (value.Ref at) v es c is h sound = absurd (cc)
  one_held (value.Prox at) v es c is h sound = absurd (cc)
  one_held (value.Rock rock.Nil) v es c is h sound = of_put key.Nil rock.Nil v es c _ refl sound h refl is
  one_held (value.Rock (rock.Truth true)) v es c is h sound = of_put (key.Number (pos 1)) (rock.Truth true) v es c _ refl sound h refl is
  one_held (value.Rock (rock.Truth false)) v es c is h sound = of_put (key.Number (pos 0)) (rock.Truth false) v es c _ refl sound h refl is
  one_held (value.Rock (rock.Int n)) v es c is h sound = of_put (key.Number n) (rock.Int n) v es c _ refl sound h refl is
  one_held (value.Rock (rock.Text t)) v es c is h sound = of_put (key.Text t) (rock.Text t) v es c _ refl sound h refl is
  one_held (value.Rock (rock.Exc k t)) v es c is h sound = absurd (cc)
  one_held (value.Rock (rock.Kind k)) v es c is h sound = absurd (cc)
  one_held (value.Rock (rock.Native f)) v es c is h sound = absurd (cc)

  abbrev SoundPair : Value × Value → Type 0
  SoundPair p = IsSound heap p.1

  dict_held : (ps : List (Value × Value)) (es : Entries) (c : Content) → dict_with (object.dict es) ps ≡ Ok c → All (IsEntry heap) es → All SoundPair ps → IsDictHeld c
  dict_held [] es c is h sound = record { entries = es; is = cc; held = h }
  dict_held (p ∷ ps) es c is h sound =
      by (dict_with (object.dict es) (p ∷ [])) refl (sym (pair_then p.0 p.1 (object.dict es) ps) ∙ is) (λ fs is h. dict_held ps fs c is h (All-tail SoundPair p ps sound))
    where
      by : (r : Result Content Raised) → dict_with (object.dict es) (p ∷ []) ≡ r → on_dict r (λ c. dict_with c ps) ≡ Ok c
          → ((fs : Entries) → dict_with (object.dict fs) ps ≡ Ok c → All (IsEntry heap) fs → IsDictHeld c) → IsDictHeld c
      by (Ok d) step rest more =
          let one = one_held p.0 p.1 es d step h (All-head SoundPair p ps sound) in
          more one.entries (subst (λ (d : Content). dict_with d ps ≡ Ok c) one.is rest) one.held
      by (Err r) step rest more = absurd (cc)

  couples_sound : (vs : List Value) → AreSound heap vs → All SoundPair (couples vs)
  couples_sound [] h = All-nil SoundPair
  couples_sound (k ∷ []) h = All-nil SoundPair
  couples_sound (k ∷ v ∷ vs) h = let rest = All-tail (IsSound heap) k (v ∷ vs) h in
      All-cons SoundPair (k, v) (couples vs) (All-head (IsSound heap) v vs rest) (couples_sound vs (All-tail (IsSound heap) v vs rest))

  pub display_held : (vs : List Value) (c : Content) → dict_from [] vs ≡ Ok c → AreSound heap vs → IsDictHeld c
  display_held vs c is sound = dict_held (couples vs) [] c is (All-nil (IsEntry heap)) (couples_sound vs sound)
