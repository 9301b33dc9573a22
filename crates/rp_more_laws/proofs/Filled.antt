-- What the dict of a set display holds: its elements, each by its first occurrence.
use Rattle.std.proofs.Common.{◌≡◌, refl, sym, ap, ◌∙◌, Bool, true, false, cond, List, [], ◌∷◌, ◌++◌, append_assoc}
use Rattle.std.proofs.Common.{append-nil, map, Option, Some, Result, Ok, Err, pos, if◌then◌else◌}
use Rattle.std.specs.Prelude.{is_some, ◌||◌}
use Rattle.std.specs.List.{list_any}
use Rattle.std.specs.Map.{lookup}
use Rattle.std.specs.Option.{option_and_then, option_map_or}
use Rattle.rp_base.specs.declared.value.Raised.{Raised}
use Rattle.rp_base.specs.declared.value.Rock.{Rock}
use Rattle.rp_base.specs.declared.value.Rock.TheVariants as rock
use Rattle.rp_base.specs.declared.value.Value.{Value}
use Rattle.rp_base.specs.declared.value.Value.TheVariants as value
use Rattle.rp_dict.specs.Dict.{insert_entry}
use Rattle.rp_ops.specs.Keys.{entry_in}
use Rattle.rp_ops.specs.View.{key_rock}
use Rattle.rp_store.specs.Key.{key_form, same_key}
use Rattle.rp_store.specs.declared.key.Key.{Key}
use Rattle.rp_store.specs.declared.key.Key.TheVariants as key
use Rattle.rp_store.specs.Object as object
use Rattle.rp_store.specs.Object.{Content, Entry}
use Rattle.rp_store.specs.Writers.{first_written}
use Rattle.rp_meaning.specs.Expressions.{dict_with, nil}
use Rattle.rp_more_laws.specs.Sets.{distinct, distinct_behind, equals}
use Rattle.rp_more_laws.proofs.Keys.{AreKeys, members_same, rocks_equal_keys}

-- each entry stands under the key form of its rock
abbrev pub AreKeyed : List Entry → Type 0
AreKeyed [] = Unit {0}
AreKeyed (e ∷ es) = (key_form e.1.0 ≡ Some e.0) × AreKeyed es

abbrev pub rocks_of : List Entry → List Value
rocks_of es = map key_rock es

-- ---- whether a key is held

pub found_any : (q : Rock) (k : Key) (es : List Entry) → key_form q ≡ Some k → AreKeyed es
    → is_some (lookup (same_key k) es) ≡ list_any (equals (value.Rock q)) (rocks_of es)
found_any q k [] hk h = refl
found_any q k (e ∷ es) hk h =
    by (same_key k e.0) (found_any q k es hk h.1)
    ∙ ap (λ b. b || list_any (equals (value.Rock q)) (rocks_of es)) (sym (rocks_equal_keys q e.1.0 k e.0 hk h.0)) where
      by : (b : Bool) → is_some (lookup (same_key k) es) ≡ list_any (equals (value.Rock q)) (rocks_of es)
          → is_some (cond b (Some e.1) (lookup (same_key k) es)) ≡ (b || list_any (equals (value.Rock q)) (rocks_of es))
      by true rest = refl
      by false rest = rest

-- ---- a key is put

abbrev put : List Entry → Rock → Key → List Entry
put es q k = insert_entry same_key es k (first_written k q es, nil)

-- the same, of entries of which those that are left have the key under this entry
abbrev put_found : List Entry → Rock → Key → Option (Rock × Value) → List Entry
put_found es q k found = insert_entry same_key es k (option_map_or (λ x. x.0) found q, nil)

abbrev with_new : Bool → List Value → Value → List Value
with_new b xs v = if b then xs else xs ++ v ∷ []

with_new_behind : (b : Bool) (x : Value) (xs : List Value) (v : Value) → (x ∷ with_new b xs v) ≡ with_new b (x ∷ xs) v
with_new_behind true x xs v = refl
with_new_behind false x xs v = refl

put_rocks : (q : Rock) (k : Key) (es : List Entry) → key_form q ≡ Some k → AreKeyed es
    → rocks_of (put es q k) ≡ with_new (list_any (equals (value.Rock q)) (rocks_of es)) (rocks_of es) (value.Rock q)
put_rocks q k [] hk h = refl
put_rocks q k (e ∷ es) hk h =
    by (same_key k e.0) (put_rocks q k es hk h.1)
    ∙ ap (λ b. with_new (b || list_any (equals (value.Rock q)) (rocks_of es)) (rocks_of (e ∷ es)) (value.Rock q))
    (sym (rocks_equal_keys q e.1.0 k e.0 hk h.0)) where
      by : (b : Bool) → rocks_of (put es q k) ≡ with_new (list_any (equals (value.Rock q)) (rocks_of es)) (rocks_of es)
          (value.Rock q)
          → rocks_of (if b then (e.0, (option_map_or (λ x. x.0) (cond b (Some e.1) (lookup (same_key k) es)) q, nil)) ∷ es
          else e ∷ put_found es q k (cond b (Some e.1) (lookup (same_key k) es)))
          ≡ with_new (b || list_any (equals (value.Rock q)) (rocks_of es)) (rocks_of (e ∷ es)) (value.Rock q)
      by true rest = refl
      by false rest =
          ap (λ l. key_rock e ∷ l) rest
          ∙ with_new_behind (list_any (equals (value.Rock q)) (rocks_of es)) (key_rock e) (rocks_of es) (value.Rock q)

put_keyed : (q : Rock) (k : Key) (es : List Entry) → key_form q ≡ Some k → AreKeyed es → AreKeyed (put es q k)
put_keyed q k [] hk h = (hk, tt)
put_keyed q k (e ∷ es) hk h = by (same_key k e.0) (put_keyed q k es hk h.1) where
  by : (b : Bool) → AreKeyed (put es q k)
      → AreKeyed (if b then (e.0, (option_map_or (λ x. x.0) (cond b (Some e.1) (lookup (same_key k) es)) q, nil)) ∷ es
      else e ∷ put_found es q k (cond b (Some e.1) (lookup (same_key k) es)))
  by true rest = (h.0, h.1)
  by false rest = (h.0, rest)

-- ---- all elements are put

-- what stands in the dict that was made of elements, where these entries were there before
pub record IsFilled (es : List Entry) (vs : List Value) (c : Content) : Type 0 where
  pub entries : List Entry
  pub is_dict : c ≡ object.dict entries
  pub keyed : AreKeyed entries
  pub rocks : rocks_of entries ≡ rocks_of es ++ distinct_behind (rocks_of es) vs
  pub keys : AreKeys vs

abbrev pub OnOk : Result Content Raised → (Content → Type 0) → Type 0
OnOk (Ok c) P = P c
OnOk (Err e) P = Unit {0}

weaker : (r : Result Content Raised) (P Q : Content → Type 0) → ((c : Content) → P c → Q c) → OnOk r P → OnOk r Q
weaker (Ok c) P Q f h = f c h
weaker (Err e) P Q f h = tt

abbrev pub with_nil : Value → Value × Value
with_nil v = (v, nil)

grown : (b : Bool) (xs : List Value) (v : Value) (vs : List Value)
    → with_new b xs v ++ distinct_behind (with_new b xs v) vs
    ≡ xs ++ (if b then distinct_behind xs vs else v ∷ distinct_behind (xs ++ v ∷ []) vs)
grown true xs v vs = refl
grown false xs v vs = append_assoc xs (v ∷ []) (distinct_behind (xs ++ v ∷ []) vs)

one_more : (q : Rock) (k : Key) (es : List Entry) (vs : List Value) (c : Content) → key_form q ≡ Some k → AreKeyed es
    → IsFilled (put es q k) vs c
    → IsFilled es (value.Rock q ∷ vs) c
one_more q k es vs c hk h f = record {
  entries = f.entries;
  is_dict = f.is_dict;
  keyed = f.keyed;
  rocks = f.rocks ∙ ap (λ (l : List Value). l ++ distinct_behind l vs) (put_rocks q k es hk h)
      ∙ grown (list_any (equals (value.Rock q)) (rocks_of es)) (rocks_of es) (value.Rock q) vs;
  keys = (record { rock = q; key = k; is_rock = refl; form = hk }, f.keys);
}

put_more : (q : Rock) (k : Key) (es : List Entry) (vs : List Value) → key_form q ≡ Some k → AreKeyed es
    → OnOk (dict_with (object.dict (put es q k)) (map with_nil vs)) (IsFilled (put es q k) vs)
    → OnOk (dict_with (object.dict (put es q k)) (map with_nil vs)) (IsFilled es (value.Rock q ∷ vs))
put_more q k es vs hk h f =
    weaker (dict_with (object.dict (put es q k)) (map with_nil vs)) (IsFilled (put es q k) vs)
    (IsFilled es (value.Rock q ∷ vs))
    (λ c f. one_more q k es vs c hk h f) f

pub filled : (es : List Entry) (vs : List Value) → AreKeyed es → OnOk (dict_with (object.dict es) (map with_nil vs))
    (IsFilled es vs)
filled es [] h = record { entries = es; is_dict = refl; keyed = h; rocks = sym (append-nil (rocks_of es)); keys = tt }
filled es (value.Ref at ∷ vs) h = tt
filled es (value.Prox at ∷ vs) h = tt
filled es (value.Rock (rock.Exc k t) ∷ vs) h = tt
filled es (value.Rock (rock.Kind k) ∷ vs) h = tt
filled es (value.Rock (rock.Native f) ∷ vs) h = tt
filled es (value.Rock rock.Nil ∷ vs) h =
    put_more rock.Nil key.Nil es vs refl h (filled (put es rock.Nil key.Nil) vs (put_keyed rock.Nil key.Nil es refl h))
filled es (value.Rock (rock.Truth true) ∷ vs) h =
    put_more (rock.Truth true) (key.Number (pos 1)) es vs refl h
    (filled (put es (rock.Truth true) (key.Number (pos 1))) vs
    (put_keyed (rock.Truth true) (key.Number (pos 1)) es refl h))
filled es (value.Rock (rock.Truth false) ∷ vs) h =
    put_more (rock.Truth false) (key.Number (pos 0)) es vs refl h
    (filled (put es (rock.Truth false) (key.Number (pos 0))) vs
    (put_keyed (rock.Truth false) (key.Number (pos 0)) es refl h))
filled es (value.Rock (rock.Int n) ∷ vs) h =
    put_more (rock.Int n) (key.Number n) es vs refl h
    (filled (put es (rock.Int n) (key.Number n)) vs (put_keyed (rock.Int n) (key.Number n) es refl h))
filled es (value.Rock (rock.Text t) ∷ vs) h =
    put_more (rock.Text t) (key.Text t) es vs refl h
    (filled (put es (rock.Text t) (key.Text t)) vs (put_keyed (rock.Text t) (key.Text t) es refl h))

-- whether a key is held is whether an element equals it
pub entry_any : (q : Rock) (k : Key) (es : List Entry) (vs : List Value) → key_form q ≡ Some k → AreKeyed es
    → rocks_of es ≡ distinct vs → AreKeys vs
    → is_some (entry_in es q) ≡ list_any (equals (value.Rock q)) vs
entry_any q k es vs hk h e keys =
    ap (λ o. is_some (option_and_then (λ key. lookup (same_key key) es) o)) hk ∙ found_any q k es hk h
    ∙ ap (list_any (equals (value.Rock q))) e
    ∙ members_same (value.Rock q) [] vs (record { rock = q; key = k; is_rock = refl; form = hk }) tt keys
