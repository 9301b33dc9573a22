-- Keys are equal as `==` tells, and that is an equivalence.
use Rattle.std.proofs.Common.{◌≡◌, refl, sym, ap, ◌∙◌, true≢false, Bool, true, false, List, [], ◌∷◌, ◌++◌}
use Rattle.std.proofs.Common.{append_assoc, append-nil, encode_utf8_all, Option, Some, if◌then◌else◌}
use Rattle.std.specs.Prelude.{is_some, ◌||◌, ◌&&◌}
use Rattle.std.specs.List.{list_all, list_any}
use Rattle.std.proofs.lemmas.Cmp.{int_eq_equiv, nat_list_eq_equiv}
use Rattle.std.proofs.Math.Bool.{or-false}
use Rattle.rp_base.specs.declared.value.Rock.{Rock}
use Rattle.rp_base.specs.declared.value.Rock.TheVariants as rock
use Rattle.rp_base.specs.declared.value.Value.{Value}
use Rattle.rp_base.specs.declared.value.Value.TheVariants as value
use Rattle.rp_compare.specs.Equality.{rocks_equal}
use Rattle.rp_store.specs.Key.{key_form, same_key}
use Rattle.rp_store.specs.declared.key.Key.{Key}
use Rattle.rp_store.specs.declared.key.Key.TheVariants as key
use Rattle.rp_more_laws.specs.Sets.{EqualKeysAreEqual, distinct_behind, equals, is_key}
use Rattle.rp_store.proofs.CallerLemmas.{same_key-flips}

pub equal_keys : EqualKeysAreEqual
equal_keys depth (value.Rock q) (value.Rock r) s h = refl
equal_keys depth (value.Rock q) (value.Ref at) s h = refl
equal_keys depth (value.Rock q) (value.Prox at) s h = refl
equal_keys depth (value.Ref at) w s h = absurd (true≢false (sym h))
equal_keys depth (value.Prox at) w s h = absurd (true≢false (sym h))

-- ---- keys by their key forms

pub record IsKey (v : Value) : Type 0 where
  pub rock : Rock
  pub key : Key
  pub is_rock : v ≡ value.Rock rock
  pub form : key_form rock ≡ Some key

abbrev pub AreKeys : List Value → Type 0
AreKeys [] = Unit {0}
AreKeys (v ∷ vs) = IsKey v × AreKeys vs

pub key_is : (v : Value) → IsKey v → is_key v ≡ true
key_is v h = ap is_key h.is_rock ∙ ap is_some h.form

pub keys_are : (vs : List Value) → AreKeys vs → list_all is_key vs ≡ true
keys_are [] h = refl
keys_are (v ∷ vs) h = ap (λ b. b && list_all is_key vs) (key_is v h.0) ∙ keys_are vs h.1

pub keys_with : (vs : List Value) (v : Value) → AreKeys vs → IsKey v → AreKeys (vs ++ v ∷ [])
keys_with [] v h k = (k, tt)
keys_with (w ∷ ws) v h k = (h.0, keys_with ws v h.1 k)

abbrev same_forms : Option Key → Option Key → Bool
same_forms (Some k) (Some l) = same_key k l
same_forms k l = false

rocks_same : (q r : Rock) → is_some (key_form q) ≡ true → is_some (key_form r) ≡ true → rocks_equal q r
    ≡ same_forms (key_form q) (key_form r)
rocks_same rock.Nil rock.Nil hq hr = refl
rocks_same rock.Nil (rock.Truth true) hq hr = refl
rocks_same rock.Nil (rock.Truth false) hq hr = refl
rocks_same rock.Nil (rock.Int n) hq hr = refl
rocks_same rock.Nil (rock.Text u) hq hr = refl
rocks_same (rock.Truth true) rock.Nil hq hr = refl
rocks_same (rock.Truth true) (rock.Truth true) hq hr = refl
rocks_same (rock.Truth true) (rock.Truth false) hq hr = refl
rocks_same (rock.Truth true) (rock.Int n) hq hr = refl
rocks_same (rock.Truth true) (rock.Text u) hq hr = refl
rocks_same (rock.Truth false) rock.Nil hq hr = refl
rocks_same (rock.Truth false) (rock.Truth true) hq hr = refl
rocks_same (rock.Truth false) (rock.Truth false) hq hr = refl
rocks_same (rock.Truth false) (rock.Int n) hq hr = refl
rocks_same (rock.Truth false) (rock.Text u) hq hr = refl
rocks_same (rock.Int m) rock.Nil hq hr = refl
rocks_same (rock.Int m) (rock.Truth true) hq hr = refl
rocks_same (rock.Int m) (rock.Truth false) hq hr = refl
rocks_same (rock.Int m) (rock.Int n) hq hr = refl
rocks_same (rock.Int m) (rock.Text u) hq hr = refl
rocks_same (rock.Text t) rock.Nil hq hr = refl
rocks_same (rock.Text t) (rock.Truth true) hq hr = refl
rocks_same (rock.Text t) (rock.Truth false) hq hr = refl
rocks_same (rock.Text t) (rock.Int n) hq hr = refl
rocks_same (rock.Text t) (rock.Text u) hq hr = refl
rocks_same (rock.Exc k t) r hq hr = absurd (true≢false (sym hq))
rocks_same (rock.Kind k) r hq hr = absurd (true≢false (sym hq))
rocks_same (rock.Native f) r hq hr = absurd (true≢false (sym hq))
rocks_same q (rock.Exc k t) hq hr = absurd (true≢false (sym hr))
rocks_same q (rock.Kind k) hq hr = absurd (true≢false (sym hr))
rocks_same q (rock.Native f) hq hr = absurd (true≢false (sym hr))

pub rocks_equal_keys : (q r : Rock) (k l : Key) → key_form q ≡ Some k → key_form r ≡ Some l → rocks_equal q r
    ≡ same_key k l
rocks_equal_keys q r k l hq hr =
    rocks_same q r (ap is_some hq) (ap is_some hr) ∙ ap (λ o. same_forms o (key_form r)) hq
    ∙ ap (λ o. same_forms (Some k) o) hr

pub equals_keys : (v w : Value) (hv : IsKey v) (hw : IsKey w) → equals v w ≡ same_key hv.key hw.key
equals_keys v w hv hw =
    ap (λ v. equals v w) hv.is_rock ∙ ap (λ w. equals (value.Rock hv.rock) w) hw.is_rock
    ∙ rocks_equal_keys hv.rock hw.rock hv.key hw.key hv.form hw.form

alike : (x y z : Key) → same_key x y ≡ true → same_key x z ≡ same_key y z
alike key.Nil key.Nil z e = refl
alike (key.Number m) (key.Number n) (key.Number k) e = int_eq_equiv.congr m n k e
alike (key.Number m) (key.Number n) key.Nil e = refl
alike (key.Number m) (key.Number n) (key.Text t) e = refl
alike (key.Text s) (key.Text t) (key.Text u) e =
    nat_list_eq_equiv.congr (encode_utf8_all s) (encode_utf8_all t) (encode_utf8_all u) e
alike (key.Text s) (key.Text t) key.Nil e = refl
alike (key.Text s) (key.Text t) (key.Number n) e = refl
alike _ _ z e = absurd (true≢false (sym e))

-- what equals v equals x, where these are equal
equals_alike : (a v x : Value) → IsKey a → IsKey v → IsKey x → equals v x ≡ true → equals a v ≡ equals a x
equals_alike a v x ha hv hx e =
    equals_keys a v ha hv ∙ same_key-flips ha.key hv.key
    ∙ alike hv.key hx.key ha.key (sym (equals_keys v x hv hx) ∙ e)
    ∙ same_key-flips hx.key ha.key ∙ sym (equals_keys a x ha hx)

-- ---- an element that equals one before it may be left out

or_again : (b c : Bool) → ((b || c) || b) ≡ (b || c)
or_again true c = refl
or_again false c = or-false c

or_later : (b c d : Bool) → (c || d) ≡ c → ((b || c) || d) ≡ (b || c)
or_later true c d e = refl
or_later false c d e = e

or_between : (x d y : Bool) → ((x || d) || y) ≡ (x || (d || y))
or_between true d y = refl
or_between false d y = refl

absorbed : (a v : Value) (xs : List Value) → IsKey a → IsKey v → AreKeys xs → list_any (equals v) xs ≡ true
    → (list_any (equals a) xs || equals a v) ≡ list_any (equals a) xs
absorbed a v [] ha hv hs e = absurd (true≢false (sym e))
absorbed a v (x ∷ xs) ha hv hs e = by (equals v x) refl (λ e. absorbed a v xs ha hv hs.1 e) e where
  by : (b : Bool) → equals v x ≡ b
      → (list_any (equals v) xs ≡ true → (list_any (equals a) xs || equals a v) ≡ list_any (equals a) xs)
      → (b || list_any (equals v) xs) ≡ true
      → ((equals a x || list_any (equals a) xs) || equals a v) ≡ (equals a x || list_any (equals a) xs)
  by true here rest e =
      ap (λ d. (equals a x || list_any (equals a) xs) || d) (equals_alike a v x ha hv hs.0 here)
      ∙ or_again (equals a x) (list_any (equals a) xs)
  by false apart rest e = or_later (equals a x) (list_any (equals a) xs) (equals a v) (rest e)

any_with : (a v : Value) (xs : List Value) → list_any (equals a) (xs ++ v ∷ []) ≡ (list_any (equals a) xs || equals a v)
any_with a v [] = or-false (equals a v)
any_with a v (x ∷ xs) = ap (λ b. equals a x || b) (any_with a v xs)
    ∙ sym (or_between (equals a x) (list_any (equals a) xs) (equals a v))

pub members_same : (a : Value) (xs vs : List Value) → IsKey a → AreKeys xs → AreKeys vs
    → list_any (equals a) (xs ++ distinct_behind xs vs) ≡ (list_any (equals a) xs || list_any (equals a) vs)
members_same a xs [] ha hs h = ap (list_any (equals a)) (append-nil xs) ∙ sym (or-false (list_any (equals a) xs))
members_same a xs (v ∷ vs) ha hs h =
    by (list_any (equals v) xs) refl (members_same a xs vs ha hs h.1)
    (members_same a (xs ++ v ∷ []) vs ha (keys_with xs v hs h.0) h.1) where
      by : (b : Bool) → list_any (equals v) xs ≡ b
          → list_any (equals a) (xs ++ distinct_behind xs vs) ≡ (list_any (equals a) xs || list_any (equals a) vs)
          → list_any (equals a) ((xs ++ v ∷ []) ++ distinct_behind (xs ++ v ∷ []) vs)
          ≡ (list_any (equals a) (xs ++ v ∷ []) || list_any (equals a) vs)
          → list_any (equals a) (xs ++ (if b then distinct_behind xs vs else v ∷ distinct_behind (xs ++ v ∷ []) vs))
          ≡ (list_any (equals a) xs || (equals a v || list_any (equals a) vs))
      by true e rest more =
          rest ∙ ap (λ b. b || list_any (equals a) vs) (sym (absorbed a v xs ha h.0 hs e))
          ∙ or_between (list_any (equals a) xs) (equals a v) (list_any (equals a) vs)
      by false e rest more =
          ap (list_any (equals a)) (sym (append_assoc xs (v ∷ []) (distinct_behind (xs ++ v ∷ []) vs)))
          ∙ more ∙ ap (λ b. b || list_any (equals a) vs) (any_with a v xs)
          ∙ or_between (list_any (equals a) xs) (equals a v) (list_any (equals a) vs)
