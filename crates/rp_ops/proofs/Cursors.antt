-- Walks: each element by itself, and all of them.
use Rattle.std.proofs.Common.{◌≡◌, ℕ, zero, suc, ◌+◌, ◌≤◌, ◌++◌, Bool, true, false, List, [], ◌∷◌, length, map, drop, slice_get, codes, Option, Some, None, Result, Ok, Err, IfOk, IsUtf8, encode_utf8, encode_utf8_all, refl, sym, ap, subst, ◌∙◌, arith}
use Rattle.std.proofs.lemmas.Bool.{eq-eqb}
use Rattle.std.proofs.lemmas.List.{length-map}
use Rattle.std.proofs.lemmas.List.{drop_all}
use Rattle.std.proofs.lemmas.Str.{IsCharBoundary-past_char, IsUtf8-drop, chars-nil, chars_past_char, drop_past_char}
use Rattle.std.specs.Char.{len_utf8}
use Rattle.std.specs.Str.{IsCharBoundary, chars}
use Rattle.std.specs.Option.{IfSome, option_map_or}
use Rattle.rp_base.specs.declared.kind.Kind.TheVariants.{TypeError}
use Rattle.rp_base.specs.declared.value.Oid.{Oid}
use Rattle.rp_base.specs.declared.value.OpEnd.{OpEnd}
use Rattle.rp_base.specs.declared.value.Rock.{Rock}
use Rattle.rp_base.specs.declared.value.Rock.TheVariants as rock
use Rattle.rp_base.specs.declared.value.Value.{Value}
use Rattle.rp_base.specs.declared.value.Value.TheVariants as value
use Rattle.rp_store.specs.Heap.{Owned, content_at}
use Rattle.rp_store.specs.Kept.{IsSound}
use Rattle.rp_store.specs.Object as object
use Rattle.rp_store.specs.Object.{Content}
use Rattle.rp_store.specs.Parts.{entries}
use Rattle.rp_store.specs.Store.{Cells}
use Rattle.rp_ops.proofs.Walks.{spelled-unfolded}
use Rattle.rp_ops.specs.Binary.{new_text}
use Rattle.rp_ops.specs.Outcome.{End, Meets, Outcome, State, gives, on_value, state_of, stepped}
use Rattle.rp_ops.specs.Standing.{letters_left}
use Rattle.rp_ops.specs.View.{handed, held_by, key_rock}
use Rattle.rp_ops.specs.Walk.{Cursor, GivesElements, Walks, WalksFrom, at_end, characters_from, content_elements, content_walk, cut_off, elements_from, elements_in, further, keys_from, keys_in, next_character, next_key, next_of, not_walked, rock_elements, rock_walk, spelled_out, taken, walked, with_cursor}
use Rattle.rp_ops.specs.Numbers.{refused}
use Rattle.rp_base.proofs.CallerLemmas.{bytes_from_view}

-- what is left of a list begins with the element at the index

get-drop : {A : Type 0} (xs : List A) (i : ℕ) → slice_get xs i ≡ slice_get (drop i xs) 0
get-drop xs zero = refl
get-drop [] (suc i) = refl
get-drop (x ∷ xs) (suc i) = get-drop xs i

drop-suc : {A : Type 0} (xs : List A) (i : ℕ) → drop (suc i) xs ≡ drop 1 (drop i xs)
drop-suc xs zero = refl
drop-suc [] (suc i) = refl
drop-suc (x ∷ xs) (suc i) = drop-suc xs i

drop-next : {A : Type 0} (xs rest : List A) (x : A) (i : ℕ) → drop i xs ≡ x ∷ rest → drop (i + 1) xs ≡ rest
drop-next xs rest x i e =
    let more : i + 1 ≡ suc i = omega arith in
    ap (λ k. drop k xs) more ∙ drop-suc xs i ∙ ap (λ l. drop 1 l) e

get-next : {A : Type 0} (xs rest : List A) (x : A) (i : ℕ) → drop i xs ≡ x ∷ rest → slice_get xs i ≡ Some x
get-next xs rest x i e = get-drop xs i ∙ ap (λ l. slice_get l 0) e

get-end : {A : Type 0} (xs : List A) (i : ℕ) → drop i xs ≡ [] → slice_get xs i ≡ None
get-end xs i e = get-drop xs i ∙ ap (λ l. slice_get l 0) e

-- a walk to its end

walks-list : (lent : Bool) (at : Oid) (store : Cells) (i n : ℕ) (rest : List Value) → drop i (elements_in store.heap lent at) ≡ rest
    → Walks (elements_from lent at i) (state_of store n) (walked rest (state_of store n))
walks-list lent at store i n [] e = at_end (ap (λ o. taken o (elements_from lent at (i + 1)) (state_of store n)) (get-end (elements_in store.heap lent at) i e))
walks-list lent at store i zero (x ∷ rest) e =
    cut_off (ap (λ o. taken o (elements_from lent at (i + 1)) (state_of store 0)) (get-next (elements_in store.heap lent at) rest x i e))
walks-list lent at store i (suc n) (x ∷ rest) e =
    further (ap (λ o. taken o (elements_from lent at (i + 1)) (state_of store (suc n))) (get-next (elements_in store.heap lent at) rest x i e))
    (walks-list lent at store (i + 1) n rest (drop-next (elements_in store.heap lent at) rest x i e))

pub next_key-within : (keys : List Value) (at : Oid) (i size : ℕ) (s : State) → length keys ≡ size → next_key keys at i size s ≡ taken (slice_get keys i) (keys_from at (i + 1) size) s
next_key-within keys at i size s full = rw (eq-eqb (length keys) size full) refl

walks-keys : (at : Oid) (store : Cells) (size : ℕ) → length (keys_in store.heap at) ≡ size → (i n : ℕ) (rest : List Value) → drop i (keys_in store.heap at) ≡ rest
    → Walks (keys_from at i size) (state_of store n) (walked rest (state_of store n))
walks-keys at store size full i n [] e =
    at_end (next_key-within (keys_in store.heap at) at i size (state_of store n) full
    ∙ ap (λ o. taken o (keys_from at (i + 1) size) (state_of store n)) (get-end (keys_in store.heap at) i e))
walks-keys at store size full i zero (x ∷ rest) e =
    cut_off (next_key-within (keys_in store.heap at) at i size (state_of store 0) full
    ∙ ap (λ o. taken o (keys_from at (i + 1) size) (state_of store 0)) (get-next (keys_in store.heap at) rest x i e))
walks-keys at store size full i (suc n) (x ∷ rest) e =
    further (next_key-within (keys_in store.heap at) at i size (state_of store (suc n)) full
    ∙ ap (λ o. taken o (keys_from at (i + 1) size) (state_of store (suc n))) (get-next (keys_in store.heap at) rest x i e))
    (walks-keys at store size full (i + 1) n rest (drop-next (keys_in store.heap at) rest x i e))

-- an element, and where the walk then stands
abbrev pub before : Cursor → Outcome Value → Outcome (Option (Value × Cursor))
before c o = on_value o (λ v s. gives (Some (v, c)) s)

character-unfolded : (c : ℕ) (cs : List ℕ) (s : State) → next_character (c ∷ cs) s ≡ before (characters_from cs) (stepped s (new_text (c ∷ [])))
character-unfolded c cs s = by s.store s.steps where
  by : (store : Cells) (n : ℕ) → next_character (c ∷ cs) (state_of store n) ≡ before (characters_from cs) (stepped (state_of store n) (new_text (c ∷ [])))
  by store zero = refl
  by store (suc n) = refl

taken-unfolded : (v : Value) (c : Cursor) (s : State) → taken (Some v) c s ≡ before c (stepped s (gives v))
taken-unfolded v c s = by s.store s.steps where
  by : (store : Cells) (n : ℕ) → taken (Some v) c (state_of store n) ≡ before c (stepped (state_of store n) (gives v))
  by store zero = refl
  by store (suc n) = refl

walks-letter : (c : ℕ) (cs : List ℕ) (s : State) → ((t : State) → Walks (characters_from cs) t (spelled_out cs t)) → (a : Result Value End) (t : State)
    → stepped s (new_text (c ∷ [])) ≡ record { answer = a; state = t } → Walks (characters_from (c ∷ cs)) s (spelled_out (c ∷ cs) s)
walks-letter c cs s rest (Ok v) t e =
    subst (λ (o : Outcome (List Value)). Walks (characters_from (c ∷ cs)) s o)
    (sym (spelled-unfolded c cs s ∙ ap (λ o. on_value o (λ v s. on_value (spelled_out cs s) (λ vs s. gives (v ∷ vs) s))) e))
    (further (character-unfolded c cs s ∙ ap (before (characters_from cs)) e) (rest t))
walks-letter c cs s rest (Err f) t e =
    subst (λ (o : Outcome (List Value)). Walks (characters_from (c ∷ cs)) s o)
    (sym (spelled-unfolded c cs s ∙ ap (λ o. on_value o (λ v s. on_value (spelled_out cs s) (λ vs s. gives (v ∷ vs) s))) e))
    (cut_off (character-unfolded c cs s ∙ ap (before (characters_from cs)) e))

walks-letters : (cs : List ℕ) (s : State) → Walks (characters_from cs) s (spelled_out cs s)
walks-letters [] s = at_end refl
walks-letters (c ∷ cs) s = walks-letter c cs s (walks-letters cs) (stepped s (new_text (c ∷ []))).answer (stepped s (new_text (c ∷ []))).state refl

rock-gives : (r : Rock) (s : State) → WalksFrom (rock_walk r) s (rock_elements r s)
rock-gives (rock.Text t) s = walks-letters t s
rock-gives _ s = refl

object-gives : (lent : Bool) (at : Oid) (store : Cells) (n : ℕ) (c : Option Content) → content_at store.heap at ≡ c
    → WalksFrom (option_map_or (content_walk lent at) c (refused TypeError (codes "iterate"))) (state_of store n)
    (option_map_or (λ c. content_elements (handed lent) c (state_of store n)) c (not_walked (state_of store n)))
object-gives lent at store n None e = refl
object-gives lent at store n (Some (object.list xs)) e =
    walks-list lent at store 0 n (map (handed lent) xs) (ap (λ c. map (handed lent) (option_map_or held_by c [])) e)
object-gives lent at store n (Some (object.tuple xs)) e =
    walks-list lent at store 0 n (map (handed lent) xs) (ap (λ c. map (handed lent) (option_map_or held_by c [])) e)
object-gives lent at store n (Some (object.dict es)) e =
    walks-keys at store (length es) (ap (λ c. length (map key_rock (option_map_or entries c []))) e ∙ length-map es key_rock) 0 n (map key_rock es)
    (ap (λ c. map key_rock (option_map_or entries c [])) e)
object-gives lent at store n (Some _) e = refl

-- a walk to its end gives the elements
pub gives-elements : (a : Value) (s : State) → GivesElements a s
gives-elements (value.Rock r) s = rock-gives r s
gives-elements (value.Ref at) s = object-gives false at s.store s.steps (content_at s.store.heap at) refl
gives-elements (value.Prox at) s = object-gives true at s.store s.steps (content_at s.store.heap at) refl

module _ (bs t rest : List ℕ) (i c : ℕ) (utf8 : IsUtf8 bs) (is : chars bs ≡ t) (boundary : IsCharBoundary (encode_utf8_all t) i) (next : drop i bs ≡ encode_utf8 c ++ rest) where
  abbrev here : IsCharBoundary bs i
  here = subst (λ (l : List ℕ). IsCharBoundary l i) (bytes_from_view bs t utf8 is) boundary

  -- the character that begins at a byte, and those that are left
  pub letters-first : letters_left t i ≡ c ∷ letters_left t (i + len_utf8 c)
  letters-first =
      ap (λ l. chars (drop i l)) (bytes_from_view bs t utf8 is) ∙ chars_past_char (drop i bs) rest c (IsUtf8-drop bs i utf8 here) next
      ∙ ap (λ l. c ∷ chars l) (sym (drop_past_char bs rest i c next)) ∙ ap (λ l. c ∷ chars (drop (i + len_utf8 c) l)) (sym (bytes_from_view bs t utf8 is))

  pub letters-after : IsCharBoundary (encode_utf8_all t) (i + len_utf8 c)
  letters-after =
      subst (λ (l : List ℕ). IsCharBoundary l (i + len_utf8 c)) (sym (bytes_from_view bs t utf8 is))
      (IsCharBoundary-past_char bs rest i c here.0 (IsUtf8-drop bs i utf8 here) next)

pub letters-end : (bs t : List ℕ) (i : ℕ) → IsUtf8 bs → chars bs ≡ t → length bs ≤ i → letters_left t i ≡ []
letters-end bs t i utf8 is past = ap (λ l. chars (drop i l)) (bytes_from_view bs t utf8 is) ∙ ap chars (drop_all i bs past) ∙ chars-nil

-- what was proved of a part is so of the whole

pub carried : (r q : Result (Option Value) OpEnd) (d e old now : Cursor) (store same : Cells) (n k : ℕ) (s : State) → r ≡ q → d ≡ e → store ≡ same → n ≡ k → now ≡ old
    → Meets (with_cursor e q) (state_of same k) (next_of old s) → Meets (with_cursor d r) (state_of store n) (next_of now s)
carried r q d e old now store same n k s result cursor stays left begun h =
    subst (λ (c : Cursor). Meets (with_cursor d r) (state_of store n) (next_of c s)) (sym begun)
    (subst (λ (m : ℕ). Meets (with_cursor d r) (state_of store m) (next_of old s)) (sym left)
    (subst (λ (t : Cells). Meets (with_cursor d r) (state_of t k) (next_of old s)) (sym stays)
    (subst (λ (c : Cursor). Meets (with_cursor c r) (state_of same k) (next_of old s)) (sym cursor)
    (subst (λ (x : Result (Option Value) OpEnd). Meets (with_cursor e x) (state_of same k) (next_of old s)) (sym result) h))))

pub sound-carried : (heap new : List Owned) (r q : Result (Option Value) OpEnd) → r ≡ q → new ≡ heap
    → IfOk q (λ found. IfSome found (λ v. IsSound heap v)) → IfOk r (λ found. IfSome found (λ v. IsSound new v))
sound-carried heap new r q result same h =
    subst (λ (l : List Owned). IfOk r (λ found. IfSome found (λ v. IsSound l v))) (sym same)
    (subst (λ (x : Result (Option Value) OpEnd). IfOk x (λ found. IfSome found (λ v. IsSound heap v))) (sym result) h)
