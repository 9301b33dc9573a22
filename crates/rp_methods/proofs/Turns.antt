-- Texts that are gone through one after another.
use Rattle.std.proofs.Common.{◌≡◌, ℕ, suc, ◌+◌, ◌*◌, ◌<◌, ◌≤◌, List, [], ◌∷◌, ◌++◌, append-nil, append_assoc, chars, drop, drop-cons, add-one, get_or, length, length-append, encode_utf8_all, map, Option, Some, None, Result, Ok, Err, IsErrAnd, refl, sym, ap, subst, ◌∙◌, arith}
use Rattle.std.specs.Option.{option_map_or}
use Rattle.std.specs.Str.{IsUtf8}
use Rattle.std.proofs.lemmas.List.{length-map}
use Rattle.std.specs.List.{concat}
use Rattle.std.proofs.lemmas.List.Elements.{All-cons, All-nil, All-same}
use Rattle.std.proofs.lemmas.Str.{chars_from_encodes, encodes-append}
use Rattle.rp_base.specs.declared.value.Value.{Value}
use Rattle.rp_store.specs.Heap.{Owned}
use Rattle.rp_store.specs.Kept.{AreSound, IsSound}
use Rattle.rp_base.specs.declared.value.OpEnd.{OpEnd}
use Rattle.rp_base.specs.declared.value.OpEnd.TheVariants as end
use Rattle.rp_base.specs.declared.value.Side.{Side}
use Rattle.rp_store.specs.Object as object
use Rattle.rp_store.specs.Store.{Cells, IsOver}
use Rattle.rp_ops.specs.Binary.{new_text}
use Rattle.rp_ops.specs.Outcome.{Meets, Outcome, State, ends, gives, no_cell, state_of}
use Rattle.rp_ops.proofs.CallerLemmas.{charged-over, charged-within, used}
use Rattle.rp_methods.specs.Dicts.{next_object, with_added}
use Rattle.rp_methods.specs.Texts.{joined, letters_of, preceded, text_in, text_value, texts_listed}

-- the value at a place is the first of what is left
value-front : (vs : List Value) (i : ℕ) (v : Value) → v ≡ get_or vs i v → i < length vs → drop i vs ≡ v ∷ drop (i + 1) vs
value-front vs i v is less = drop-cons vs i v less ∙ ap (λ (x : Value). x ∷ drop (suc i) vs) (sym is) ∙ ap (λ (n : ℕ). v ∷ drop n vs) (sym (add-one i))

-- the bytes of texts
abbrev pub bytes_in : List Value → ℕ
bytes_in vs = length (encode_utf8_all (concat (map letters_of vs)))

bytes-more : (v : Value) (vs : List Value) → bytes_in (v ∷ vs) ≡ length (encode_utf8_all (letters_of v)) + bytes_in vs
bytes-more v vs =
    ap length (encodes-append (letters_of v) (concat (map letters_of vs)))
    ∙ length-append (encode_utf8_all (letters_of v)) (encode_utf8_all (concat (map letters_of vs)))

pub bytes-turn : (vs : List Value) (i : ℕ) (v : Value) → v ≡ get_or vs i v → i < length vs → bytes_in (drop i vs) ≡ length (encode_utf8_all (letters_of v)) + bytes_in (drop (i + 1) vs)
bytes-turn vs i v is less = ap bytes_in (value-front vs i v is less) ∙ bytes-more v (drop (i + 1) vs)

-- the bytes of texts with one between each two
abbrev pub bytes_preceded : List ℕ → List Value → List ℕ
bytes_preceded between vs = encode_utf8_all (preceded between (map letters_of vs))

-- one text more is put behind
pub joined-turn : (between so_far more whole : List ℕ) (vs : List Value) (i : ℕ) (v : Value) → v ≡ get_or vs i v → i < length vs
    → so_far ++ bytes_preceded between (drop i vs) ≡ whole → more ≡ so_far ++ encode_utf8_all (between ++ letters_of v)
    → more ++ bytes_preceded between (drop (i + 1) vs) ≡ whole
joined-turn between so_far more whole vs i v is less before put =
    let piece = between ++ letters_of v in
    let rest = preceded between (map letters_of (drop (i + 1) vs)) in
    ap (λ (l : List ℕ). l ++ encode_utf8_all rest) put
    ∙ append_assoc so_far (encode_utf8_all piece) (encode_utf8_all rest)
    ∙ ap (λ (l : List ℕ). so_far ++ l) (sym (encodes-append piece rest))
    ∙ ap (λ (l : List Value). so_far ++ bytes_preceded between l) (sym (value-front vs i v is less))
    ∙ before

-- a front that is too long makes the whole too long
pub longer : (front rest whole : List ℕ) (n : ℕ) → front ++ rest ≡ whole → n < length front → n < length whole
longer front rest whole n e h = let m = length-append front rest in let l = ap length e in omega (m, l, h, arith)

-- the bytes of the whole, from those of the first text and of the others
pub joined-bytes : (between : List ℕ) (values : List Value) (v : Value) (vs : List Value) → values ≡ v ∷ vs
    → encode_utf8_all (letters_of v) ++ bytes_preceded between vs ≡ encode_utf8_all (joined between (map letters_of values))
joined-bytes between values v vs e =
    sym (encodes-append (letters_of v) (preceded between (map letters_of vs))) ∙ ap (λ (l : List Value). encode_utf8_all (joined between (map letters_of l))) (sym e)

-- the letters of a value that is a text, and of one that is none
pub letters-some : (v : Value) (t : List ℕ) → Some t ≡ text_in v → t ≡ letters_of v
letters-some v t e = ap (λ (o : Option (List ℕ)). option_map_or (λ (l : List ℕ). l) o []) e

pub letters-none : (v : Value) → None ≡ text_in v → [] ≡ letters_of v
letters-none v e = ap (λ (o : Option (List ℕ)). option_map_or (λ (l : List ℕ). l) o []) e

-- texts that are values

pub letters-values : (ts : List (List ℕ)) → map letters_of (map text_value ts) ≡ ts
letters-values [] = refl
letters-values (t ∷ ts) = ap (λ (l : List (List ℕ)). t ∷ l) (letters-values ts)

pub letters-are : (vs : List Value) (ts : List (List ℕ)) → vs ≡ map text_value ts → map letters_of vs ≡ ts
letters-are vs ts e = ap (λ (l : List Value). map letters_of l) e ∙ letters-values ts

pub values-again : (vs : List Value) (ts : List (List ℕ)) → vs ≡ map text_value ts → vs ≡ map text_value (map letters_of vs)
values-again vs ts e = e ∙ ap (λ (l : List (List ℕ)). map text_value l) (sym (letters-are vs ts e))

pub texts-sound : (heap : List Owned) (vs : List Value) (ts : List (List ℕ)) → vs ≡ map text_value ts → AreSound heap vs
texts-sound heap vs ts e = All-same (IsSound heap) vs (map text_value ts) e (by ts) where
  by : (ts : List (List ℕ)) → AreSound heap (map text_value ts)
  by [] = All-nil (IsSound heap)
  by (t ∷ ts) = All-cons (IsSound heap) (text_value t) (map text_value ts) tt (by ts)

-- no cell is left for a text that is longer than the room

pub text-over : (t : List ℕ) (s : Cells) (steps room : ℕ) → s.used + room ≡ s.limit → room < length (encode_utf8_all t) → new_text t (state_of s steps) ≡ ends no_cell (state_of s steps)
text-over t s steps room e h =
    charged-over (length (encode_utf8_all t)) (state_of s steps) (λ u. gives (text_value t) u) (omega (e, h, arith))

pub text-same : (r : Result Value OpEnd) (s u : State) (t bytes : List ℕ) → IsUtf8 bytes → bytes ≡ encode_utf8_all t → Meets r u (new_text (chars bytes) s) → Meets r u (new_text t s)
text-same r s u t bytes text e h = subst (λ (l : List ℕ). Meets r u (new_text l s)) (sym (chars_from_encodes t bytes text (sym e))) h

-- the cells of a list of texts

cells-same : (vs : List Value) (bytes : ℕ) → bytes ≡ bytes_in vs → (1 + length vs) + bytes * 1 ≡ 1 + length (map letters_of vs) + bytes_in vs
cells-same vs bytes e = let l = length-map vs letters_of in omega (e, l, arith)

pub listed-over : (side : Side) (vs : List Value) (s : Cells) (steps room : ℕ) → s.used + room ≡ s.limit → room < bytes_in vs
    → texts_listed side (map letters_of vs) (state_of s steps) ≡ ends no_cell (state_of s steps)
listed-over side vs s steps room e h =
    charged-over (1 + length (map letters_of vs) + bytes_in vs) (state_of s steps)
    (λ u. gives (next_object u) (with_added side (object.list (map text_value (map letters_of vs))) u)) (omega (e, h, arith))

pub listed-stopped : (side : Side) (vs : List Value) (old new : Cells) (r : Result Value OpEnd) (f : OpEnd) (bytes steps : ℕ) → bytes ≡ bytes_in vs
    → IsErrAnd r (λ e. e ≡ f) → f ≡ end.StopCells → IsOver old ((1 + length vs) + bytes * 1) → new ≡ old
    → Meets r (state_of new steps) (texts_listed side (map letters_of vs) (state_of old steps))
listed-stopped side vs old new (Ok v) f bytes steps e is stop over same = absurd is
listed-stopped side vs old new (Err g) f bytes steps e is stop over same =
    subst (λ (g : OpEnd). Meets {A = Value} (Err g) (state_of new steps) (texts_listed side (map letters_of vs) (state_of old steps))) (sym (is ∙ stop))
    (charged-over (1 + length (map letters_of vs) + bytes_in vs) (state_of old steps)
    (λ u. gives (next_object u) (with_added side (object.list (map text_value (map letters_of vs))) u)) (subst (λ (n : ℕ). IsOver old n) (cells-same vs bytes e) over)
    ∙ ap (λ (s : Cells). ends no_cell (state_of s steps)) (sym same))

-- they are used, and the list is put last
pub listed-within : (side : Side) (vs : List Value) (old between : Cells) (bytes steps : ℕ) → vs ≡ map text_value (map letters_of vs) → bytes ≡ bytes_in vs
    → old.used + ((1 + length vs) + bytes * 1) ≤ old.limit → between ≡ used old ((1 + length vs) + bytes * 1)
    → texts_listed side (map letters_of vs) (state_of old steps)
    ≡ gives (next_object (state_of between steps)) (with_added side (object.list vs) (state_of between steps))
listed-within side vs old between bytes steps texts e fits same =
    charged-within (1 + length (map letters_of vs) + bytes_in vs) (state_of old steps)
    (λ u. gives (next_object u) (with_added side (object.list (map text_value (map letters_of vs))) u)) (subst (λ (n : ℕ). old.used + n ≤ old.limit) (cells-same vs bytes e) fits)
    ∙ ap (λ (n : ℕ). made (map text_value (map letters_of vs)) (used old n)) (sym (cells-same vs bytes e))
    ∙ ap (λ (l : List Value). made l (used old ((1 + length vs) + bytes * 1))) (sym texts)
    ∙ ap (λ (s : Cells). made vs s) (sym same)
  where
    made : List Value → Cells → Outcome Value
    made l s = gives (next_object (state_of s steps)) (with_added side (object.list l) (state_of s steps))

-- the same texts are listed
pub listed-same : (r : Result Value OpEnd) (s u : State) (side : Side) (vs : List Value) (ts us : List (List ℕ)) → vs ≡ map text_value ts → ts ≡ us
    → Meets r u (texts_listed side (map letters_of vs) s) → Meets r u (texts_listed side us s)
listed-same r s u side vs ts us e same h = subst (λ (l : List (List ℕ)). Meets r u (texts_listed side l s)) (letters-are vs ts e ∙ same) h

-- the last piece is put behind
pub collected-last : (so_far more : List Value) (rest whole : List (List ℕ)) (t : List ℕ) → so_far ++ map text_value rest ≡ map text_value whole → rest ≡ t ∷ []
    → more ≡ so_far ++ text_value t ∷ [] → more ≡ map text_value whole
collected-last so_far more rest whole t h one put = put ∙ ap (λ (l : List (List ℕ)). so_far ++ map text_value l) (sym one) ∙ h

-- nothing is left
pub collected-all : (so_far : List Value) (rest whole : List (List ℕ)) → so_far ++ map text_value rest ≡ map text_value whole → rest ≡ [] → so_far ≡ map text_value whole
collected-all so_far rest whole h none = sym (append-nil so_far) ∙ ap (λ (l : List (List ℕ)). so_far ++ map text_value l) (sym none) ∙ h
