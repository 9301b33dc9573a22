-- Facts on texts, and on the words that a list of shared texts shows.
use Rattle.std.proofs.Common.{◌≡◌, ◌↔◌, refl, sym, ap, ◌∙◌, ◌<◌, ℕ, Bool, true, false, true≢false, List, [], ◌∷◌, ◌++◌, ◌+◌, ◌||◌, cond, not, zero, suc, get_or, length, map, None, Some, slice_get, position, IsTrue, if◌then◌else◌, chars, encode_utf8_all, nat_eq, nat_lt, arith}
use Rattle.std.specs.Str.{IsUtf8, bytes_eq}
use Rattle.std.specs.List.{All, AllByRecursion, IsDistinct, list_any, position_or_len}
use Rattle.std.specs.Option.{option_map}
use Rattle.std.specs.Rc.{rc_str_bytes}
use Rattle.std.specs.declared.alloc.Global.{Global}
use Rattle.std.specs.declared.rc.RcStr.{RcStr}
use Rattle.std.specs.Cmp.{on_equiv}
use Rattle.std.specs.Cmp.Lexicographic.{pointwise, bytes_decides, nat_list_eq_equiv}
use Rattle.std.proofs.lemmas.Str.{IsUtf8-string_bytes, encodes-chars, encodes_same}
use Rattle.std.proofs.lemmas.Bool.{or_right}
use Rattle.std.proofs.lemmas.List.{get_or-map, length-map, map_push}
use Rattle.std.proofs.lemmas.List.Elements.{All-push}
use Rattle.std.proofs.lemmas.List.Quantifiers.{position-Some}
use Rattle.std.proofs.lemmas.List.Sums.{fold-append}
use Rattle.std.proofs.lemmas.Map.Keys.{IsDistinct-cons, IsDistinct-head, IsDistinct-tail, apart_from_distinct}
use Rattle.std.proofs.lemmas.Option.{get_or_from_slice_get, slice_get-get_or, slice_get-map, slice_get_within}
use Rattle.indexmap.specs.IndexSet.{insert_all, insert_key}
use Rattle.indexmap.proofs.SetLemmas.{set_all_distinct}
use Rattle.rp_base.specs.Identifier.{IsIdentifier}
use Rattle.rp_base.specs.Names.{HoldsEachOnce, is_held, with_word, with_words}
use Rattle.rp_base.specs.Same.{same_text}

-- texts that the test calls the same have the same characters
pub same_text-equal : (x y : List ℕ) → IsTrue (same_text x y) → x ≡ y
same_text-equal x y t = encodes_same x y ((bytes_decides _ _).0 t)

pub same_text-refl : (x : List ℕ) → IsTrue (same_text x x)
same_text-refl x = (bytes_decides (encode_utf8_all x) (encode_utf8_all x)).1 refl

-- to compare the bytes of texts is to compare the texts
pub same_text-bytes : (cs bs : List ℕ) → IsUtf8 cs → IsUtf8 bs → bytes_eq cs bs ≡ same_text (chars cs) (chars bs)
same_text-bytes cs bs text other = λ k. pointwise nat_eq (sym (encodes-chars cs text) k) (sym (encodes-chars bs other) k)

-- the test on texts tells whether they are equal
pub same_text-decides : (b : Bool) (x y : List ℕ) → b ≡ same_text x y → IsTrue b ↔ (x ≡ y)
same_text-decides b x y e = (λ t. same_text-equal x y (sym e ∙ t), λ q. e ∙ (bytes_decides _ _).1 (ap encode_utf8_all q))

-- the words that shared texts show
abbrev pub words_of : List (RcStr Global) → List (List ℕ)
words_of ts = map (λ t. chars (rc_str_bytes t)) ts

-- to compare the bytes of a word and a shared text is to compare the texts
pub same_text-shared : (bs : List ℕ) (t : RcStr Global) → IsUtf8 bs → bytes_eq bs (rc_str_bytes t) ≡ same_text (chars bs) (chars (rc_str_bytes t))
same_text-shared bs t text = same_text-bytes bs (rc_str_bytes t) text (IsUtf8-string_bytes t.text.value)

-- a word is held where its bytes are found
pub is_held-words_of : (bs : List ℕ) (ts : List (RcStr Global)) → IsUtf8 bs → list_any (λ t. bytes_eq bs (rc_str_bytes t)) ts ≡ is_held (words_of ts) (chars bs)
is_held-words_of bs [] text = refl
is_held-words_of bs (t ∷ ts) text = λ k. same_text-shared bs t text k || is_held-words_of bs ts text k

-- a word whose bytes are not found is not held
pub not_held : (bs : List ℕ) (ts : List (RcStr Global)) → IsUtf8 bs → false ≡ list_any (λ t. bytes_eq bs (rc_str_bytes t)) ts → ¬ IsTrue (is_held (words_of ts) (chars bs))
not_held bs ts text missing held = true≢false (sym held ∙ sym (is_held-words_of bs ts text) ∙ sym missing)

-- the bytes are found where the word first stands
position_or_len-words_of : (bs : List ℕ) (ts : List (RcStr Global)) → IsUtf8 bs → position_or_len (λ t. bytes_eq bs (rc_str_bytes t)) ts ≡ position_or_len (same_text (chars bs)) (words_of ts)
position_or_len-words_of bs [] text = refl
position_or_len-words_of bs (t ∷ ts) text =
    λ k. cond (not (same_text-shared bs t text k)) (1 + position_or_len-words_of bs ts text k) 0

position-words_of : (bs : List ℕ) (ts : List (RcStr Global)) → IsUtf8 bs → position (λ t. bytes_eq bs (rc_str_bytes t)) ts ≡ position (same_text (chars bs)) (words_of ts)
position-words_of bs ts text =
    let place = position_or_len-words_of bs ts text in
    let as_many : length ts ≡ length (words_of ts) = sym (length-map ts (λ t. chars (rc_str_bytes t))) in
    λ k. cond (nat_lt (place k) (as_many k)) (Some (place k)) None

-- the word stands where its bytes are found
pub slice_get-found : (bs : List ℕ) (ts : List (RcStr Global)) (i : ℕ) → IsUtf8 bs → position (λ t. bytes_eq bs (rc_str_bytes t)) ts ≡ Some i → slice_get (words_of ts) i ≡ Some (chars bs)
slice_get-found bs ts i text e =
    let found = position-Some (same_text (chars bs)) (words_of ts) i [] (sym (position-words_of bs ts text) ∙ e) in
    slice_get-get_or (words_of ts) i [] found.0 ∙ ap Some (sym (same_text-equal _ _ found.1))

-- the word of a text stands where a text with the same bytes does
pub slice_get-stored : (ts : List (RcStr Global)) (i : ℕ) (t : RcStr Global) (bs : List ℕ) → ((k : RcStr Global) × (slice_get ts i ≡ Some k) × (bytes_eq (rc_str_bytes t) (rc_str_bytes k) ≡ true)) → rc_str_bytes t ≡ bs → slice_get (words_of ts) i ≡ Some (chars bs)
slice_get-stored ts i t bs (k, stands, alike) same =
    slice_get-map (λ t. chars (rc_str_bytes t)) ts i ∙ ap (option_map (λ t. chars (rc_str_bytes t))) stands ∙ ap (λ x. Some (chars x)) (sym ((bytes_decides _ _).0 alike) ∙ same)

-- a text that is inserted is a word that is added
pub words_of-inserted : (ts new : List (RcStr Global)) (t : RcStr Global) (bs : List ℕ) → new ≡ insert_key (λ x y. bytes_eq (rc_str_bytes x) (rc_str_bytes y)) ts t → rc_str_bytes t ≡ bs → words_of new ≡ with_word (words_of ts) (chars bs)
words_of-inserted ts new t bs inserted same =
    ap words_of inserted ∙ by (list_any (λ u. bytes_eq (rc_str_bytes t) (rc_str_bytes u)) ts)
    ∙ (λ k. if is_held-words_of (rc_str_bytes t) ts (IsUtf8-string_bytes t.text.value) k then words_of ts else words_of ts ++ chars (rc_str_bytes t) ∷ [])
    ∙ ap (λ x. with_word (words_of ts) (chars x)) same
  where
    by : (b : Bool) → words_of (if b then ts else ts ++ t ∷ []) ≡ if b then words_of ts else words_of ts ++ chars (rc_str_bytes t) ∷ []
    by true = refl
    by false = map_push (λ t. chars (rc_str_bytes t)) ts t

-- a text that differs from others is a word that differs from theirs
apart-words_of : (t : RcStr Global) (ts : List (RcStr Global)) → AllByRecursion (λ u. bytes_eq (rc_str_bytes t) (rc_str_bytes u) ≡ false) ts → AllByRecursion (λ w. same_text (chars (rc_str_bytes t)) w ≡ false) (words_of ts)
apart-words_of t [] apart = tt
apart-words_of t (u ∷ ts) (differs, apart) =
    (sym (same_text-shared _ u (IsUtf8-string_bytes t.text.value)) ∙ differs, apart-words_of t ts apart)

-- texts that differ are words that differ
pub IsDistinct-words_of : (ts : List (RcStr Global)) → IsDistinct (λ x y. bytes_eq (rc_str_bytes x) (rc_str_bytes y)) ts → IsDistinct same_text (words_of ts)
unfolding IsDistinct
IsDistinct-words_of [] distinct = tt
IsDistinct-words_of (t ∷ ts) distinct =
    IsDistinct-cons same_text _ _ (apart-words_of t ts (IsDistinct-head _ t ts distinct)) (IsDistinct-words_of ts (IsDistinct-tail _ t ts distinct))

-- words that are pairwise different stand at one place each
pub each_once : (ws : List (List ℕ)) → IsDistinct same_text ws → HoldsEachOnce ws
each_once ws distinct i j w at_i at_j =
    let here : get_or ws i [] ≡ w = get_or_from_slice_get ws i w [] at_i in
    let there : get_or ws j [] ≡ w = get_or_from_slice_get ws j w [] at_j in
    let not_before : i < j → ⊥ = λ before. true≢false (
    sym (same_text-refl w) ∙ (λ k. same_text (sym here k) (sym there k)) ∙ apart_from_distinct same_text ws i j [] distinct before (slice_get_within ws j w at_j)
    ) in
    let not_after : j < i → ⊥ = λ after. true≢false (
    sym (same_text-refl w) ∙ (λ k. same_text (sym there k) (sym here k)) ∙ apart_from_distinct same_text ws j i [] distinct after (slice_get_within ws i w at_i)
    ) in
    omega arith

-- a new word, or one that is held, leaves the words identifiers
pub identifiers-with_word : (ws : List (List ℕ)) (w : List ℕ) → All IsIdentifier ws → IsIdentifier w → All IsIdentifier (with_word ws w)
identifiers-with_word ws w all one = by (is_held ws w)
  where
    by : (b : Bool) → All IsIdentifier (if b then ws else ws ++ w ∷ [])
    by true = all
    by false = All-push IsIdentifier ws w all one

-- the word of the text at a place is an identifier
pub identifier_at : (ts : List (RcStr Global)) (i : ℕ) (t : RcStr Global) → All IsIdentifier (words_of ts) → i < length (words_of ts) → t ≡ get_or ts i t → IsIdentifier (chars (rc_str_bytes t))
identifier_at ts i t all within stands =
    let inside : i < length ts = simp length-map at within in
    let shown : get_or (words_of ts) i [] ≡ chars (rc_str_bytes t) = get_or-map (λ t. chars (rc_str_bytes t)) ts i t [] inside ∙ ap (λ t. chars (rc_str_bytes t)) (sym stands) in
    rw shown at (all i [] within)

-- texts that differ, put into an empty set one after another, are all there in their order
pub put_anew : (ts : List (RcStr Global)) → IsDistinct (λ x y. bytes_eq (rc_str_bytes x) (rc_str_bytes y)) ts → insert_all (λ x y. bytes_eq (rc_str_bytes x) (rc_str_bytes y)) [] ts ≡ ts
put_anew ts distinct = set_all_distinct (on_equiv rc_str_bytes nat_list_eq_equiv) [] ts distinct

-- words that are added after others
pub with_words-append : (words some more : List (List ℕ)) → with_words (with_words words some) more ≡ with_words words (some ++ more)
with_words-append words some more = sym (fold-append with_word words some more)

pub with_words-then : (old mid new some more : List (List ℕ)) → mid ≡ with_words old some → new ≡ with_words mid more → new ≡ with_words old (some ++ more)
with_words-then old mid new some more first last = last ∙ ap (λ words. with_words words more) first ∙ with_words-append old some more

-- the word at a place is held, also where more words stand behind
pub is_held-at : (words more : List (List ℕ)) (i : ℕ) → i < length words → IsTrue (is_held (words ++ more) (get_or words i []))
is_held-at [] more i within = absurd (omega arith)
is_held-at (w ∷ ws) more zero within = ap (λ b. b || is_held (ws ++ more) w) (same_text-refl w)
is_held-at (w ∷ ws) more (suc i) within = or_right (same_text (get_or ws i []) w) _ (is_held-at ws more i (omega arith))

-- a word that is held is not added
pub with_word-held : (words : List (List ℕ)) (word : List ℕ) → IsTrue (is_held words word) → with_word words word ≡ words
with_word-held words word held = λ k. if held k then words else words ++ word ∷ []
