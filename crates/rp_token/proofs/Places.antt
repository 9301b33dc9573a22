-- Keywords and marks, which are ASCII: their bytes are their characters.
use Rattle.std.proofs.Common.{◌≡◌, refl, sym, ap, ◌∙◌, ℕ, zero, suc, ◌<◌, ◌+◌, ◌==◌, Bool, true, false, ◌||◌, not, cond, nat_eq, nat_lt, List, [], ◌∷◌, ◌++◌, length, take, drop, get_or, chars, Option, Some, None, find, encode_utf8_all, arith}
use Rattle.std.specs.Str.{IsAscii, IsUtf8}
use Rattle.std.specs.List.{list_all, list_any, starts_with}
use Rattle.std.specs.Cmp.Lexicographic.{pointwise, bytes_decides}
use Rattle.std.specs.Option.{option_or}
use Rattle.std.proofs.lemmas.Bool.{ltb-true, and_parts, eq-eqb}
use Rattle.std.proofs.lemmas.List.Folds.{find-append, list_all-append, list_any-append}
use Rattle.std.proofs.lemmas.List.{drop_more, take_at, take-append-drop}
use Rattle.std.proofs.lemmas.Str.{chars-append, chars-IsAscii, encodes-append, encodes-IsAscii, encodes-chars, IsUtf8-from_ascii}
use Rattle.rp_base.specs.Keyword.{keywords, is_keyword}
use Rattle.rp_token.specs.Characters.{first, none_begins}
use Rattle.rp_token.specs.Form.{marks}

-- a test of ASCII
abbrev pub is_ascii_word : List ℕ → Bool
is_ascii_word k = list_all (λ c. nat_lt c 128) k

IsAscii-word : (k : List ℕ) → is_ascii_word k ≡ true → IsAscii k
IsAscii-word [] e i = omega arith
IsAscii-word (c ∷ cs) e zero = ltb-true c 128 (and_parts (nat_lt c 128) (is_ascii_word cs) e).0
IsAscii-word (c ∷ cs) e (suc i) = IsAscii-word cs (and_parts (nat_lt c 128) (is_ascii_word cs) e).1 i

-- where all words of a list are ASCII, so is each
ascii_at : (ks : List (List ℕ)) (i : ℕ) → list_all is_ascii_word ks ≡ true → is_ascii_word (get_or ks i []) ≡ true
ascii_at [] i e = refl
ascii_at (k ∷ ks) zero e = (and_parts (is_ascii_word k) (list_all is_ascii_word ks) e).0
ascii_at (k ∷ ks) (suc i) e = ascii_at ks i (and_parts (is_ascii_word k) (list_all is_ascii_word ks) e).1

pub IsAscii-keyword : (i : ℕ) → IsAscii (get_or keywords i [])
IsAscii-keyword i = IsAscii-word _ (ascii_at keywords i refl)

pub IsAscii-mark : (i : ℕ) → IsAscii (get_or marks i [])
IsAscii-mark i = IsAscii-word _ (ascii_at marks i refl)

-- the word is one of those at the place and behind it
abbrev pub is_among : List ℕ → ℕ → Bool
is_among word i = list_any (λ k. pointwise nat_eq k word) (drop i keywords)

-- the word at this place, and another
pub among-here : (word : List ℕ) (i : ℕ) → i < length keywords → pointwise nat_eq (get_or keywords i []) word ≡ true → is_among word i ≡ true
among-here word i within e = ap (list_any (λ k. pointwise nat_eq k word)) (drop_more keywords i [] within) ∙ rw e refl

pub among-next : (word : List ℕ) (i : ℕ) → i < length keywords → pointwise nat_eq (get_or keywords i []) word ≡ false → is_among word (i + 1) ≡ is_among word i
among-next word i within e = sym (ap (list_any (λ k. pointwise nat_eq k word)) (drop_more keywords i [] within) ∙ rw e refl)

-- two words that begin alike
first-alike : (k word : List ℕ) → first k ≡ first word → not (first k == first word) ≡ false
first-alike k word same = rw (eq-eqb (first k) (first word) same) refl

-- none of the words that begin otherwise is the word
none-among : (word : List ℕ) (ks : List (List ℕ)) → none_begins (first word) ks ≡ true → list_any (λ k. pointwise nat_eq k word) ks ≡ false
none-among word [] e = refl
none-among word (k ∷ ks) e =
    let both = and_parts (not (first k == first word)) (none_begins (first word) ks) e in
    by (none-among word ks both.1) both.0 (pointwise nat_eq k word) refl
  where
    by : list_any (λ k. pointwise nat_eq k word) ks ≡ false → not (first k == first word) ≡ true → (b : Bool) → pointwise nat_eq k word ≡ b → (b || list_any (λ k. pointwise nat_eq k word) ks) ≡ false
    by further other false e = further
    by further other true e = let alike = first-alike k word (ap first ((bytes_decides k word).0 e)) in cc

-- the keywords before those that begin as the word does are not the word, and neither are those behind them
pub among-begin : (word : List ℕ) (i : ℕ) → none_begins (first word) (take i keywords) ≡ true → is_among word i ≡ is_keyword word
among-begin word i none =
    let p = λ (k : List ℕ). pointwise nat_eq k word in
    sym (ap (list_any p) (sym (take-append-drop i keywords)) ∙ list_any-append p (take i keywords) (drop i keywords) ∙ ap (λ b. b || list_any p (drop i keywords)) (none-among word (take i keywords) none))

pub among-end : (word : List ℕ) (i : ℕ) → none_begins (first word) (drop i keywords) ≡ true → is_among word i ≡ false
among-end word i none = none-among word (drop i keywords) none

-- the marks at a place and behind it
abbrev pub mark_from : List ℕ → ℕ → Option (List ℕ)
mark_from cs i = find (starts_with nat_eq cs) (drop i marks)

-- the mark at this place, and another
pub mark-here : (cs : List ℕ) (i : ℕ) → i < length marks → starts_with nat_eq cs (get_or marks i []) ≡ true → mark_from cs i ≡ Some (get_or marks i [])
mark-here cs i within e = ap (find (starts_with nat_eq cs)) (drop_more marks i [] within) ∙ rw e refl

pub mark-next : (cs : List ℕ) (i : ℕ) → i < length marks → starts_with nat_eq cs (get_or marks i []) ≡ false → mark_from cs (i + 1) ≡ mark_from cs i
mark-next cs i within e = sym (ap (find (starts_with nat_eq cs)) (drop_more marks i [] within) ∙ rw e refl)

-- a text begins with no mark that begins otherwise
pub first-take : (n : ℕ) (cs : List ℕ) → 0 < n → first (take n cs) ≡ first cs
first-take zero cs some = absurd (omega arith)
first-take (suc n) [] some = refl
first-take (suc n) (c ∷ cs) some = refl

abbrev pub is_some_mark : List ℕ → Bool
is_some_mark m = nat_lt 0 (length m)

none-starts : (cs : List ℕ) (ms : List (List ℕ)) → list_all is_some_mark ms ≡ true → none_begins (first cs) ms ≡ true → find (starts_with nat_eq cs) ms ≡ None
none-starts cs [] some e = refl
none-starts cs (m ∷ ms) some e =
    let both = and_parts (not (first m == first cs)) (none_begins (first cs) ms) e in
    let marks = and_parts (is_some_mark m) (list_all is_some_mark ms) some in
    by (none-starts cs ms marks.1 both.1) both.0 (ltb-true 0 (length m) marks.0) (starts_with nat_eq cs m) refl
  where
    by : find (starts_with nat_eq cs) ms ≡ None → not (first m == first cs) ≡ true → 0 < length m → (b : Bool) → starts_with nat_eq cs m ≡ b → cond b (Some m) (find (starts_with nat_eq cs) ms) ≡ None
    by further other some false e = further
    by further other some true e =
        let front : m ≡ take (length m) cs = (bytes_decides m (take (length m) cs)).0 e in
        let alike = first-alike m cs (ap first front ∙ first-take (length m) cs some) in
        cc

some_marks : (i : ℕ) → (list_all is_some_mark (take i marks) ≡ true) × (list_all is_some_mark (drop i marks) ≡ true)
some_marks i = and_parts _ _ (sym (list_all-append is_some_mark (take i marks) (drop i marks)) ∙ ap (list_all is_some_mark) (take-append-drop i marks))

-- the text begins with none of the marks before those that begin as it does, and with none of those behind them
pub mark-begin : (cs : List ℕ) (i : ℕ) → none_begins (first cs) (take i marks) ≡ true → mark_from cs i ≡ find (starts_with nat_eq cs) marks
mark-begin cs i none =
    let p = starts_with nat_eq cs in
    sym (ap (find p) (sym (take-append-drop i marks)) ∙ find-append p (take i marks) (drop i marks) ∙ ap (λ o. option_or o (find p (drop i marks))) (none-starts cs (take i marks) (some_marks i).0 none))

pub mark-end : (cs : List ℕ) (i : ℕ) → none_begins (first cs) (drop i marks) ≡ true → mark_from cs i ≡ None
mark-end cs i none = none-starts cs (drop i marks) (some_marks i).1 none

-- the characters of a text that begins with ASCII
pub chars-front : (m bs rest : List ℕ) → IsAscii m → bs ≡ m ++ rest → chars bs ≡ m ++ chars rest
chars-front m bs rest ascii is = ap chars is ∙ chars-append m rest (IsUtf8-from_ascii m ascii) ∙ ap (λ xs. xs ++ chars rest) (chars-IsAscii m ascii)

pub starts_with-front : (m cs rest : List ℕ) → cs ≡ m ++ rest → starts_with nat_eq cs m ≡ true
starts_with-front m cs rest is = (bytes_decides m (take (length m) cs)).1 (sym (ap (take (length m)) is ∙ take_at m rest (length m) refl))

-- a text that does not begin with ASCII
pub starts_with-lacking : (m bs : List ℕ) → IsAscii m → IsUtf8 bs → ((rest : List ℕ) → bs ≡ m ++ rest → ⊥) → starts_with nat_eq (chars bs) m ≡ false
starts_with-lacking m bs ascii text lacks = by (starts_with nat_eq (chars bs) m) refl
  where
    by : (b : Bool) → starts_with nat_eq (chars bs) m ≡ b → b ≡ false
    by false e = refl
    by true e =
        let front : m ≡ take (length m) (chars bs) = (bytes_decides m (take (length m) (chars bs))).0 e in
        let letters : m ++ drop (length m) (chars bs) ≡ chars bs = ap (λ xs. xs ++ drop (length m) (chars bs)) front ∙ take-append-drop (length m) (chars bs) in
        let bytes : bs ≡ m ++ encode_utf8_all (drop (length m) (chars bs)) =
        sym (ap encode_utf8_all letters ∙ encodes-chars bs text) ∙ encodes-append m (drop (length m) (chars bs)) ∙ ap (λ xs. xs ++ encode_utf8_all (drop (length m) (chars bs))) (encodes-IsAscii m ascii) in
        absurd (lacks (encode_utf8_all (drop (length m) (chars bs))) bytes)
