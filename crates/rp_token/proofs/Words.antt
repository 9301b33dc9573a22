-- Words of ASCII are their own form, and a run that begins as an identifier is one.
use Rattle.std.proofs.Common.{◌≡◌, refl, sym, ap, ◌∙◌, subst, cond, ℕ, ◌<◌, ◌≤◌, Bool, true, false, nat_le, List, [], ◌∷◌, length, take_while, chars, encode_utf8_all, arith}
use Rattle.std.specs.Str.{IsAscii}
use Rattle.std.specs.List.{list_all}
use Rattle.std.proofs.lemmas.Bool.{le-leb}
use Rattle.std.proofs.lemmas.List.{get_or_default}
use Rattle.std.proofs.lemmas.List.Sums.{take_while-cons}
use Rattle.std.proofs.lemmas.Str.{chars-IsAscii, encodes-IsAscii}
use Rattle.rp_base.specs.Identifier.{IsIdentifier, is_identifier, is_start}
use Rattle.unicode_ident.specs.Ident.{is_xid_continue}
use Rattle.unicode_ident.proofs.IdentLemmas.{is_xid_continue-ascii}
use Rattle.unicode_normalization.specs.Forms.{Nfkc, nfkc}
use Rattle.unicode_normalization.proofs.FormsLemmas.{normalize-ascii}
use Rattle.rp_token.specs.Characters.{first}
use Rattle.rp_token.proofs.Steps.{starts-continues}

-- a word of ASCII that is short enough is an identifier in its form
pub IsIdentifier-plain : (bs : List ℕ) → IsAscii bs → length bs ≤ 255 → is_identifier (chars bs) ≡ true → IsIdentifier (chars bs)
IsIdentifier-plain bs ascii few identifier =
    let letters = chars-IsAscii bs ascii in
    let form : nfkc bs ≡ bs = normalize-ascii Nfkc bs (λ k d within. subst (λ c. c < 128) (get_or_default bs k 0 d within) (ascii k)) in
    let named : is_identifier bs ≡ true = ap is_identifier (sym letters) ∙ identifier in
    let short : nat_le (length (encode_utf8_all bs)) 255 ≡ true = ap (λ w. nat_le (length w) 255) (encodes-IsAscii bs ascii) ∙ le-leb _ _ few in
    let own : IsIdentifier bs = rw (form, named, short) refl in
    subst IsIdentifier (sym letters) own

list_all-take_while : (p : ℕ → Bool) (cs : List ℕ) → list_all p (take_while p cs) ≡ true
list_all-take_while p [] = refl
list_all-take_while p (c ∷ cs) = ap (list_all p) (take_while-cons p c cs) ∙ by (list_all-take_while p cs) (p c) refl
  where
    by : list_all p (take_while p cs) ≡ true → (b : Bool) → p c ≡ b → list_all p (cond b (c ∷ take_while p cs) []) ≡ true
    by further true e = rw (e, further) refl
    by further false e = refl

-- the run at a character that may begin an identifier
pub is_identifier-run : (cs : List ℕ) → is_start (first cs) ≡ true → is_identifier (take_while is_xid_continue cs) ≡ true
is_identifier-run [] starts = let nul = sym (is_xid_continue-ascii 0 (omega arith)) ∙ starts-continues 0 starts in cc
is_identifier-run (c ∷ cs) starts =
    let goes = starts-continues c starts in
    let all = list_all-take_while is_xid_continue cs in
    ap is_identifier (take_while-cons is_xid_continue c cs ∙ (λ k. cond (goes k) (c ∷ take_while is_xid_continue cs) [])) ∙ rw (starts, goes, all) refl
