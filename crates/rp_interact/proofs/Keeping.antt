-- Answers that are kept stay right, and are few.
use Rattle.std.proofs.Common.{◌≡◌, refl, sym, ap, ◌∙◌, ℕ, suc, ◌-◌, ◌⊎◌, inl, inr, Bool, true, false, cond, List, [], ◌∷◌, length, take, Option, Some, None, arith, nat_eq, subst}
use Rattle.std.specs.List.{All}
use Rattle.std.specs.Map.{lookup, lookup_entry, remove_entry}
use Rattle.std.specs.Option.{IfSome, IsSome, option_map_or}
use Rattle.std.proofs.lemmas.Bool.Decides.{nat_tests}
use Rattle.std.proofs.lemmas.List.{length-take}
use Rattle.std.proofs.lemmas.List.Elements.{All-cons, All-head, All-tail, All-take}
use Rattle.rp_decl.specs.declared.records.Perm.{Perm}
use Rattle.lru.specs.LruCache.{LruCache, lru_cache, promoted, put_entries}
use Rattle.rp_interact.specs.Interacting.{Interacting, has_in}
use Rattle.rp_interact.specs.Kept.{IsKeptOrNot, IsSound, is_perm, keeping, latest, most_kept, used}

abbrev Kept : Type 0
Kept = List (Perm × Bool)

abbrev IsRight : (Perm → Bool) → Perm × Bool → Type 0
IsRight f e = e.1 ≡ f e.0

pub one_place : (a b : ℕ) → nat_eq a b ≡ true → a ≡ b
one_place a b e = grind (arith, nat_tests)

-- a kept answer is the right one
pub lookup-right : (f : Perm → Bool) (p : Perm) (es : Kept) (a : Bool) → All (IsRight f) es → lookup (is_perm p) es ≡ Some a → a ≡ f p
lookup-right f p [] a right e = cc
lookup-right f p (x ∷ es) a right e = by (is_perm p x.0) refl (lookup-right f p es a (All-tail (IsRight f) x es right)) e
  where
    by : (b : Bool) → is_perm p x.0 ≡ b → (lookup (is_perm p) es ≡ Some a → a ≡ f p) → cond b (Some x.1) (lookup (is_perm p) es) ≡ Some a → a ≡ f p
    by true same later e =
        let value : a ≡ x.1 = cc in
        let place : p.0 ≡ x.0.0 = one_place p.0 x.0.0 same in
        let key : x.0 ≡ p = λ k. record { 0 = sym place k } in
        value ∙ All-head (IsRight f) x es right ∙ ap f key
    by false other later e = later e

-- where no answer is kept for it, nothing moves
pub promoted-none : (p : Perm) (es : Kept) → lookup (is_perm p) es ≡ None → lookup_entry (is_perm p) es ≡ None
promoted-none p [] e = refl
promoted-none p (x ∷ es) e = by (is_perm p x.0) (promoted-none p es) e
  where
    by : (b : Bool) → (lookup (is_perm p) es ≡ None → lookup_entry (is_perm p) es ≡ None) → cond b (Some x.1) (lookup (is_perm p) es) ≡ None → cond b (Some x) (lookup_entry (is_perm p) es) ≡ None
    by true later e = cc
    by false later e = later e

All-removed : (P : Perm × Bool → Type 0) (test : Perm → Bool) (es : Kept) → All P es → All P (remove_entry test es)
All-removed P test [] all = all
All-removed P test (x ∷ es) all = by (test x.0) (All-removed P test es (All-tail P x es all))
  where
    by : (b : Bool) → All P (remove_entry test es) → All P (cond b es (x ∷ remove_entry test es))
    by true rest = All-tail P x es all
    by false rest = All-cons P x (remove_entry test es) (All-head P x es all) rest

found-entry : (P : Perm × Bool → Type 0) (test : Perm → Bool) (es : Kept) (e : Perm × Bool) → All P es → lookup_entry test es ≡ Some e → P e × (suc (length (remove_entry test es)) ≡ length es)
found-entry P test [] e all q = cc
found-entry P test (x ∷ es) e all q = by (test x.0) (found-entry P test es e (All-tail P x es all)) q
  where
    by : (b : Bool) → (lookup_entry test es ≡ Some e → P e × (suc (length (remove_entry test es)) ≡ length es)) → cond b (Some x) (lookup_entry test es) ≡ Some e → P e × (suc (length (cond b es (x ∷ remove_entry test es))) ≡ suc (length es))
    by true later q = let same : x ≡ e = cc in (subst P same (All-head P x es all), refl)
    by false later q = let rest = later q in (rest.0, ap suc rest.1)

promoted-sound : (P : Perm × Bool → Type 0) (test : Perm → Bool) (es : Kept) → All P es → All P (promoted test es) × (length (promoted test es) ≡ length es)
promoted-sound P test es all = by (lookup_entry test es) refl
  where
    by : (o : Option (Perm × Bool)) → lookup_entry test es ≡ o → All P (option_map_or (λ e. e ∷ remove_entry test es) o es) × (length (option_map_or (λ e. e ∷ remove_entry test es) o es) ≡ length es)
    by None q = (all, refl)
    by (Some e) q = let found = found-entry P test es e all q in (All-cons P e (remove_entry test es) found.0 (All-removed P test es all), found.1)

pub sound-used : (i : Interacting) (room : ℕ) (p : Perm) → IsSound i room → IsSound (used i p) room
sound-used i room p s =
    let moved = promoted-sound (IsRight (has_in i)) (is_perm p) i.kept s.right in
    record { as_many = s.as_many; right = moved.0; few = (let f = s.few in omega (arith, moved.1)); room_is = s.room_is }

pub sound-keeping : (i : Interacting) (room : ℕ) (p : Perm) → IsSound i room → IsSound (keeping most_kept i p) room
sound-keeping i room p s = record {
  as_many = s.as_many;
  right = All-take (IsRight (has_in i)) most_kept ((p, has_in i p) ∷ i.kept) (All-cons (IsRight (has_in i)) (p, has_in i p) i.kept refl s.right);
  few = (let cut = length-take most_kept ((p, has_in i p) ∷ i.kept) in omega (arith, cut));
  room_is = s.room_is;
}

-- a new answer goes in front, and pushes the last one out of 64
pub put-new : (i : Interacting) (room : ℕ) (p : Perm) → IsSound i room → lookup (is_perm p) i.kept ≡ None
    → put_entries is_perm (lru_cache i.kept room) p (has_in i p) ≡ (keeping most_kept i p).kept
put-new i room p s none =
    ap (λ o. option_map_or (λ e. (e.0, has_in i p) ∷ remove_entry (is_perm p) i.kept) o ((p, has_in i p) ∷ take (room - 1) i.kept)) (promoted-none p i.kept none)
    ∙ ap (λ n. (p, has_in i p) ∷ take (n - 1) i.kept) s.room_is

-- what stands once a new answer was to be kept
pub after-keep : (i : Interacting) (room : ℕ) (p : Perm) (old new : LruCache Perm Bool) (answer : Bool) → IsSound i room → lookup (is_perm p) i.kept ≡ None → old ≡ lru_cache (promoted (is_perm p) i.kept) room → answer ≡ has_in i p
    → (new ≡ lru_cache (put_entries is_perm old p answer) old.cap) ⊎ (new ≡ old)
    → IsSound (record i { kept = new.entries }) new.cap × IsKeptOrNot i p (record i { kept = new.entries })
after-keep i room p old new answer s none was right kept = by kept
  where
    stays : old ≡ lru_cache i.kept room
    stays = was ∙ ap (λ o. lru_cache (option_map_or (λ e. e ∷ remove_entry (is_perm p) i.kept) o i.kept) room) (promoted-none p i.kept none)

    by : (new ≡ lru_cache (put_entries is_perm old p answer) old.cap) ⊎ (new ≡ old) → IsSound (record i { kept = new.entries }) new.cap × IsKeptOrNot i p (record i { kept = new.entries })
    by (inl put) =
        let full : new ≡ lru_cache (keeping most_kept i p).kept room =
        put ∙ (λ k. lru_cache (put_entries is_perm (stays k) p (right k)) (stays k).cap) ∙ ap (λ es. lru_cache es room) (put-new i room p s none) in
        (rw full (sound-keeping i room p s), inl (ap (λ (c : LruCache Perm Bool). record i { kept = c.entries }) full))
    by (inr same) =
        let full : new ≡ lru_cache i.kept room = same ∙ stays in
        (rw full s, inr (ap (λ (c : LruCache Perm Bool). record i { kept = c.entries }) full))

-- the latest answer is a kept one
pub latest-lookup : (p : Perm) (es : Kept) (a : Bool) → latest es p ≡ Some a → lookup (is_perm p) es ≡ Some a
latest-lookup p [] a e = cc
latest-lookup p (x ∷ es) a e = by (is_perm p x.0) e
  where
    by : (b : Bool) → cond b (Some x.1) None ≡ Some a → cond b (Some x.1) (lookup (is_perm p) es) ≡ Some a
    by true e = e
    by false e = cc

-- it is in front already
pub latest-promoted : (p : Perm) (es : Kept) (a : Bool) → latest es p ≡ Some a → promoted (is_perm p) es ≡ es
latest-promoted p [] a e = cc
latest-promoted p (x ∷ es) a e = by (is_perm p x.0) e
  where
    by : (b : Bool) → cond b (Some x.1) None ≡ Some a → option_map_or (λ e. e ∷ cond b es (x ∷ remove_entry (is_perm p) es)) (cond b (Some x) (lookup_entry (is_perm p) es)) (x ∷ es) ≡ x ∷ es
    by true e = refl
    by false e = cc

-- what is said of a kept answer, where it is the latest
pub used-latest : (i : Interacting) (p : Perm) (a : Bool) → latest i.kept p ≡ Some a → i ≡ used i p
used-latest i p a e = ap (λ es. record i { kept = es }) (sym (latest-promoted p i.kept a e))

pub latest-right : (i : Interacting) (room : ℕ) (p : Perm) (a : Bool) → IsSound i room → latest i.kept p ≡ Some a → a ≡ has_in i p
latest-right i room p a s e = lookup-right (has_in i) p i.kept a s.right (latest-lookup p i.kept a e)

-- the same of an answer that there may be
pub latest-told : (i : Interacting) (room : ℕ) (p : Perm) (o : Option Bool) → IsSound i room → o ≡ latest i.kept p → IfSome o (λ a. a ≡ has_in i p)
latest-told i room p None s e = tt
latest-told i room p (Some a) s e = latest-right i room p a s (sym e)

pub latest-used : (i : Interacting) (p : Perm) (o : Option Bool) → IsSome o → o ≡ latest i.kept p → i ≡ used i p
latest-used i p None some e = cc
latest-used i p (Some a) some e = used-latest i p a (sym e)

pub latest-kept : (i : Interacting) (p : Perm) (o : Option Bool) → IsSome o → o ≡ latest i.kept p → IsSome (lookup (is_perm p) i.kept)
latest-kept i p None some e = cc
latest-kept i p (Some a) some e = rw (latest-lookup p i.kept a (sym e)) refl
