-- Words that are put among the names of a world.
use Rattle.std.proofs.Common.{◌≡◌, ◌<◌, ◌⊎◌, inl, inr, ℕ, zero, suc, Bool, true, false, true≢false, List, [], ◌∷◌, ◌++◌, length, slice_get, get_or, Option, Some, None, if◌then◌else◌, refl, sym, ap, subst, ◌∙◌, arith}
use Rattle.std.specs.Prelude.{◌||◌}
use Rattle.std.specs.List.{position_or_len}
use Rattle.std.proofs.lemmas.List.Sums.{position_or_len_is}
use Rattle.std.proofs.lemmas.Option.{get_or_from_slice_get, slice_get_within, slice_get-get_or}
use Rattle.rp_base.specs.Identifier.{is_identifier_word}
use Rattle.rp_base.specs.Names.{HoldsEachOnce, is_held, with_word}
use Rattle.rp_base.specs.Same.{same_text}
use Rattle.rp_base.specs.declared.kind.Kind.TheVariants.{ForbiddenAttribute}
use Rattle.rp_base.specs.declared.value.Name.{Name}
use Rattle.rp_base.specs.declared.value.OpEnd.{OpEnd}
use Rattle.rp_base.proofs.CallerLemmas.{same_text-equal, same_text-refl}
use Rattle.rp_decl.proofs.Growth.{GrowsTo-with_word}
use Rattle.rp_meaning.specs.BuiltIn.{name_of, with_name}
use Rattle.rp_meaning.specs.State.{State, choose}
use Rattle.rp_ops.specs.Outcome.{gives, raises}
use Rattle.rp_policy.specs.Forbidden.{is_forbidden_attribute}
use Rattle.rp_proxy.specs.Faithful.{IsFaithful, MayGrowTo}
use Rattle.rp_proxy.specs.declared.world.World.{World}
use Rattle.rp_proxy.proofs.LaterNames.{IsFaithful-later, monitor-later, with_names}
use Rattle.rp_access.specs.Comes.{IsEnd}
use Rattle.rp_access.specs.Moment.{state_of}
use Rattle.rp_access.specs.NamedAttributes.{word_named}
use Rattle.rp_access.specs.Natives.{is_attribute_word}
use Rattle.rp_access.proofs.Going.{IsEnd-same}

-- a word more is held once

last_or : (xs : List (List ℕ)) (y x : List ℕ) (i : ℕ) → slice_get (xs ++ y ∷ []) i ≡ Some x → (slice_get xs i ≡ Some x) ⊎ ((i ≡ length xs) × (x ≡ y))
last_or [] y x zero p = let same : x ≡ y = cc in inr (refl, same)
last_or [] y x (suc i) p = let k : None ≡ Some x = p in absurd (cc)
last_or (z ∷ xs) y x zero p = inl p
last_or (z ∷ xs) y x (suc i) p = elim (last_or xs y x i p) [ inl h ↦ inl h | inr h ↦ inr (ap suc h.0, h.1) ]

held_here : (xs : List (List ℕ)) (x : List ℕ) (i : ℕ) → slice_get xs i ≡ Some x → is_held xs x ≡ true
held_here [] x i p = let k : None ≡ Some x = p in absurd (cc)
held_here (z ∷ xs) x zero p =
    let same : z ≡ x = cc in
    ap (λ b. b || is_held xs x) (ap (same_text x) same ∙ same_text-refl x)
held_here (z ∷ xs) x (suc i) p = either (same_text x z) (held_here xs x i p) where
  either : (b : Bool) → is_held xs x ≡ true → (b || is_held xs x) ≡ true
  either true h = refl
  either false h = h

pub once-more : (names : List (List ℕ)) (word : List ℕ) → HoldsEachOnce names → HoldsEachOnce (with_word names word)
once-more names word once = by (is_held names word) refl where
  other : (i : ℕ) (x : List ℕ) → is_held names word ≡ false → slice_get names i ≡ Some x → x ≡ word → ⊥
  other i x e p same = true≢false (sym (held_here names word i (p ∙ ap Some same)) ∙ e)

  by : (b : Bool) → is_held names word ≡ b → HoldsEachOnce (if b then names else names ++ word ∷ [])
  by true e = once
  by false e = λ i j x p q. elim (last_or names word x i p) [
    | inl a ↦ elim (last_or names word x j q) [ inl b ↦ once i j x a b | inr b ↦ absurd (other i x e a b.1) ]
    | inr a ↦ elim (last_or names word x j q) [ inl b ↦ absurd (other j x e b a.1) | inr b ↦ a.0 ∙ sym b.0 ]
  ]

-- a name is the first place of its word
pub name-at : (names : List (List ℕ)) (word : List ℕ) (name : Name) → HoldsEachOnce names → slice_get names name.0 ≡ Some word → name ≡ name_of names word
name-at names word name once at =
    let inside = slice_get_within names name.0 word at in
    let before : (k : ℕ) → k < name.0 → same_text word (get_or names k []) ≡ false = λ k low. differs k low (same_text word (get_or names k [])) refl in
    let here : name.0 < length names → same_text word (get_or names name.0 []) ≡ true = λ low.
    ap (same_text word) (get_or_from_slice_get names name.0 word [] at) ∙ same_text-refl word in
    let place : position_or_len (same_text word) names ≡ name.0 = position_or_len_is (same_text word) names name.0 [] (omega arith) before here in
    λ k. record { 0 = sym place k }
  where
    differs : (k : ℕ) → k < name.0 → (b : Bool) → same_text word (get_or names k []) ≡ b → b ≡ false
    differs k low false e = refl
    differs k low true e =
        let inside = slice_get_within names name.0 word at in
        let within : k < length names = omega arith in
        let same : k ≡ name.0 = once k name.0 word (slice_get-get_or names k [] within ∙ ap Some (sym (same_text-equal word (get_or names k []) e))) at in
        absurd (omega arith)

module _ (w : World) (word : List ℕ) (names : List (List ℕ)) (faithful : IsFaithful w) (added : names ≡ with_word w.names word) where
  grows : MayGrowTo w.names names
  grows = subst (MayGrowTo w.names) (sym added) (record { grown = GrowsTo-with_word w.names word; distinct = once-more w.names word faithful.read.distinct })

  pub IsFaithful-added : IsFaithful (with_names w names)
  IsFaithful-added = IsFaithful-later w names grows faithful

  pub state-added : state_of (with_names w names) ≡ with_name word (state_of w)
  state-added =
      let same = monitor-later w names grows.grown faithful in
      λ k. record (state_of w) { declarations = (same k).declarations; names = added k; log = (same k).log }

  pub name-added : (name : Name) → slice_get names name.0 ≡ Some word → name ≡ name_of names word
  name-added name at = name-at names word name grows.distinct at

pub IsFaithful-same : (w : World) (names : List (List ℕ)) → names ≡ w.names → IsFaithful w → IsFaithful (with_names w names)
IsFaithful-same w names same faithful = subst (λ names. IsFaithful (with_names w names)) (sym same) faithful

-- whether a word is taken

pub word_test : (word letters : List ℕ) (b : Bool) → b ≡ is_identifier_word letters → letters ≡ word → is_attribute_word word ≡ b
unfolding is_attribute_word
word_test word letters b is same = sym (is ∙ ap is_identifier_word same)

pub word_none : (word : List ℕ) (s : State) → is_attribute_word word ≡ false → word_named word s ≡ gives None s
word_none word s other = ap (λ b. choose b (λ s. choose (is_forbidden_attribute word) (raises ForbiddenAttribute word) (λ s. gives (Some (name_of s.names word)) s) (with_name word s)) (gives None) s) other

module _ (word : List ℕ) (s t : State) (is : is_attribute_word word ≡ true) (added : t ≡ with_name word s) where
  named_by : (b : Bool) → is_forbidden_attribute word ≡ b
      → word_named word s ≡ choose b (raises ForbiddenAttribute word) (λ s. gives (Some (name_of s.names word)) s) t
  named_by b e =
      ap (λ b. choose b (λ s. choose (is_forbidden_attribute word) (raises ForbiddenAttribute word) (λ s. gives (Some (name_of s.names word)) s) (with_name word s)) (gives None) s) is
      ∙ ap (λ b. choose b (raises ForbiddenAttribute word) (λ s. gives (Some (name_of s.names word)) s) (with_name word s)) e
      ∙ ap (choose b (raises ForbiddenAttribute word) (λ s. gives (Some (name_of s.names word)) s)) (sym added)

  pub word_refused : (e : OpEnd) → is_forbidden_attribute word ≡ true → IsEnd {A = Option Name} e t (raises ForbiddenAttribute word t) → IsEnd e t (word_named word s)
  word_refused e forbidden ends = IsEnd-same e t _ _ (named_by true forbidden) ends

  pub word_given : (name : Name) → is_forbidden_attribute word ≡ false → name ≡ name_of t.names word → word_named word s ≡ gives (Some name) t
  word_given name other at = named_by false other ∙ ap (λ n. gives (Some n) t) (sym at)
