-- What stands at a place of the store, from what is found there.
use Rattle.std.proofs.Common.{◌≡◌, ◌<◌, ◌&&◌, true, false, length, List, [], ◌∷◌, Option, Some, None, refl, sym, ap, ◌∙◌, subst}
use Rattle.std.specs.Prelude.{All, IsSomeAnd, slice_get}
use Rattle.std.specs.Option.{option_map, option_map_or}
use Rattle.std.proofs.lemmas.Bool.{and_parts, false≢true}
use Rattle.std.proofs.lemmas.List.Elements.{All-cons, All-nil}
use Rattle.std.proofs.lemmas.Option.{slice_get_within}
use Rattle.rp_base.specs.declared.value.Name.{Name}
use Rattle.rp_base.specs.declared.value.Oid.{Oid}
use Rattle.rp_store.specs.Heap.{IsHeld, Names, Owned, content_at}
use Rattle.rp_store.specs.Object.{Content, class, dict, function, instance, list, method, scope, tuple}
use Rattle.rp_store.specs.Parts.{IsFunction}
use Rattle.rp_meaning.specs.Classes.{Methods, are_functions, is_function, stands as stands_there}

module _ (heap : List Owned) (at : Oid) where
  pub stands : (c : Content) (P : Content → Type 0) → Some c ≡ content_at heap at → P c → Names heap P at
  stands c P is h = subst (λ (o : Option Content). IsSomeAnd o P) is h

  pub is_held : (c : Content) → Some c ≡ content_at heap at → IsHeld heap at
  is_held c is = by (slice_get heap at.0) refl is where
    by : (x : Option Owned) → slice_get heap at.0 ≡ x → Some c ≡ option_map (λ o. o.content) x → at.0 < length heap
    by None e is = let k : Some c ≡ None = is in absurd (cc)
    by (Some x) e is = slice_get_within heap at.0 x e

-- each method is a function

is_function_is : (o : Option Content) → option_map_or is_function o false ≡ true → IsSomeAnd o IsFunction
is_function_is None is = absurd (false≢true is)
is_function_is (Some (list xs)) is = absurd (false≢true is)
is_function_is (Some (tuple xs)) is = absurd (false≢true is)
is_function_is (Some (dict es)) is = absurd (false≢true is)
is_function_is (Some (instance of fs)) is = absurd (false≢true is)
is_function_is (Some (class n d ms)) is = absurd (false≢true is)
is_function_is (Some (function n u b w ds)) is = tt
is_function_is (Some (method r c)) is = absurd (false≢true is)
is_function_is (Some (scope b p ss)) is = absurd (false≢true is)

pub functions_are : (heap : List Owned) (ms : Methods) → are_functions heap ms ≡ true → All (λ m. Names heap IsFunction m.1) ms
functions_are heap [] is = All-nil (λ (m : Name × Oid). Names heap IsFunction m.1)
functions_are heap (m ∷ ms) is =
    let both = and_parts (stands_there is_function heap m.1) (are_functions heap ms) is in
    All-cons (λ (m : Name × Oid). Names heap IsFunction m.1) m ms (is_function_is (content_at heap m.1) both.0) (functions_are heap ms both.1)

-- the next of them is one, or not

pub functions_next : (heap : List Owned) (ms rest : Methods) (m : Name × Oid) → ms ≡ m ∷ rest → stands_there is_function heap m.1 ≡ true → are_functions heap rest ≡ are_functions heap ms
functions_next heap ms rest m is one = sym (ap (are_functions heap) is ∙ ap (λ b. b && are_functions heap rest) one)

pub functions_not : (heap : List Owned) (ms rest : Methods) (m : Name × Oid) → ms ≡ m ∷ rest → stands_there is_function heap m.1 ≡ false → false ≡ are_functions heap ms
functions_not heap ms rest m is other = sym (ap (are_functions heap) is ∙ ap (λ b. b && are_functions heap rest) other)
