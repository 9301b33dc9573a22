-- Where the declared classes stand, by their places in the declarations.
use Rattle.std.proofs.Common.{◌≡◌, ◌≢◌, ◌<◌, ℕ, zero, suc, ◌+◌, Bool, true, false, List, [], ◌∷◌, cond, length, map, Option, Some, None, refl, sym, ap, ◌∙◌, arith}
use Rattle.std.specs.Prelude.{IfSome, position}
use Rattle.std.specs.List.{position_from}
use Rattle.std.specs.Option.{option_map}
use Rattle.std.proofs.lemmas.Iterator.Adapters.{position_from-zero}
use Rattle.std.proofs.lemmas.List.Quantifiers.{position-Some}
use Rattle.rp_base.specs.Names.{word_of}
use Rattle.rp_base.specs.Same.{same_text}
use Rattle.rp_base.specs.declared.value.Oid.{Oid}
use Rattle.rp_decl.specs.Records.{Class}
use Rattle.rp_decl.specs.View.{class_view}
use Rattle.rp_decl.specs.declared.records.ClassDecl.{ClassDecl}
use Rattle.rp_meaning.specs.Classes.{declared_place}
use Rattle.rp_meaning.specs.Frame.{Frame}

-- the first that passes stands within the list
pub position_within : {A : Type 0} (p : A → Bool) (xs : List A) (i : ℕ) → position p xs ≡ Some i → i < length xs
position_within p [] i is = let k : None ≡ Some i = is in absurd (cc)
position_within p (x ∷ xs) i is = (position-Some p (x ∷ xs) i x is).0

-- it is counted from another number, among what is made of a list

from_map : {A B : Type 0} (f : A → B) (p : B → Bool) (i : ℕ) (xs : List A) → position_from p i (map f xs) ≡ position_from (λ x. p (f x)) i xs
from_map f p i [] = refl
from_map f p i (x ∷ xs) = ap (λ o. cond (p (f x)) (Some i) o) (from_map f p (i + 1) xs)

from_shift : {A : Type 0} (p : A → Bool) (n i : ℕ) (ys : List A) → position_from p (n + i) ys ≡ option_map (λ k. n + k) (position_from p i ys)
from_shift p n i [] = refl
from_shift p n i (y ∷ ys) =
    let same : n + i + 1 ≡ n + (i + 1) = omega arith in
    ap (λ o. cond (p y) (Some (n + i)) o) (ap (λ (k : ℕ). position_from p k ys) same ∙ from_shift p n (i + 1) ys)
    ∙ by (p y)
  where
    by : (b : Bool) → cond b (Some (n + i)) (option_map (λ k. n + k) (position_from p (i + 1) ys)) ≡ option_map (λ k. n + k) (cond b (Some i) (position_from p (i + 1) ys))
    by true = refl
    by false = refl

abbrev pub at_place : ℕ → Oid
at_place i = record { 0 = i }

-- the place of the declared class of a name
abbrev class_place : List ℕ → List Class → Option Oid
class_place word classes = option_map at_place (position_from (λ c. same_text word c.name) 1 classes)

abbrev pub behind_one : ℕ → Oid
behind_one i = record { 0 = 1 + i }

placed_more : (o : Option ℕ) → option_map behind_one o ≡ option_map at_place (option_map (λ k. 1 + k) o)
placed_more None = refl
placed_more (Some i) = refl

module _ (names permissions : List (List ℕ)) (word : List ℕ) (xs : List ClassDecl) where
  abbrev pub is_one : ClassDecl → Bool
  is_one c = same_text word (word_of names c.name)

  place_is : position_from is_one 1 xs ≡ option_map (λ k. 1 + k) (position is_one xs)
  place_is = from_shift is_one 1 0 xs ∙ ap (option_map (λ k. 1 + k)) (sym (position_from-zero is_one xs))

  pub placed_by : option_map behind_one (position is_one xs) ≡ class_place word (map (class_view names permissions) xs)
  placed_by =
      placed_more (position is_one xs)
      ∙ ap (option_map at_place) (sym (from_map (class_view names permissions) (λ c. same_text word c.name) 1 xs ∙ place_is))

-- of the module's own statements, and of other code

module _ (frame : Frame) (word : List ℕ) (classes : List Class) where
  abbrev found : ℕ → ℕ → Option Oid
  found n k = declared_place (record frame { side = record { 0 = n }; block = k }) word classes

  pub declared_here : frame.side.0 ≡ 0 → frame.block ≡ 0 → class_place word classes ≡ declared_place frame word classes
  declared_here side block = sym (ap (λ n. found n frame.block) side ∙ ap (λ k. found 0 k) block)

  none_for : (n k : ℕ) → n ≢ 0 → None ≡ found n k
  none_for zero k other = absurd (other refl)
  none_for (suc n) k other = refl

  none_in : (n k : ℕ) → k ≢ 0 → None ≡ found n k
  none_in zero zero other = absurd (other refl)
  none_in zero (suc k) other = refl
  none_in (suc n) k other = refl

  pub declared_of_side : frame.side.0 ≢ 0 → None ≡ declared_place frame word classes
  declared_of_side other = none_for frame.side.0 frame.block other

  pub declared_in : frame.block ≢ 0 → None ≡ declared_place frame word classes
  declared_in other = none_in frame.side.0 frame.block other

-- what is so whatever is there
pub if_any : {A : Type 0} (o : Option A) (P : Type 0) → P → IfSome o (λ _. P)
if_any None P h = tt
if_any (Some a) P h = h
