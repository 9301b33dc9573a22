-- How what walks add to a table composes.
use Rattle.std.proofs.Common.{◌≡◌, ◌<◌, ℕ, List, [], ◌∷◌, ◌++◌, Bool, true, false, length, replicate, nat_eq, Option, Some, None, refl, sym, ap, ◌∙◌, subst, if◌then◌else◌}
use Rattle.std.specs.Option.{option_or}
use Rattle.std.specs.Prelude.{IsTrue, is_some, get_or, option_map}
use Rattle.std.proofs.lemmas.Bool.{eq-eqb, eqb-true}
use Rattle.std.proofs.lemmas.Grind.{get_or-set_at}
use Rattle.std.proofs.lemmas.List.{get_or-replicate, get_or-set_other, length-replicate, length-set}
use Rattle.std.proofs.Math.ListN.{set}
use Rattle.rp_codes.specs.Codes.{code_view}
use Rattle.rp_meaning.specs.Blocks as blocks
use Rattle.rp_meaning.specs.Blocks.{Codes, code_in}
use Rattle.rp_codes.specs.CodeSteps.{Adds, shown}
use Rattle.rp_codes.specs.declared.code.Code.{Code}

abbrev Table : Type 0
Table = List (Option Code)

or_none : {A : Type 0} (x : Option A) → option_or x None ≡ x
or_none None = refl
or_none (Some a) = refl

or_assoc : {A : Type 0} (x y z : Option A) → option_or (option_or x y) z ≡ option_or x (option_or y z)
or_assoc None y z = refl
or_assoc (Some a) y z = refl

code_append : (cs ds : Codes) (n : ℕ) → code_in (cs ++ ds) n ≡ option_or (code_in cs n) (code_in ds n)
code_append [] ds n = refl
code_append (c ∷ cs) ds n = by (nat_eq n c.0) (code_append cs ds n) where
  by : (b : Bool) → code_in (cs ++ ds) n ≡ option_or (code_in cs n) (code_in ds n)
      → (if b then Some c.1 else code_in (cs ++ ds) n) ≡ option_or (if b then Some c.1 else code_in cs n) (code_in ds n)
  by true h = refl
  by false h = h

pub adds_none : (xs : Table) → Adds [] xs xs
adds_none xs = record { size = refl; under = λ n lt. sym (or_none (shown xs n)) }

pub adds_then : (cs ds : Codes) (xs ys zs : Table) → Adds cs xs ys → Adds ds ys zs → Adds (cs ++ ds) xs zs
adds_then cs ds xs ys zs first second = record {
  size = second.size ∙ first.size;
  under = λ n lt. second.under n (subst (λ (k : ℕ). n < k) (sym first.size) lt) ∙ ap (λ x. option_or x (code_in ds n)) (first.under n lt)
      ∙ or_assoc (shown xs n) (code_in cs n) (code_in ds n) ∙ ap (option_or (shown xs n)) (sym (code_append cs ds n));
}

module _ (old : Table) (number : ℕ) (code : Code) where
  abbrev one : Codes
  one = (number, code_view code) ∷ []

  -- it is put where nothing stands
  pub put_free : number < length old → get_or old number None ≡ None → Adds one old (set old number (Some code))
  put_free within none = record { size = length-set old number (Some code); under = λ k lt. by k (nat_eq k number) refl } where
    by : (k : ℕ) (b : Bool) → nat_eq k number ≡ b → shown (set old number (Some code)) k ≡ option_or (shown old k) (if b then Some (code_view code) else None)
    by k true e =
        let same : k ≡ number = eqb-true k number e in
        ap (option_map code_view) (get_or-set_at old number k (Some code) None same within)
        ∙ sym (ap (λ x. option_or (option_map code_view x) (Some (code_view code))) (ap (λ k. get_or old k None) same ∙ none))
    by k false e =
        ap (option_map code_view) (get_or-set_other old number k (Some code) None (λ same. let h : true ≡ false = sym (eq-eqb k number same) ∙ e in cc))
        ∙ sym (or_none (shown old k))

  -- or nothing is done
  pub put_taken : (number < length old → IsTrue (is_some (get_or old number None))) → Adds one old old
  put_taken taken = record { size = refl; under = λ k lt. by k lt (nat_eq k number) refl } where
    some : (x : Option Code) (y : Option blocks.Code) → IsTrue (is_some x) → option_map code_view x ≡ option_or (option_map code_view x) y
    some (Some a) y h = refl
    some None y h = let k : false ≡ true = h in absurd (cc)

    by : (k : ℕ) → k < length old → (b : Bool) → nat_eq k number ≡ b → shown old k ≡ option_or (shown old k) (if b then Some (code_view code) else None)
    by k lt true e =
        let same : k ≡ number = eqb-true k number e in
        some (get_or old k None) (Some (code_view code)) (subst (λ (k : ℕ). IsTrue (is_some (get_or old k None))) (sym same) (taken (subst (λ (k : ℕ). k < length old) same lt)))
    by k lt false e = sym (or_none (shown old k))

pub adds_same : (cs ds : Codes) (xs ys : Table) → ds ≡ cs → Adds cs xs ys → Adds ds xs ys
adds_same cs ds xs ys same h = subst (λ (cs : Codes). Adds cs xs ys) (sym same) h

pub ruleset adds = (adds_none, adds_then)

-- a table that had no function
pub all_added : (cs : Codes) (blocks : ℕ) (old new : Table) → old ≡ replicate blocks None → Adds cs old new
    → (length new ≡ blocks) × ((n : ℕ) → n < blocks → shown new n ≡ code_in cs n)
all_added cs blocks old new is h = (
  h.size ∙ sized,
  λ n lt. h.under n (subst (λ (k : ℕ). n < k) (sym sized) lt)
      ∙ ap (λ x. option_or (option_map code_view x) (code_in cs n)) (ap (λ xs. get_or xs n None) is ∙ get_or-replicate blocks n None None lt),
) where
  sized : length old ≡ blocks
  sized = ap length is ∙ length-replicate blocks None
