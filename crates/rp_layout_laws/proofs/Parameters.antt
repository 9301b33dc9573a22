-- The names of parameters, of which the grammar has it that they differ and that `global` names none of them.
use Rattle.std.proofs.Common.{◌≡◌, ℕ, Bool, true, false, not, ◌||◌, List, [], ◌∷◌, ◌++◌, map, Option, Some, None}
use Rattle.std.proofs.Common.{refl, sym, subst, ◌∙◌, true≢false, arith}
use Rattle.std.proofs.Math.Dec.{eqb}
use Rattle.std.proofs.lemmas.Bool.{and_parts}
use Rattle.std.specs.List.{filter_map, list_all, list_any}
use Rattle.rp_base.specs.declared.value.Name.{Name}
use Rattle.rp_tree.specs.Expressions as tree
use Rattle.rp_grammar.specs.Expressions as grammar
use Rattle.rp_grammar.specs.Expressions.{distinct, parameter_names, same_name}
use Rattle.rp_grammar.specs.Statements.{is_free}
use Rattle.rp_scope.specs.Bindings as bindings
use Rattle.rp_scope.specs.Bindings.{all_bound, global_name, params_names, within}
use Rattle.rp_scope.specs.declared.mentions.Mention.{Mention}
use Rattle.rp_scope.specs.declared.mentions.Mention.TheVariants.{Bound, Global, GlobalWithin}
use Rattle.rp_apart_laws.specs.Apart.{Each}
use Rattle.rp_fit_laws.specs.Programs.{AllDiffer}

-- ---- tests that fail

is_false : (b : Bool) → not b ≡ true → b ≡ false
is_false true h = absurd (true≢false (sym h))
is_false false h = refl

neither : (a b : Bool) → (a || b) ≡ false → (a ≡ false) × (b ≡ false)
neither true b h = absurd (true≢false h)
neither false b h = (refl, h)

flipped : (a b : ℕ) → eqb a b ≡ eqb b a
flipped a b = grind arith

-- ---- names that differ

-- no name of a list is this one
abbrev AreOthers : Name → List Name → Type 0
AreOthers n ns = Each (λ (m : Name). same_name n m ≡ false) ns

none_same : (n : Name) (ns : List Name) → list_any (same_name n) ns ≡ false → AreOthers n ns
none_same n [] h = tt
none_same n (m ∷ ms) h =
    let parts = neither (same_name n m) (list_any (same_name n) ms) h in (parts.0, none_same n ms parts.1)

-- none of the first names is one of the others
abbrev pub AreApart : List Name → List Name → Type 0
AreApart gs ns = Each (λ (g : Name). list_any (same_name g) ns ≡ false) gs

unlisted : (n : Name) (ns gs : List Name) → AreApart gs (n ∷ ns) → list_any (same_name n) gs ≡ false
unlisted n ns [] apart = refl
unlisted n ns (g ∷ gs) apart =
    let here : same_name g n ≡ false = (neither (same_name g n) (list_any (same_name g) ns) apart.0).0 in
    let first : same_name n g ≡ false = flipped n.0 g.0 ∙ here in
    let rest = unlisted n ns gs apart.1 in
    λ i. first i || rest i

apart_behind : (n : Name) (ns gs : List Name) → AreApart gs (n ∷ ns) → AreApart gs ns
apart_behind n ns [] apart = tt
apart_behind n ns (g ∷ gs) apart =
    ((neither (same_name g n) (list_any (same_name g) ns) apart.0).1, apart_behind n ns gs apart.1)

all_differ : (ns gs : List Name) → distinct ns ≡ true → AreApart gs ns → AllDiffer ns gs
all_differ [] gs d apart = tt
all_differ (n ∷ ns) gs d apart =
    let parts = and_parts (not (list_any (same_name n) ns)) (distinct ns) d in (
      none_same n ns (is_false (list_any (same_name n) ns) parts.0),
      unlisted n ns gs apart,
      all_differ ns gs parts.1 (apart_behind n ns gs apart),
    )

-- ---- parameters, as the grammar and as the scopes name them

plain_are : (ps : tree.Plain) → grammar.plain_names ps ≡ bindings.plain_names ps
plain_are tree.no_plain = refl
plain_are (tree.plain n x ps) = let rest = plain_are ps in λ i. n.name ∷ rest i

named_are : (n : Option tree.Named) → grammar.named_names n ≡ bindings.option_names n
named_are None = refl
named_are (Some n) = refl

parameters_are : (ps : tree.Params) → parameter_names ps ≡ params_names ps
parameters_are (tree.params ps l d) =
    let a = plain_are ps in let b = named_are l in let c = named_are d in λ i. a i ++ b i ++ c i

pub parameters_differ : (ps : tree.Params) (gs : List Name) → distinct (parameter_names ps) ≡ true
    → AreApart gs (parameter_names ps) → AllDiffer (params_names ps) gs
parameters_differ ps gs d apart =
    subst (λ (ns : List Name). AllDiffer ns gs) (parameters_are ps) (all_differ (parameter_names ps) gs d apart)

-- ---- what statements say of names

-- a name that is none of the parameters, where there are such
abbrev pub IsFree : Option (List Name) → Name → Type 0
IsFree None n = Unit {0}
IsFree (Some ps) n = list_any (same_name n) ps ≡ false

-- a `global` statement of the block itself names no parameter of it
abbrev pub Spares : Option (List Name) → Mention Name → Type 0
Spares f (Bound n) = Unit {0}
Spares f (Global n) = IsFree f n
Spares f (GlobalWithin n) = Unit {0}

pub spared : (ps : List Name) (ms : List (Mention Name)) → Each (Spares (Some ps)) ms
    → AreApart (filter_map global_name ms) ps
spared ps [] h = tt
spared ps (Bound n ∷ ms) h = spared ps ms h.1
spared ps (Global n ∷ ms) h = (h.0, spared ps ms h.1)
spared ps (GlobalWithin n ∷ ms) h = spared ps ms h.1

one_free : (f : Option (List Name)) (n : tree.Named) → is_free f n ≡ true → IsFree f n.name
one_free None n h = tt
one_free (Some ps) n h = is_false (list_any (same_name n.name) ps) h

pub all_free : (f : Option (List Name)) (ns : List tree.Named) → list_all (is_free f) ns ≡ true
    → Each (Spares f) (map (λ (n : tree.Named). Global n.name) ns)
all_free f [] h = tt
all_free f (n ∷ ns) h =
    let parts = and_parts (is_free f n) (list_all (is_free f) ns) h in (one_free f n parts.0, all_free f ns parts.1)

pub bound_spare : (f : Option (List Name)) (ns : List Name) → Each (Spares f) (all_bound ns)
bound_spare f [] = tt
bound_spare f (n ∷ ns) = (tt, bound_spare f ns)

pub within_spare : (f : Option (List Name)) (ms : List (Mention Name)) → Each (Spares f) (within ms)
within_spare f [] = tt
within_spare f (Bound n ∷ ms) = within_spare f ms
within_spare f (Global n ∷ ms) = (tt, within_spare f ms)
within_spare f (GlobalWithin n ∷ ms) = (tt, within_spare f ms)
