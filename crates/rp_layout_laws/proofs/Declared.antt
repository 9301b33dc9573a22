-- A module has a local name for each declared class and object.
use Rattle.std.proofs.Common.{◌≡◌, refl, sym, ap, ◌∙◌, true≢false, ℕ, Bool, true, false, ◌||◌, List}
use Rattle.std.proofs.Common.{[], ◌∷◌, ◌++◌, length, map, Ordering, Less, Equal, Greater, arith}
use Rattle.std.specs.List.{All, AllByRecursion, list_any}
use Rattle.std.specs.List.Sorted.{IsStrictlySortedBy}
use Rattle.std.specs.Ordering.{ordering_reverse}
use Rattle.std.proofs.lemmas.List.{length-append, length-map}
use Rattle.std.proofs.lemmas.List.Elements.{All-head, All-tail}
use Rattle.rp_base.specs.Names.{is_held, same_name}
use Rattle.rp_base.specs.Same.{same_text}
use Rattle.rp_base.specs.declared.value.Name.{Name}
use Rattle.rp_base.proofs.CallerLemmas.{same_text-equal, same_text-refl}
use Rattle.rp_decl.specs.Consistency.{class_names}
use Rattle.rp_decl.specs.InOrder.{AreAscending}
use Rattle.rp_decl.specs.Order.{text_cmp}
use Rattle.rp_decl.specs.Records.{Object}
use Rattle.rp_decl.proofs.Orders.{text_cmp_total}
use Rattle.rp_meaning.specs.BuiltIn.{name_of}
use Rattle.rp_scope.specs.Bindings.{mentioned_name, stmts_mentions}
use Rattle.rp_apart_laws.specs.Apart.{Each}
use Rattle.rp_fit_laws.specs.Programs.{AllDiffer}
use Rattle.rp_fit_laws.proofs.Rooms.{once_begins}
use Rattle.rp_layout_laws.specs.Layout.{AreHeld, EachDeclaredHasRoom, declared_names}
use Rattle.rp_layout_laws.proofs.Places.{names_differ}

-- ---- words that differ

abbrev Differs : List ℕ → List ℕ → Type 0
Differs v w = same_text v w ≡ false

abbrev AllApart : List (List ℕ) → Type 0
AllApart [] = Unit {0}
AllApart (w ∷ ws) = Each (Differs w) ws × AllApart ws

-- so do their names

others_named : (names : List (List ℕ)) (w : List ℕ) (ws : List (List ℕ)) → is_held names w ≡ true → AreHeld names ws
    → Each (Differs w) ws → Each (λ (m : Name). same_name (name_of names w) m ≡ false) (map (name_of names) ws)
others_named names w [] held also differ = tt
others_named names w (v ∷ vs) held also differ =
    (names_differ names w v held also.0 differ.0, others_named names w vs held also.1 differ.1)

all_named : (names : List (List ℕ)) (ws : List (List ℕ)) → AreHeld names ws → AllApart ws
    → AllDiffer (map (name_of names) ws) []
all_named names [] held differ = tt
all_named names (w ∷ ws) held differ =
    (others_named names w ws held.0 held.1 differ.0, refl, all_named names ws held.1 differ.1)

-- ---- words in byte order

not_less : (o : Ordering) → o ≡ ordering_reverse o → o ≡ Less → ⊥
not_less Less e f = absurd cc
not_less Equal e f = absurd cc
not_less Greater e f = absurd cc

less_differs : (v w : List ℕ) → text_cmp v w ≡ Less → Differs v w
less_differs v w less = by (same_text v w) refl where
  by : (b : Bool) → same_text v w ≡ b → same_text v w ≡ false
  by true e =
      let same : text_cmp w w ≡ Less = ap (λ (x : List ℕ). text_cmp x w) (sym (same_text-equal v w e)) ∙ less in
      absurd (not_less (text_cmp w w) (text_cmp_total.antisymm w w) same)
  by false e = e

all_less : (v : List ℕ) (ws : List (List ℕ)) → AllByRecursion (λ y. text_cmp v y ≡ Less) ws → Each (Differs v) ws
all_less v [] less = tt
all_less v (w ∷ ws) less = (less_differs v w less.0, all_less v ws less.1)

ascending_differ : (ws : List (List ℕ)) → AreAscending ws → AllApart ws
unfolding IsStrictlySortedBy
ascending_differ [] up = tt
ascending_differ (w ∷ ws) up = (all_less w ws up.0, ascending_differ ws up.1)

-- ---- words of two kinds

swapped : (v w : List ℕ) → Differs v w → Differs w v
swapped v w differ = by (same_text w v) refl where
  by : (b : Bool) → same_text w v ≡ b → same_text w v ≡ false
  by true e =
      absurd (true≢false (sym (same_text-refl v) ∙ (ap (same_text v) (sym (same_text-equal w v e)) ∙ differ)))
  by false e = e

both_differ : (v : List ℕ) (ws us : List (List ℕ)) → Each (Differs v) ws → Each (Differs v) us
    → Each (Differs v) (ws ++ us)
both_differ v [] us h k = k
both_differ v (w ∷ ws) us h k = (h.0, both_differ v ws us h.1 k)

-- where none of the others is one of these
all_differ : (ws us : List (List ℕ)) → AllApart ws → AllApart us
    → Each (λ (u : List ℕ). list_any (same_text u) ws ≡ false) us → AllApart (ws ++ us)
all_differ [] us h k apart = k
all_differ (w ∷ ws) us h k apart =
    (both_differ w ws us h.0 (first us apart), all_differ ws us h.1 k (behind us apart))
  where
    neither : (a b : Bool) → (a || b) ≡ false → (a ≡ false) × (b ≡ false)
    neither true b e = absurd (true≢false e)
    neither false b e = (refl, e)

    first : (us : List (List ℕ)) → Each (λ (u : List ℕ). list_any (same_text u) (w ∷ ws) ≡ false) us
        → Each (Differs w) us
    first [] apart = tt
    first (u ∷ us) apart =
        (swapped u w (neither (same_text u w) (list_any (same_text u) ws) apart.0).0, first us apart.1)

    behind : (us : List (List ℕ)) → Each (λ (u : List ℕ). list_any (same_text u) (w ∷ ws) ≡ false) us
        → Each (λ (u : List ℕ). list_any (same_text u) ws ≡ false) us
    behind [] apart = tt
    behind (u ∷ us) apart = ((neither (same_text u w) (list_any (same_text u) ws) apart.0).1, behind us apart.1)

-- the names of objects, of which none is that of a class
objects_apart : (classes : List (List ℕ)) (os : List Object)
    → All (λ (o : Object). list_any (same_text o.name) classes ≡ false) os
    → Each (λ (u : List ℕ). list_any (same_text u) classes ≡ false) (map (λ (o : Object). o.name) os)
objects_apart classes [] apart = tt
objects_apart classes (o ∷ os) apart = (
  All-head (λ (o : Object). list_any (same_text o.name) classes ≡ false) o os apart,
  objects_apart classes os (All-tail (λ (o : Object). list_any (same_text o.name) classes ≡ false) o os apart),
)

pub each_declared_has_room : EachDeclaredHasRoom
each_declared_has_room names d order apart held body =
    let differ = all_differ (class_names d) (map (λ (o : Object). o.name) d.objects)
    (ascending_differ (class_names d) order.classes)
    (ascending_differ (map (λ (o : Object). o.name) d.objects) order.objects)
    (objects_apart (class_names d) d.objects apart.objects) in
    let these = once_begins (map (name_of names) (declared_names d)) [] (map mentioned_name (stmts_mentions body))
    (all_named names (declared_names d) held differ) in
    let long = ap length these.1 in
    let more = length-append (map (name_of names) (declared_names d)) these.0 in
    let many = length-map (declared_names d) (name_of names) in
    let sum = length-append (class_names d) (map (λ (o : Object). o.name) d.objects) in
    let classes = length-map d.classes (λ c. c.name) in
    let objects = length-map d.objects (λ (o : Object). o.name) in
    omega (arith, long, more, many, sum, classes, objects)
