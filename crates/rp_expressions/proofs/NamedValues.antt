-- Arguments with names that stand at hand, as the code reads them.
use Rattle.std.proofs.Common.{◌≡◌, ◌≤◌, ◌<◌, ℕ, ◌+◌, ◌-◌, ◌*◌, List, [], ◌∷◌, ◌++◌, drop, get_or, length, reverse, take, sym, ap, ◌∙◌, arith}
use Rattle.std.proofs.lemmas.List.{append_assoc, drop_all, drop_more, reverse-append, reverse-reverse, take-append-drop}
use Rattle.rp_base.specs.declared.value.Value.{Value}
use Rattle.rp_engine.specs.ArgumentSteps.{named_in, word_at}
use Rattle.rp_engine.specs.HandSteps.{held_by}
use Rattle.rp_engine.specs.declared.calling.Hand.{Hand}

-- those with one
pub named_is : (h : Hand) (vs pairs : List Value) → pairs ≡ reverse (take (2 * h.named) vs) → named_in (reverse pairs) ≡ (held_by h vs).named
named_is h vs pairs are = ap (λ ys. named_in (reverse ys)) are ∙ ap named_in (reverse-reverse (take (2 * h.named) vs))

-- the last two of some values are a name and its value
pub last_two : (vs : List Value) (word v : Value) → 2 ≤ length vs → word ≡ get_or vs (length vs - 2) word → v ≡ get_or vs (length vs - 1) v
    → vs ≡ take (length vs - 2) vs ++ word ∷ v ∷ []
last_two vs word v two is_word is_value =
    let one : length vs - 2 + 1 ≡ length vs - 1 = omega (arith, two) in
    sym (take-append-drop (length vs - 2) vs)
    ∙ ap (λ (ys : List Value). take (length vs - 2) vs ++ ys)
    (drop_more vs (length vs - 2) word (omega (arith, two)) ∙ ap (λ (y : Value). y ∷ drop (length vs - 2 + 1) vs) (sym is_word)
    ∙ ap (λ (k : ℕ). word ∷ drop k vs) one
    ∙ ap (λ (ys : List Value). word ∷ ys)
    (drop_more vs (length vs - 1) v (omega (arith, two)) ∙ ap (λ (y : Value). y ∷ drop (length vs - 1 + 1) vs) (sym is_value)
    ∙ ap (λ (ys : List Value). v ∷ ys) (drop_all (length vs - 1 + 1) vs (omega (arith, two)))))

pub names_more : (vs rest : List Value) (word v : Value) (w : List ℕ) (ns ms all : List (List ℕ × Value)) → vs ≡ rest ++ word ∷ v ∷ [] → w ≡ word_at word → ms ≡ ns ++ (w, v) ∷ []
    → named_in (reverse vs) ++ reverse ns ≡ all → named_in (reverse rest) ++ reverse ms ≡ all
names_more vs rest word v w ns ms all last named pushed before_it =
    ap (λ (xs : List (List ℕ × Value)). named_in (reverse rest) ++ xs) (ap reverse pushed ∙ reverse-append ns ((w, v) ∷ []))
    ∙ sym (append_assoc (named_in (reverse rest)) ((w, v) ∷ []) (reverse ns))
    ∙ ap (λ (w : List ℕ). (named_in (reverse rest) ++ (w, v) ∷ []) ++ reverse ns) named
    ∙ ap (λ (xs : List Value). named_in xs ++ reverse ns) (sym (ap reverse last ∙ reverse-append rest (word ∷ v ∷ [])))
    ∙ before_it

pub names_all : (vs : List Value) (ns all : List (List ℕ × Value)) → length vs < 2 → named_in (reverse vs) ++ reverse ns ≡ all → reverse ns ≡ all
names_all [] ns all few is = is
names_all (x ∷ []) ns all few is = is
names_all (x ∷ y ∷ zs) ns all few is = absurd (omega (arith, few))
