-- A command runs at most 16 scripts.
use Rattle.std.proofs.Common.{◌≡◌, ◌≤◌, ◌&&◌, ℕ, suc, Bool, true, false, nat_le, nat_lt, if◌then◌else◌, List, [], ◌∷◌}
use Rattle.std.proofs.Common.{length, map, chars, codes, Option, Some, None, option_map, option_and_then, unwrap_or}
use Rattle.std.proofs.Common.{refl, sym, ap, ◌∙◌, arith}
use Rattle.std.proofs.lemmas.Bool.{and_parts, leb-true}
use Rattle.std.proofs.lemmas.List.{length-map}
use Rattle.clap.specs.Walk.{Row, all_of, first_of}
use Rattle.rp_words.specs.Command.{Command, May, Pair, Run, all_found, command_of, is_on, is_verb, large, large_of}
use Rattle.rp_words.specs.Command.{limit_of, may, may_of, pair_of, pairs_of, question_of, run, run_given, run_of}
use Rattle.rp_words.specs.Command.{script, script_of, turns_of}
use Rattle.rp_words.specs.Options.{given, run_command}
use Rattle.rp_words.specs.declared.command.Question.{Question}
use Rattle.rp_grammar.proofs.Basics.{some_is}

-- the run of what was found
abbrev a_run : List ℕ → List Pair → ℕ → ℕ → Bool → List ℕ → Run
a_run d ps s c trail t =
    record { declarations = chars d; pairs = ps; steps = s; cells = c; turns = t; trail = trail }

-- its pairs are those that were found
found : (declarations : Option (List ℕ)) (pairs : Option (List Pair)) (steps cells : Option ℕ)
    (turns : List Pair → Option (List ℕ)) (trail : Bool) (r : Run)
    → option_and_then (λ (d : List ℕ). option_and_then (λ (ps : List Pair). option_and_then (λ (s : ℕ).
    option_and_then (λ (c : ℕ). option_and_then (λ (t : List ℕ).
    Some (a_run d ps s c trail t)) (turns ps)) cells) steps) pairs) declarations ≡ Some r
    → pairs ≡ Some r.pairs
found None pairs steps cells turns trail r e = absurd (cc)
found (Some d) None steps cells turns trail r e = absurd (cc)
found (Some d) (Some ps) None cells turns trail r e = absurd (cc)
found (Some d) (Some ps) (Some s) None turns trail r e = absurd (cc)
found (Some d) (Some ps) (Some s) (Some c) turns trail r e = by (turns ps) e where
  by : (o : Option (List ℕ)) → option_and_then (λ (t : List ℕ). Some (a_run d ps s c trail t)) o ≡ Some r
      → Some ps ≡ Some r.pairs
  by None e = absurd (cc)
  by (Some t) e = ap (option_map (λ (r : Run). r.pairs)) e

-- as many are found as were looked for
found-length : {A : Type 0} (os : List (Option A)) (xs : List A) → all_found os ≡ Some xs → length xs ≡ length os
found-length [] xs e = ap length (sym (some_is e))
found-length (None ∷ os) xs e = absurd (cc)
found-length {A} (Some x ∷ os) xs e = by (all_found os) (found-length os) e where
  by : (o : Option (List A)) → ((ys : List A) → o ≡ Some ys → length ys ≡ length os)
      → option_and_then (λ ys. Some (x ∷ ys)) o ≡ Some xs
      → length xs ≡ suc (length os)
  by None rest e = absurd (cc)
  by (Some ys) rest e = ap length (sym (some_is e)) ∙ ap suc (rest ys refl)

few_found : (words : List (List ℕ)) (pairs : List Pair) → pairs_of words ≡ Some pairs → length pairs ≤ 16
few_found words pairs e = by (nat_lt 0 (length words) && nat_le (length words) 16) refl e where
  by : (b : Bool) → (nat_lt 0 (length words) && nat_le (length words) 16) ≡ b
      → (if b then all_found (map pair_of words) else None) ≡ Some pairs
      → length pairs ≤ 16
  by false is e = absurd (cc)
  by true is e =
      let (some, few) = and_parts (nat_lt 0 (length words)) (nat_le (length words) 16) is in
      let many : length pairs ≡ length words = found-length (map pair_of words) pairs e ∙ length-map words pair_of in
      let at_most : length words ≤ 16 = leb-true (length words) 16 few in
      omega (arith, many, at_most)

few_given : (rows : List Row) (r : Run) → run_given rows ≡ Some r → length r.pairs ≤ 16
few_given rows r is =
    few_found (unwrap_or (all_of (codes "pairs") rows) []) r.pairs
    (found (first_of (codes "declarations") rows) (pairs_of (unwrap_or (all_of (codes "pairs") rows) []))
    (limit_of 100000000 (first_of (codes "steps") rows)) (limit_of 8000000 (first_of (codes "cells") rows))
    (λ pairs. turns_of (length pairs) (first_of (codes "turns") rows)) (is_on (first_of (codes "trail") rows)) r is)

few_run : (o : Option (List Row)) (r : Run) → option_and_then run_given o ≡ Some r → length r.pairs ≤ 16
few_run None r e = absurd (cc)
few_run (Some rows) r e = few_given rows r e

-- what gives a run is `run`
run_back : (o : Option Run) (r : Run) → option_map run o ≡ Some (run r) → o ≡ Some r
run_back None r e = absurd (cc)
run_back (Some q) r e = ap Some (inside e) where
  inside : {x y : Run} → ◌≡◌ {A = Option Command} (Some (run x)) (Some (run y)) → x ≡ y
  inside e = cc

may_not : (o : Option May) (r : Run) → option_map may o ≡ Some (run r) → ⊥
may_not None r e = cc
may_not (Some m) r e = cc

large_not : (o : Option ℕ) (r : Run) → option_map large o ≡ Some (run r) → ⊥
large_not None r e = cc
large_not (Some n) r e = cc

script_not : (q : Option Question) (path : Option (List ℕ)) (r : Run)
    → option_and_then (λ question. option_map (script question) path) q ≡ Some (run r) → ⊥
script_not None path r e = cc
script_not (Some q) None r e = cc
script_not (Some q) (Some path) r e = cc

-- what gives a run gives one of few pairs, whatever the other commands take
chosen : (a b c : Bool) (o : Option Run) (m : Option May) (n : Option ℕ) (q : Option Question) (path : Option (List ℕ))
    (r : Run) → (o ≡ Some r → length r.pairs ≤ 16)
    → (if a then option_map run o
    else (if b then option_map may m
    else (if c then option_map large n
    else option_and_then (λ question. option_map (script question) path) q))) ≡ Some (run r)
    → length r.pairs ≤ 16
chosen true b c o m n q path r few e = few (run_back o r e)
chosen false true c o m n q path r few e = absurd (may_not m r e)
chosen false false true o m n q path r few e = absurd (large_not n r e)
chosen false false false o m n q path r few e = absurd (script_not q path r e)

pub few-pairs : (words : List (List ℕ)) (r : Run) → command_of words ≡ Some (run r) → length r.pairs ≤ 16
few-pairs [] r e = absurd (cc)
few-pairs (verb ∷ words) r e =
    chosen (is_verb verb (codes "run")) (is_verb verb (codes "may")) (is_verb verb (codes "large")) (run_of words)
    (may_of words) (large_of words) (question_of verb) (script_of words) r
    (λ is. few_run (given run_command words) r is) e
