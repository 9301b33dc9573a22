-- The large input has a size from 1 to 10,000.
use Rattle.std.proofs.Common.{◌≡◌, ◌≤◌, ◌&&◌, ℕ, Bool, true, false, nat_le, nat_lt, if◌then◌else◌, List, [], ◌∷◌}
use Rattle.std.proofs.Common.{length, codes, Option, Some, None, option_map, option_and_then, ap, refl, arith}
use Rattle.std.proofs.lemmas.Bool.{and_parts, leb-true}
use Rattle.std.specs.Char.{is_ascii_digit}
use Rattle.std.specs.List.{list_all}
use Rattle.std.specs.Str.Parse.{digits_value}
use Rattle.clap.specs.Walk.{Row, first_of}
use Rattle.rp_words.specs.Command.{Command, May, Run, command_of, is_verb, large, large_given, large_of, may, may_of}
use Rattle.rp_words.specs.Command.{number_of, question_of, run, run_of, script, script_of}
use Rattle.rp_words.specs.Options.{given, large_command}
use Rattle.rp_words.specs.declared.command.Question.{Question}
use Rattle.rp_grammar.proofs.Basics.{some_is}

abbrev IsBetween : ℕ → ℕ → ℕ → Type 0
IsBetween least most n = (least ≤ n) × (n ≤ most)

-- the number that digits spell, within what a word may say
module _ (longest least most : ℕ) (digits : List ℕ) where
  abbrev spelled : ℕ
  spelled = digits_value 10 digits

  abbrev is_number : Bool
  is_number = (nat_lt 0 (length digits) && nat_le (length digits) longest) && list_all is_ascii_digit digits

  abbrev is_between : Bool
  is_between = nat_le least spelled && nat_le spelled most

  between : (b : Bool) → (is_number && is_between) ≡ b → (n : ℕ) → (if b then Some spelled else None) ≡ Some n
      → IsBetween least most n
  between false is n e = absurd (cc)
  between true is n e =
      let parts = and_parts is_number is_between is in
      let both = and_parts (nat_le least spelled) (nat_le spelled most) parts.1 in
      let above : least ≤ spelled = leb-true least spelled both.0 in
      let below : spelled ≤ most = leb-true spelled most both.1 in
      let same : spelled ≡ n = some_is e in
      (omega (arith, above, same), omega (arith, below, same))

  number-between : (n : ℕ) → number_of longest least most digits ≡ Some n → IsBetween least most n
  number-between n e = between (is_number && is_between) refl n e

digits-between : (o : Option (List ℕ)) (n : ℕ) → option_and_then (number_of 5 1 10000) o ≡ Some n
    → IsBetween 1 10000 n
digits-between None n e = absurd (cc)
digits-between (Some digits) n e = number-between 5 1 10000 digits n e

rows-between : (o : Option (List Row)) (n : ℕ) → option_and_then large_given o ≡ Some n → IsBetween 1 10000 n
rows-between None n e = absurd (cc)
rows-between (Some rows) n e = digits-between (first_of (codes "number") rows) n e

-- what gives a size is `large`
large_back : (o : Option ℕ) (n : ℕ) → option_map large o ≡ Some (large n) → o ≡ Some n
large_back None n e = absurd (cc)
large_back (Some m) n e = ap Some (inside e) where
  inside : {x y : ℕ} → ◌≡◌ {A = Option Command} (Some (large x)) (Some (large y)) → x ≡ y
  inside e = cc

run_not : (o : Option Run) (n : ℕ) → option_map run o ≡ Some (large n) → ⊥
run_not None n e = cc
run_not (Some r) n e = cc

may_not : (o : Option May) (n : ℕ) → option_map may o ≡ Some (large n) → ⊥
may_not None n e = cc
may_not (Some m) n e = cc

script_not : (q : Option Question) (path : Option (List ℕ)) (n : ℕ)
    → option_and_then (λ question. option_map (script question) path) q ≡ Some (large n) → ⊥
script_not None path n e = cc
script_not (Some q) None n e = cc
script_not (Some q) (Some path) n e = cc

-- what gives one gives one of these, whatever the other commands take
chosen : (a b c : Bool) (o : Option Run) (m : Option May) (l : Option ℕ) (q : Option Question) (path : Option (List ℕ))
    (n : ℕ) → (l ≡ Some n → IsBetween 1 10000 n)
    → (if a then option_map run o
    else (if b then option_map may m
    else (if c then option_map large l
    else option_and_then (λ question. option_map (script question) path) q))) ≡ Some (large n)
    → IsBetween 1 10000 n
chosen true b c o m l q path n within e = absurd (run_not o n e)
chosen false true c o m l q path n within e = absurd (may_not m n e)
chosen false false true o m l q path n within e = within (large_back l n e)
chosen false false false o m l q path n within e = absurd (script_not q path n e)

pub large-within : (words : List (List ℕ)) (n : ℕ) → command_of words ≡ Some (large n) → (1 ≤ n) × (n ≤ 10000)
large-within [] n e = absurd (cc)
large-within (verb ∷ words) n e =
    chosen (is_verb verb (codes "run")) (is_verb verb (codes "may")) (is_verb verb (codes "large")) (run_of words)
    (may_of words) (large_of words) (question_of verb) (script_of words) n
    (λ is. rows-between (given large_command words) n is) e
