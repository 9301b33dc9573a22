-- The command that the words of a command line give: the first word says which it is, `clap` tells what the words
-- behind it give each argument (`specs/Options`), and the texts have their rules.
use Rattle.std.specs.Prelude.{ℕ, Bool, false, ◌&&◌, ◌==◌, nat_eq, nat_lt, nat_le, if◌then◌else◌, List, [], ◌∷◌, ◌++◌}
use Rattle.std.specs.Prelude.{length, map, chars, codes, Option, Some, None, option_map, option_and_then, unwrap_or}
use Rattle.std.specs.List.{before_first, after_first, list_all, slice_split}
use Rattle.std.specs.Option.{option_map_or}
use Rattle.std.specs.Cmp.Lexicographic.{pointwise}
use Rattle.std.specs.Char.{is_ascii_digit}
use Rattle.std.specs.Str.Parse.{digits_value}
use Rattle.clap.specs.Walk.{Row, all_of, first_of}
use Rattle.rp_decl.specs.Word.{is_id}
use Rattle.rp_words.specs.Options.{given, run_command, script_command, may_command, large_command}
use Rattle.rp_words.specs.declared.command.Question.{Question}
use Rattle.rp_words.specs.declared.command.Question.TheVariants.{Check, Show}

-- the principals of a session and the path of its script: the ids in one word and apart, as characters
pub record Pair : Type 0 where
  pub who : List ℕ
  pub ids : List (List ℕ)
  pub path : List ℕ

-- run these scripts, under these declarations, within these limits; the sessions of these numbers first take turns, in
-- order
pub record Run : Type 0 where
  pub declarations : List ℕ
  pub pairs : List Pair
  pub steps : ℕ
  pub cells : ℕ
  pub turns : List ℕ
  pub trail : Bool

-- tell whether these principals have this permission under these declarations, as characters
pub record May : Type 0 where
  pub declarations : List ℕ
  pub ids : List (List ℕ)
  pub permission : List ℕ

pub data Command : Type 0 where
  run : Run → Command
  -- answer a question about the script at this path
  script : Question → List ℕ → Command
  may : May → Command
  -- run the large input of this size
  large : ℕ → Command

-- the rest, with what a first part gives
infixl 10 ◌>>=◌
abbrev ◌>>=◌ : {A B : Type 0} → Option A → (A → Option B) → Option B
found >>= rest = option_and_then rest found

-- the answers, where each is one
abbrev pub all_found : {A : Type 0} → List (Option A) → Option (List A)
all_found [] = Some []
all_found (o ∷ os) = do
  x ← o
  xs ← all_found os
  Some (x ∷ xs)

-- ids joined by `+`
abbrev pub ids_of : List ℕ → List (List ℕ)
ids_of who = map chars (slice_split (λ b. b == 43) who)

abbrev pub is_who : List ℕ → Bool
is_who who = list_all is_id (ids_of who)

-- `WHO:PATH`, split at its first colon
abbrev pub who_of : List ℕ → List ℕ
who_of pair = before_first (λ b. b == 58) pair

abbrev pub path_of : List ℕ → List ℕ
path_of pair = after_first (λ b. b == 58) pair

abbrev pub is_pair : List ℕ → Bool
is_pair pair = is_who (who_of pair) && nat_lt 0 (length (path_of pair))

abbrev pub pair_of : List ℕ → Option Pair
pair_of pair =
    if is_pair pair
    then Some (record { who = chars (who_of pair); ids = ids_of (who_of pair); path = chars (path_of pair) })
    else None

-- 1 to 16 pairs
abbrev pub pairs_of : List (List ℕ) → Option (List Pair)
pairs_of words = if nat_lt 0 (length words) && nat_le (length words) 16 then all_found (map pair_of words) else None

-- the number that at least one ASCII digit and at most `longest` spell, where it lies between these two
abbrev pub number_of : ℕ → ℕ → ℕ → List ℕ → Option ℕ
number_of longest least most digits =
    if (nat_lt 0 (length digits) && nat_le (length digits) longest) && list_all is_ascii_digit digits
    && (nat_le least (digits_value 10 digits) && nat_le (digits_value 10 digits) most)
    then Some (digits_value 10 digits)
    else None

-- the most steps of a session, and the most cells that a run may use, where no option says otherwise
abbrev pub usual_limit : ℕ
usual_limit = 1000000

-- `--steps N` and `--cells N`: up to 9 digits, at most so many; the usual limit where the option is not given
abbrev pub limit_of : ℕ → Option (List ℕ) → Option ℕ
limit_of most None = Some usual_limit
limit_of most (Some digits) = number_of 9 0 most digits

-- `--turns LIST`: numbers of one or two digits, joined by `,`, each that of a pair; at most 10,000 of them, and none
-- where the option is not given
abbrev pub turns_of : ℕ → Option (List ℕ) → Option (List ℕ)
turns_of pairs None = Some []
turns_of pairs (Some turns) =
    let numbers = slice_split (λ b. b == 44) turns in
    if nat_le (length numbers) 10000 then all_found (map (number_of 2 1 pairs) numbers) else None

abbrev pub is_verb : List ℕ → List ℕ → Bool
is_verb word verb = pointwise nat_eq word verb

-- the flag is there
abbrev pub is_on : Option (List ℕ) → Bool
is_on value = option_map_or (λ text. is_verb text (codes "true")) value false

-- what the matches give
abbrev pub run_given : List Row → Option Run
run_given rows = do
  declarations ← first_of (codes "declarations") rows
  pairs ← pairs_of (unwrap_or (all_of (codes "pairs") rows) [])
  steps ← limit_of 100000000 (first_of (codes "steps") rows)
  cells ← limit_of 8000000 (first_of (codes "cells") rows)
  turns ← turns_of (length pairs) (first_of (codes "turns") rows)
  Some (record {
    declarations = chars declarations;
    pairs = pairs;
    steps = steps;
    cells = cells;
    turns = turns;
    trail = is_on (first_of (codes "trail") rows);
  })

abbrev pub may_given : List Row → Option May
may_given rows = do
  declarations ← first_of (codes "declarations") rows
  who ← first_of (codes "who") rows
  permission ← first_of (codes "permission") rows
  if is_who who && is_id (chars permission)
      then Some (record { declarations = chars declarations; ids = ids_of who; permission = chars permission })
      else None

abbrev pub script_given : List Row → Option (List ℕ)
script_given rows = option_map chars (first_of (codes "script") rows)

abbrev pub large_given : List Row → Option ℕ
large_given rows = first_of (codes "number") rows >>= number_of 5 1 10000

-- what the words behind the first one give
abbrev pub run_of : List (List ℕ) → Option Run
run_of words = given run_command words >>= run_given

abbrev pub may_of : List (List ℕ) → Option May
may_of words = given may_command words >>= may_given

abbrev pub script_of : List (List ℕ) → Option (List ℕ)
script_of words = given script_command words >>= script_given

abbrev pub large_of : List (List ℕ) → Option ℕ
large_of words = given large_command words >>= large_given

-- the question of a word
abbrev pub question_of : List ℕ → Option Question
question_of verb =
    if is_verb verb (codes "check") then Some Check
    else (if is_verb verb (codes "show") then Some Show else None)

-- the command that the words, as UTF-8, give, where they give one
abbrev pub command_of : List (List ℕ) → Option Command
command_of [] = None
command_of (verb ∷ words) =
    if is_verb verb (codes "run") then option_map run (run_of words)
    else (if is_verb verb (codes "may") then option_map may (may_of words)
    else (if is_verb verb (codes "large") then option_map large (large_of words)
    else (question_of verb >>= λ question. option_map (script question) (script_of words))))

abbrev pub usage : List ℕ
usage =
    codes "usage: rpy run DECL WHO:SCRIPT... [--steps N] [--cells N] [--turns LIST] [--trail]\n"
    ++ codes "       rpy check SCRIPT\n"
    ++ codes "       rpy show SCRIPT\n"
    ++ codes "       rpy may DECL WHO PERMISSION\n"
    ++ codes "       rpy large N\n"
    ++ codes "       rpy audit DECL TRAIL\n"
    ++ codes "       rpy at DECL PLACES WHO PERMISSION OBJECT\n"
    ++ codes "       rpy reach DECL PLACES WHO PERMISSION\n"
    ++ codes "       rpy console DECL INPUT WHO...\n"
