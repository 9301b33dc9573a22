-- What is told of the large input.
use Rattle.std.proofs.Common.{◌≡◌, ◌≢◌, ◌∙◌, ◌<◌, ◌-◌, ◌++◌, ◌∷◌, ℕ, Bool, true, false, if◌then◌else◌, [], List}
use Rattle.std.proofs.Common.{IfErr, IfOk, Some, None, Result, Ok, Err, Vec, Global, ap, append_assoc, arith}
use Rattle.std.proofs.Common.{codes, length, map, refl, subst}
use Rattle.std.specs.Option.{option_map_or}
use Rattle.rp_base.specs.InMemory.{bytes_at}
use Rattle.rp_base.specs.Same.{same_text}
use Rattle.rp_base.specs.declared.memory.Memory.{Memory}
use Rattle.rp_meaning.specs.Sessions.{Session as MeantSession, World}
use Rattle.rp_meaning.specs.Unmonitored.{told_of}
use Rattle.rp_run.specs.Output.{Finished, as_told, run_status, run_text, used_lines}
use Rattle.rp_run.specs.SetUp.{IsReadyWith, ReachesReady, ToldReadyUsed, declarations_of, programs_in}
use Rattle.rp_run.specs.Told as told
use Rattle.rp_run.specs.Told.{ToldLarge, ToldUsed, large_contents, large_lines, large_pair, large_run, texts_at}
use Rattle.rp_run.specs.declared.answer.Answer.{Answer}
use Rattle.rp_run.specs.declared.ready.Ready.{Ready}
use Rattle.rp_run.specs.declared.stop.Stop.{Stop}
use Rattle.rp_run.specs.declared.stop.Stop.TheVariants.{Failed}
use Rattle.rp_session.specs.declared.session.Session.{Session}
use Rattle.rp_tree.specs.StatementViews.{view_tree}
use Rattle.rp_words.specs.Command.{Pair, Run, usual_limit}

-- ---- the run and its files

-- a pair, and a run without options, by their parts
abbrev a_pair : List ℕ → List (List ℕ) → List ℕ → Pair
a_pair who ids path = record { who = who; ids = ids; path = path }

abbrev a_run : List ℕ → List Pair → List ℕ → Run
a_run declarations pairs turns = record {
  declarations = declarations;
  pairs = pairs;
  steps = usual_limit;
  cells = usual_limit;
  turns = turns;
  trail = false;
}

pub pair-is : (who : List ℕ) (ids : List (List ℕ)) (path : List ℕ) → who ≡ codes "p" → ids ≡ codes "p" ∷ []
    → path ≡ codes "script" → a_pair who ids path ≡ large_pair
pair-is who ids path same_who same_ids same_path = λ i. a_pair (same_who i) (same_ids i) (same_path i)

pub run-is : (declarations : List ℕ) (pairs : List Pair) (turns : List ℕ) → declarations ≡ codes "declarations"
    → pairs ≡ large_pair ∷ [] → turns ≡ [] → a_run declarations pairs turns ≡ large_run
run-is declarations pairs turns same_path same_pairs none = λ i. a_run (same_path i) (same_pairs i) (none i)

-- two files in memory
module _ (first second declarations script : List ℕ) (a b : Vec ℕ Global) (is_first : first ≡ codes "declarations")
    (is_second : second ≡ codes "script") (declares : a.items ≡ declarations) (runs : b.items ≡ script) where
  abbrev two : List (List ℕ × Vec ℕ Global)
  two = (first, a) ∷ (second, b) ∷ []

  picked : (p q : Bool)
      → option_map_or (λ (file : List ℕ × Vec ℕ Global). file.1.items) (if p then Some (first, a)
      else (if q then Some (second, b) else None)) []
      ≡ (if p then a.items else (if q then b.items else []))
  picked true q = refl
  picked false true = refl
  picked false false = refl

  held_at : (path : List ℕ) → bytes_at two path ≡ texts_at declarations script path
  held_at path =
      picked (same_text first path) (same_text second path)
      ∙ (λ i. if same_text (is_first i) path then declares i
      else (if same_text (is_second i) path then runs i else []))

  pub texts-held : (files : List (List ℕ × Vec ℕ Global)) → files ≡ (first, a) ∷ (second, b) ∷ []
      → bytes_at files ≡ texts_at declarations script
  texts-held files are = ap bytes_at are ∙ (λ i path. held_at path i)

-- ---- its lines

-- four pieces behind nothing, the last three of which are one
pub lines-made : (start first second third whole a b c d : List ℕ) → start ≡ [] → first ≡ start ++ a
    → second ≡ first ++ b → third ≡ second ++ c → whole ≡ third ++ d → whole ≡ a ++ (b ++ c ++ d)
lines-made start first second third whole a b c d none to_a to_b to_c to_d =
    let with_a : first ≡ a = to_a ∙ ap (λ (t : List ℕ). t ++ a) none in
    let with_b : second ≡ a ++ b = to_b ∙ ap (λ (t : List ℕ). t ++ b) with_a in
    let with_c : third ≡ a ++ b ++ c = to_c ∙ ap (λ (t : List ℕ). t ++ c) with_b in
    to_d ∙ ap (λ (t : List ℕ). t ++ d) with_c ∙ regroup
  where
    regroup : a ++ b ++ c ++ d ≡ a ++ (b ++ c ++ d)
    regroup = simp append_assoc

-- what was used, and then what a run tells
pub used-made : (lines used text told_text run : List ℕ) (s steps c cells e entries : ℕ)
    → used ≡ lines ++ used_lines s c e → text ≡ used ++ told_text → told_text ≡ run → s ≡ steps → c ≡ cells
    → e ≡ entries → text ≡ lines ++ used_lines steps cells entries ++ run
used-made lines used text told_text run s steps c cells e entries to_used to_text tells its_steps its_cells its_log =
    to_text ∙ (λ i. to_used i ++ tells i)
    ∙ (λ i. lines ++ used_lines (its_steps i) (its_cells i) (its_log i) ++ run)

-- ---- its session

pub only_is : {A : Type 0} {x y : A} → x ∷ [] ≡ y ∷ [] → x ≡ y
only_is e = cc

pub one_session : (all : List Session) → length all ≡ 1 → (k : Session) × (all ≡ k ∷ [])
one_session [] one = absurd (omega arith)
one_session (k ∷ []) one = (k, refl)
one_session (k ∷ j ∷ all) one = absurd (omega arith)

-- ---- what is told

module _ (r : Run) (x : Ready) (lines : List ℕ) where
  pub used_ran : (last : World) (session : MeantSession) (told_all : List Finished) (result : Result Answer Memory)
      → ReachesReady r x last → last.sessions ≡ session ∷ [] → map as_told told_all ≡ map told_of last.sessions
      → IfOk result (λ a. (all : List Finished) (only : MeantSession)
      → map as_told all ≡ map told_of last.sessions → last.sessions ≡ only ∷ []
      → a.text ≡ lines ++ used_lines (r.steps - only.steps) last.store.used (length last.log)
      ++ run_text r all last.log)
      → IfOk result (λ a. (all : List Finished) → map as_told all ≡ map told_of last.sessions
      → a.status.0 ≡ run_status all)
      → IfOk result (λ a. (n : ℕ) → lines ≡ large_lines n → ToldReadyUsed r n x a.text a.status.0)
  used_ran last session told_all (Err e) reaches one are said ends = tt
  used_ran last session told_all (Ok a) reaches one are said ends = λ n its_lines. record {
    last = last;
    reaches = reaches;
    session = session;
    only = one;
    finished = told_all;
    told = are;
    said = said told_all session are one
        ∙ (λ i. its_lines i ++ used_lines (r.steps - session.steps) last.store.used (length last.log)
        ++ run_text r told_all last.log);
    ends = ends told_all are;
  }

-- it is told of the large input
pub input_told : (n : ℕ) (r : Run) (of : List ℕ → List ℕ) (text : List ℕ) (status : ℕ) → r ≡ large_run
    → of ≡ large_contents n → ToldLarge r of n text status → ToldLarge large_run (large_contents n) n text status
input_told n r of text status its_run its_texts tells =
    subst (λ (s : Run). ToldLarge s (large_contents n) n text status) its_run
    (subst (λ (contents : List ℕ → List ℕ). ToldLarge r contents n text status) its_texts tells)

pub played_told : (n : ℕ) (r : Run) (of : List ℕ → List ℕ) (x : Ready) (lines : List ℕ) (result : Result Answer Memory)
    → r ≡ large_run → of ≡ large_contents n → lines ≡ large_lines n → IsReadyWith r of x
    → IfOk result (λ a. (m : ℕ) → lines ≡ large_lines m → ToldReadyUsed r m x a.text a.status.0)
    → IfOk result (λ a. ToldLarge large_run (large_contents n) n a.text a.status.0)
played_told n r of x lines (Err e) its_run its_texts its_lines ready tells = tt
played_told n r of x lines (Ok a) its_run its_texts its_lines ready tells =
    let body = view_tree x.loaded.module in
    let trees = programs_in x.loaded.world x.scripts.items in
    input_told n r of a.text a.status.0 its_run its_texts
    (told.ToldLarge.played (declarations_of x) body ready.before trees ready.ready
    (subst (λ (w : World). ToldUsed r n body w trees a.text a.status.0) ready.seen (tells n its_lines)))

-- files that never fail
pub never_failed : {A : Type 0} (result : Result A Stop) → (result ≡ Err Failed → 0 < 0)
    → IfErr result (λ stop. stop ≢ Failed)
never_failed (Ok x) fails = tt
never_failed (Err stop) fails = λ failed. absurd (let none : 0 < 0 = fails (ap Err failed) in omega arith)
