-- The laws of completeness: what is told to the same words and contents is told once.
use Rattle.std.proofs.Common.{◌≡◌, ◌⊎◌, inl, inr, refl, sym, subst, ℕ, Bool, true, false, if◌then◌else◌, List, Option}
use Rattle.std.proofs.Common.{◌++◌, ◌-◌, [], MatchOption, Some, length, map}
use Rattle.std.proofs.Math.Dec.{eqb}
use Rattle.std.proofs.lemmas.Bool.{eqb-false, eqb-true}
use Rattle.rp_meaning.specs.Frame.{Run as Frame}
use Rattle.rp_meaning.specs.Sessions.{World}
use Rattle.rp_run.specs.Headline.{TellsWhole, Writes}
use Rattle.rp_run.specs.Output.{as_told, may_status, may_text, run_status, run_text, some_ends, used_lines}
use Rattle.rp_run.specs.Told as told
use Rattle.rp_run.specs.Told.{Told, ToldCommand, ToldLarge, ToldRun, large_contents, large_lines, large_pair, large_run}
use Rattle.rp_run.specs.Told.{read_into, said_to, scripts_of}
use Rattle.rp_session.specs.Played.{Plays, played_from}
use Rattle.rp_session.specs.Runs.{run_of}
use Rattle.rp_run_laws.proofs.Determined.{told-once, told-played}
use Rattle.rp_run_laws.proofs.Beginnings.{fresh-world, numbered-all}
use Rattle.rp_run_laws.proofs.Endings.{ends-all, one-played, the-one, told-all}
use Rattle.rp_run_laws.specs.Completeness.{Answers, Comes, EachEndHasItsStatus, EachLargeComes, EachQuestionComes}
use Rattle.rp_run_laws.specs.Completeness.{EachRefusalComes, EachRunComes, EachRunEnds, EachScriptComes}
use Rattle.rp_run_laws.specs.Completeness.{EachLargeIsTold, EachReadyIsTold, EachTellingComes, IsEndStatus, IsToldOnce}
use Rattle.rp_words.specs.Command.{Command, Pair, command_of, large, run, script, may, usage}

pub is-told_once : IsToldOnce
is-told_once words contents text status other_text other x y =
    told-once words contents text status other_text other x y

-- what is told to words, or to the command that they give
abbrev Tells : Option Command → (List ℕ → List ℕ) → List ℕ → ℕ → Type 0
Tells o contents text status =
    MatchOption o ((text ≡ usage) × (status ≡ 2)) (λ command. ToldCommand command contents text status)

module _ (words : List (List ℕ)) (contents : List ℕ → List ℕ) (status : ℕ) (old new : Option (List ℕ))
    (answers : Answers words contents status old new) where
  -- memory was wanting, or the whole of what is told was written
  says : (status ≡ 8) ⊎ TellsWhole words status contents old new
  says = by (eqb status 8) refl where
    by : (b : Bool) → eqb status 8 ≡ b → (status ≡ 8) ⊎ TellsWhole words status contents old new
    by true e = inl (eqb-true status 8 e)
    by false e = inr (answers.told (answers.read, answers.written, eqb-false status 8 e))

  telling-comes : (text : List ℕ) (wanted : ℕ) → Told words contents text wanted → Comes status old new text wanted
  telling-comes text wanted tells = elim says [
    | inl none ↦ inl none
    | inr whole ↦
        let same = told-once words contents whole.0 status text wanted whole.1.0 tells in
        inr (same.1, subst (λ t. Writes t old new) same.0 whole.1.1)
  ]

  -- what is told to their command is told to the words
  command-comes : (command : Command) → command_of words ≡ Some command → (text : List ℕ) (wanted : ℕ)
      → ToldCommand command contents text wanted → Comes status old new text wanted
  command-comes command is text wanted tells =
      telling-comes text wanted (subst (λ (o : Option Command). Tells o contents text wanted) (sym is) tells)

pub each_telling-comes : EachTellingComes
each_telling-comes words contents status old new answers text wanted tells =
    telling-comes words contents status old new answers text wanted tells

pub each_refusal-comes : EachRefusalComes
each_refusal-comes words contents status old new answers r is text wanted refuses =
    command-comes words contents status old new answers (run r) is text wanted (told.ToldRun.refused refuses)

pub each_end-has_its_status : EachEndHasItsStatus
each_end-has_its_status sessions = by (some_ends 5 sessions) (some_ends 1 sessions) where
  by : (stopped raised : Bool) → IsEndStatus (if stopped then 5 else (if raised then 1 else 0))
  by true raised = inr (inr refl)
  by false true = inr (inl refl)
  by false false = inl refl

pub each_run-ends : EachRunEnds
each_run-ends words contents status old new answers r is d body w trees ready =
    elim (says words contents status old new answers) [
      | inl none ↦ inl none
      | inr whole ↦
          let tells : ToldCommand (run r) contents whole.0 status =
          subst (λ (o : Option Command). Tells o contents whole.0 status) is whole.1.0 in
          let played = told-played r contents whole.0 status d body w trees ready tells in
          inr (subst IsEndStatus (sym played.ends) (each_end-has_its_status played.sessions))
    ]

pub each_run-comes : EachRunComes
each_run-comes words contents status old new answers r is d body w trees ready sessions log plays =
    command-comes words contents status old new answers (run r) is (run_text r sessions log) (run_status sessions)
    (told.ToldRun.played d body w trees ready
    (record { sessions = sessions; log = log; plays = plays; said = refl; ends = refl }))

pub each_large-comes : EachLargeComes
each_large-comes words contents status old new answers n is d body w trees ready last reaches session only all are =
    command-comes words contents status old new answers (large n) is
    (large_lines n ++ used_lines (large_run.steps - session.steps) last.store.used (length last.log)
    ++ run_text large_run all last.log) (run_status all)
    (told.ToldLarge.played d body w trees ready (record {
      last = last;
      reaches = reaches;
      session = session;
      only = only;
      finished = all;
      told = are;
      said = refl;
      ends = refl;
    }))

pub each_script-comes : EachScriptComes
each_script-comes words contents status old new answers q path is short tree program lawful =
    command-comes words contents status old new answers (script q path) is (said_to q tree) 0
    (told.ToldScript.accepted short tree program lawful refl refl)

pub each_question-comes : EachQuestionComes
each_question-comes words contents status old new answers m is d read known declared =
    command-comes words contents status old new answers (may m) is (may_text d m.ids m.permission)
    (may_status d m.ids m.permission)
    (told.ToldMay.told d read known declared refl refl)

-- ---- there is always something to tell

pub each_ready-told : EachReadyIsTold
each_ready-told r contents d body w trees ready =
    let v : World = read_into (scripts_of r contents) w in
    let whos = map (λ (p : Pair). p.ids) r.pairs in
    let none : v.sessions ≡ [] = fresh-world d r.cells body w ready.admitted.loaded in
    let sources = numbered-all v.names trees in
    let its_run : Frame = run_of v.names v.declarations body sources.0 in
    let last : World = played_from its_run v whos r.turns r.steps in
    let ended = told-all last.sessions (ends-all its_run whos r.turns r.steps v none) in
    let plays : Plays v body trees whos r.turns r.steps (map as_told ended.0) last.log = record {
      last = last;
      reaches = record { scripts = sources.0; numbered = sources.1; comes = refl };
      sessions = sym ended.1;
      entries = refl;
    } in
    let tells : ToldRun r contents (run_text r ended.0 last.log) (run_status ended.0) =
    told.ToldRun.played d body w trees ready
    (record { sessions = ended.0; log = last.log; plays = plays; said = refl; ends = refl }) in
    (run_text r ended.0 last.log, (run_status ended.0, tells))

pub each_large-told : EachLargeIsTold
each_large-told n d body w trees ready =
    let r = large_run in
    let v : World = read_into (scripts_of r (large_contents n)) w in
    let whos = map (λ (p : Pair). p.ids) r.pairs in
    let none : v.sessions ≡ [] = fresh-world d r.cells body w ready.admitted.loaded in
    let sources = numbered-all v.names trees in
    let its_run : Frame = run_of v.names v.declarations body sources.0 in
    let last : World = played_from its_run v whos r.turns r.steps in
    let ended = told-all last.sessions (ends-all its_run whos r.turns r.steps v none) in
    let only = the-one last.sessions (one-played its_run large_pair.ids r.turns r.steps v none) in
    let text = large_lines n ++ used_lines (r.steps - only.0.steps) last.store.used (length last.log)
    ++ run_text r ended.0 last.log in
    let tells : ToldLarge r (large_contents n) n text (run_status ended.0) =
    told.ToldLarge.played d body w trees ready (record {
      last = last;
      reaches = record { scripts = sources.0; numbered = sources.1; comes = refl };
      session = only.0;
      only = only.1;
      finished = ended.0;
      told = ended.1;
      said = refl;
      ends = refl;
    }) in
    (text, (run_status ended.0, tells))
