-- The sessions that are handed out are those of the meaning.
use Rattle.std.proofs.Common.{◌≡◌, ◌∙◌, ◌+◌, ◌-◌, ◌++◌, ◌∷◌, ℕ, [], List, Option, Some, None, IfOk, IfSome}
use Rattle.std.proofs.Common.{Result, Ok, Err, ap, arith, length, map, subst, sym}
use Rattle.std.specs.List.{All}
use Rattle.std.proofs.lemmas.List.Elements.{All-head}
use Rattle.rp_base.specs.declared.memory.Memory.{Memory}
use Rattle.rp_meaning.specs.Sessions.{Session as MeantSession, World}
use Rattle.rp_meaning.specs.Unmonitored.{told_of}
use Rattle.rp_run.proofs.Blocks.{AreToldSo}
use Rattle.rp_run.specs.Output.{Finished, as_told, run_status, run_text, used_lines}
use Rattle.rp_run.specs.Played as played
use Rattle.rp_run.specs.Played.{IsPlayed, Played, PlayedBy, PlayedCommand, PlayedRun, no_front, used_by, used_front}
use Rattle.rp_run.specs.Refusals.{OnAnswer, OnRefusal}
use Rattle.rp_run.specs.SetUp.{IsReadyWith, PlayedReady, ReachesReady, declarations_of, programs_in}
use Rattle.rp_run.specs.Told.{ToldRefusedRun, large_contents, large_lines, large_run}
use Rattle.rp_run.specs.declared.answer.Answer.{Answer}
use Rattle.rp_run.specs.declared.ready.Ready.{Ready}
use Rattle.rp_run.specs.declared.stop.Stop.{Stop}
use Rattle.rp_run.specs.declared.stop.Stop.TheVariants.{Refused, Failed, Memory as OutOfMemory}
use Rattle.rp_session.specs.View.{AddsUp, session_view, sessions_view}
use Rattle.rp_session.specs.declared.session.Session.{Session}
use Rattle.rp_session.specs.declared.sessions.Sessions.{Sessions}
use Rattle.rp_tree.specs.StatementViews.{view_tree}
use Rattle.rp_words.specs.Command.{Command, Run, command_of}

-- ---- sessions that were played

-- they are those of the world to which the scripts come
pub handed_out : (r : Run) (x : Ready) (front : World → List ℕ) (from : Sessions) (all : List Finished)
    (sessions : List Session) (result : Result Answer Memory) → sessions ≡ from.list.items
    → ReachesReady r x (sessions_view from) → length from.list.items ≡ length r.pairs
    → All (AddsUp r.steps) from.list.items → AreToldSo all from.list.items
    → IfOk result (λ a. a.text ≡ front (sessions_view from) ++ run_text r all (sessions_view from).log)
    → IfOk result (λ a. a.status.0 ≡ run_status all)
    → IfOk result (λ a. PlayedReady r x front a.text a.status.0 sessions)
handed_out r x front from all sessions (Err e) same reaches count used told said ends = tt
handed_out r x front from all sessions (Ok a) same reaches count used told said ends = record {
  last = sessions_view from;
  reaches = reaches;
  are = ap (map session_view) same;
  as_many = ap length same ∙ count;
  used = subst (λ (ks : List Session). All (AddsUp r.steps) ks) (sym same) used;
  finished = all;
  told = told;
  said = said;
  ends = ends;
}

-- what the only one has used
pub one_used : (steps : ℕ) (sessions : List Session) (k : Session) → sessions ≡ k ∷ [] → All (AddsUp steps) sessions
    → used_by sessions ≡ steps - k.running.meter.left
one_used steps sessions k one used =
    let its : AddsUp steps k =
    All-head (AddsUp steps) k [] (subst (λ (ks : List Session). All (AddsUp steps) ks) one used) in
    let given : k.given ≡ steps = its.given in
    ap used_by one ∙ of given
  where
    of : k.given ≡ steps → used_by (k ∷ []) ≡ steps - k.running.meter.left
    of given = omega (arith, given)

-- what is told of it stands behind what it has used
pub told_used : (r : Run) (lines : List ℕ) (last : World) (all : List Finished) (session : MeantSession) (steps : ℕ)
    (result : Result Answer Memory) → last.sessions ≡ session ∷ [] → map as_told all ≡ map told_of last.sessions
    → r.steps - session.steps ≡ steps
    → IfOk result (λ a. (all : List Finished) (only : MeantSession) → map as_told all ≡ map told_of last.sessions
    → last.sessions ≡ only ∷ []
    → a.text ≡ lines ++ used_lines (r.steps - only.steps) last.store.used (length last.log) ++ run_text r all last.log)
    → IfOk result (λ a. a.text ≡ lines ++ used_lines steps last.store.used (length last.log) ++ run_text r all last.log)
told_used r lines last all session steps (Err e) one are used said = tt
told_used r lines last all session steps (Ok a) one are used said =
    said all session are one
    ∙ ap (λ (n : ℕ). lines ++ used_lines n last.store.used (length last.log) ++ run_text r all last.log) used

-- ---- what is told of a run

pub played_run : (r : Run) (x : Ready) (of : List ℕ → List ℕ) (front : World → List ℕ) (text : List ℕ) (status : ℕ)
    (sessions : List Session) → IsReadyWith r of x → PlayedReady r x front text status sessions
    → PlayedRun r of front text status sessions
played_run r x of front text status sessions ready plays =
    let body = view_tree x.loaded.module in
    let trees = programs_in x.loaded.world x.scripts.items in
    played.PlayedRun.played (declarations_of x) body ready.before trees ready.ready
    (subst (λ (w : World). IsPlayed r body w trees front text status sessions) ready.seen plays)

pub run_played : (r : Run) (x : Ready) (contents : Option (List ℕ → List ℕ)) (text : List ℕ) (status : ℕ)
    (sessions : List Session) → IfSome contents (λ of. IsReadyWith r of x)
    → PlayedReady r x no_front text status sessions
    → IfSome contents (λ of. PlayedRun r of no_front text status sessions)
run_played r x None text status sessions ready plays = tt
run_played r x (Some of) text status sessions ready plays = played_run r x of no_front text status sessions ready plays

pub run_refused : (r : Run) (contents : Option (List ℕ → List ℕ)) (stop : Stop) (sessions : List Session)
    → sessions ≡ [] → OnRefusal (λ a. IfSome contents (λ of. ToldRefusedRun r of a.text a.status.0)) stop
    → OnRefusal (λ a. IfSome contents (λ of. PlayedRun r of no_front a.text a.status.0 sessions)) stop
run_refused r None (Refused a) sessions none says = tt
run_refused r (Some of) (Refused a) sessions none says = played.PlayedRun.refused says none
run_refused r contents Failed sessions none says = tt
run_refused r contents OutOfMemory sessions none says = tt

-- ---- of the large input

-- it is played as its run
pub as_large : (n : ℕ) (r : Run) (of : List ℕ → List ℕ) (lines text : List ℕ) (status : ℕ) (sessions : List Session)
    → r ≡ large_run → of ≡ large_contents n → lines ≡ large_lines n
    → PlayedRun r of (used_front lines sessions) text status sessions
    → PlayedRun large_run (large_contents n) (used_front (large_lines n) sessions) text status sessions
as_large n r of lines text status sessions its_run its_texts its_lines plays =
    subst (λ (s : Run). PlayedRun s (large_contents n) (used_front (large_lines n) sessions) text status sessions)
    its_run
    (subst (λ (contents : List ℕ → List ℕ). PlayedRun r contents (used_front (large_lines n) sessions) text status
    sessions) its_texts
    (subst (λ (lines : List ℕ). PlayedRun r of (used_front lines sessions) text status sessions) its_lines plays))

pub large_played : (n : ℕ) (r : Run) (of : List ℕ → List ℕ) (x : Ready) (lines : List ℕ) (sessions : List Session)
    (result : Result Answer Memory) → r ≡ large_run → of ≡ large_contents n → lines ≡ large_lines n → IsReadyWith r of x
    → IfOk result (λ a. PlayedReady r x (used_front lines sessions) a.text a.status.0 sessions)
    → IfOk result (λ a. PlayedRun large_run (large_contents n) (used_front (large_lines n) sessions) a.text a.status.0
    sessions)
large_played n r of x lines sessions (Err e) its_run its_texts its_lines ready plays = tt
large_played n r of x lines sessions (Ok a) its_run its_texts its_lines ready plays =
    as_large n r of lines a.text a.status.0 sessions its_run its_texts its_lines
    (played_run r x of (used_front lines sessions) a.text a.status.0 sessions ready plays)

-- ---- of a command that plays none

says_all : (r : Result Answer Stop) (P : Answer → Type 0) → ((a : Answer) → P a) → OnAnswer r P
says_all (Ok a) P all = all a
says_all (Err stop) P all = by stop
  where
    by : (stop : Stop) → OnRefusal P stop
    by (Refused a) = all a
    by Failed = tt
    by OutOfMemory = tt

tells_all : {X : Type 0} (o : Option X) (P : X → Type 0) → ((x : X) → P x) → IfSome o P
tells_all None P all = tt
tells_all (Some x) P all = all x

pub none_played : (words : List (List ℕ)) (command : Command) (r : Result Answer Stop)
    (contents : Option (List ℕ → List ℕ)) (sessions : List Session) → command_of words ≡ Some command
    → ((of : List ℕ → List ℕ) (text : List ℕ) (status : ℕ) → PlayedCommand command of text status sessions)
    → OnAnswer r (λ a. IfSome contents (λ of. Played words of a.text a.status.0 sessions))
none_played words command r contents sessions is none =
    says_all r (λ a. IfSome contents (λ of. Played words of a.text a.status.0 sessions))
    (λ a. tells_all contents (λ of. Played words of a.text a.status.0 sessions)
    (λ of. subst (λ (o : Option Command). PlayedBy o of a.text a.status.0 sessions) (sym is)
    (none of a.text a.status.0)))
