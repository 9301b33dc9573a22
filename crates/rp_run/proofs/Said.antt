-- What is said, whether a step answers or refuses.
use Rattle.std.proofs.Common.{◌≡◌, ◌≢◌, ◌≤◌, ℕ, List, Option, Some, None, Result, Ok, Err, IfOk, MatchOption, arith}
use Rattle.std.proofs.Common.{refl}
use Rattle.rp_words.specs.Command.{Command, usage}
use Rattle.rp_run.specs.Headline.{IsAnswer, IsStatus}
use Rattle.rp_run.specs.Refusals.{OnAnswer, OnRefusal, said, said_at}
use Rattle.rp_run.specs.Steps.{IsStatusOf}
use Rattle.rp_run.specs.declared.answer.Answer.{Answer}
use Rattle.rp_run.specs.declared.stop.Silence.TheVariants as silence
use Rattle.rp_run.specs.declared.stop.Stop.{Stop}
use Rattle.rp_run.specs.declared.stop.Stop.TheVariants.{Refused, Failed, Memory}

-- what holds of what is said
pub says_ok : (r : Result Answer Stop) (P : Answer → Type 0) → OnAnswer r P → IfOk (said r) P
says_ok (Ok a) P says = says
says_ok (Err stop) P says = by stop says
  where
    by : (stop : Stop) → OnRefusal P stop → IfOk (said_at stop) P
    by (Refused a) says = says
    by Failed says = tt
    by Memory says = tt

says_more : (P Q : Answer → Type 0) (r : Result Answer Stop) → ((a : Answer) → P a → Q a) → OnAnswer r P → OnAnswer r Q
says_more P Q (Ok a) more says = more a says
says_more P Q (Err stop) more says = by stop says
  where
    by : (stop : Stop) → OnRefusal P stop → OnRefusal Q stop
    by (Refused a) says = more a says
    by Failed says = tt
    by Memory says = tt

answers : (command : Option Command) (text : List ℕ) (status : ℕ) → IsStatusOf command text status → IsStatus status
    × IsAnswer status
answers None text status is = let two = is.1 in (omega arith, (omega arith, omega arith, omega arith))
answers (Some command) text status is = (is.0, is.1)

uses : (command : Option Command) (text : List ℕ) (status : ℕ) → IsStatusOf command text status
    → MatchOption command ((text ≡ usage) × (status ≡ 2)) (λ _. status ≢ 2)
uses None text status is = is
uses (Some command) text status is = is.2

pub status_ok : (command : Option Command) (r : Result Answer Stop)
    → OnAnswer r (λ a. IsStatusOf command a.text a.status.0)
    → IfOk (said r) (λ a. IsStatus a.status.0 × IsAnswer a.status.0)
status_ok command r says =
    says_ok r (λ a. IsStatus a.status.0 × IsAnswer a.status.0)
    (says_more (λ a. IsStatusOf command a.text a.status.0) (λ a. IsStatus a.status.0
    × IsAnswer a.status.0) r (λ a. answers command a.text a.status.0) says)

pub usage_ok : (command : Option Command) (r : Result Answer Stop)
    → OnAnswer r (λ a. IsStatusOf command a.text a.status.0)
    → IfOk (said r) (λ a. MatchOption command ((a.text ≡ usage) × (a.status.0 ≡ 2)) (λ _. a.status.0 ≢ 2))
usage_ok command r says =
    let P : Answer → Type 0 = λ a. MatchOption command ((a.text ≡ usage) × (a.status.0 ≡ 2)) (λ _. a.status.0 ≢ 2) in
    says_ok r P (says_more (λ a. IsStatusOf command a.text a.status.0) P r (λ a. uses command a.text a.status.0) says)

abbrev stopped : Stop → Result Answer Stop
stopped stop = Err stop

-- nothing is said for the same reason
pub failed_back : (r : Result Answer Stop) → said r ≡ Err silence.Failed → r ≡ Err Failed
failed_back (Ok a) is = cc
failed_back (Err stop) is = by stop is
  where
    by : (stop : Stop) → said_at stop ≡ Err silence.Failed → stopped stop ≡ stopped Failed
    by (Refused a) is = cc
    by Failed is = refl
    by Memory is = cc

pub memory_back : (r : Result Answer Stop) → said r ≡ Err silence.Memory → r ≡ Err Memory
memory_back (Ok a) is = cc
memory_back (Err stop) is = by stop is
  where
    by : (stop : Stop) → said_at stop ≡ Err silence.Memory → stopped stop ≡ stopped Memory
    by (Refused a) is = cc
    by Failed is = cc
    by Memory is = refl
