-- What the steps of a command say of the contents of its files.
use Rattle.std.proofs.Common.{◌≡◌, ◌≢◌, ◌+◌, ◌++◌, ◌∙◌, ◌⊎◌, inl, inr, ℕ, false, List, [], map, codes, Option, Some}
use Rattle.std.proofs.Common.{None, Result, Ok, Err, IfErr, IfOk, OnOk, IfSome, Vec, Global, ap, subst, sym, refl}
use Rattle.std.proofs.Common.{arith}
use Rattle.rp_decl.specs.Declares.{Declares, version, shape, permission, class, group, role}
use Rattle.rp_decl.specs.Faults.{HasFault, fault_line}
use Rattle.rp_decl.specs.Records.{Declarations}
use Rattle.rp_decl.specs.View.{Placed, declarations_view, name_text, text_at}
use Rattle.rp_decl.specs.Word.{is_among}
use Rattle.rp_decl.specs.declared.fault.DeclFault.{DeclFault}
use Rattle.rp_decl.specs.declared.fault.DeclFault.TheVariants.{NotToml, Version, Shape, Permission, Class, Group, Role}
use Rattle.rp_decl.specs.declared.fault.DeclFault.TheVariants.{Memory}
use Rattle.rp_interact.specs.Answers.{IsRefusedFor}
use Rattle.rp_interact.specs.Why.{first_unknown}
use Rattle.rp_interact.specs.declared.who_fault.WhoFault.{WhoFault}
use Rattle.rp_interact.specs.declared.who_fault.WhoFault.TheVariants.{Unknown}
use Rattle.rp_run.specs.Contents.{Holds}
use Rattle.rp_run.specs.declared.answer.Answer.{Answer}
use Rattle.rp_run.specs.Refusals.{BeginsNext, IsLong, IsWhole, OnRefusal, RefusesLong, RefusesUndeclared}
use Rattle.rp_run.specs.Refusals.{RefusesUnknown, RefusesUnread, TellsRead}
use Rattle.rp_run.specs.Steps.{BeginsOnly, IsCommandStatus}
use Rattle.rp_run.specs.declared.reading.Contents.{Contents}
use Rattle.rp_run.specs.declared.reading.Contents.TheVariants.{Whole, TooLong}
use Rattle.rp_run.specs.declared.stop.Stop.{Stop}
use Rattle.rp_run.specs.declared.stop.Stop.TheVariants.{Refused, Failed, Memory as StopMemory}
use Rattle.rp_run.specs.Output.{may_status, may_text}
use Rattle.rp_run.proofs.Reasons.{HasPlace}
use Rattle.rp_run.specs.Told as told
use Rattle.rp_run.specs.Told.{IsShort, IsTooLong, IsRead, ToldUnread, ToldMay, too_long_line, undeclared_line}
use Rattle.rp_run.specs.Told.{unknown_line}
use Rattle.rp_words.specs.Command.{May}

pub whole_read : (contents : Option (List ℕ → List ℕ)) (held : Contents) (bytes : Vec ℕ Global) (read path : List ℕ)
    → held ≡ Whole bytes → read ≡ path → IfSome contents (λ of. Holds held (of read))
    → IsWhole contents bytes.items path
whole_read contents held bytes read path is_whole is_path holds =
    subst (λ p. IfSome contents (λ of. Holds (Whole bytes) (of p))) is_path
    (subst (λ h. IfSome contents (λ of. Holds h (of read))) is_whole holds)

pub long_read : (contents : Option (List ℕ → List ℕ)) (held : Contents) (read path : List ℕ)
    → held ≡ TooLong → read ≡ path → IfSome contents (λ of. Holds held (of read)) → IsLong contents path
long_read contents held read path is_long is_path holds =
    subst (λ p. IfSome contents (λ of. Holds TooLong (of p))) is_path
    (subst (λ h. IfSome contents (λ of. Holds h (of read))) is_long holds)

-- ---- declarations

-- what is said of the file at the path of the declarations
abbrev pub TellsUnread : List ℕ → Option (List ℕ → List ℕ) → List ℕ → ℕ → Type 0
TellsUnread path contents text status = IfSome contents (λ of. ToldUnread path (of path) text status)

pub tells_long : (path : List ℕ) (contents : Option (List ℕ → List ℕ)) (text : List ℕ) (status : ℕ)
    → IsLong contents path → text ≡ too_long_line path → status ≡ 9 → TellsUnread path contents text status
tells_long path None text status long said ended = tt
tells_long path (Some of) text status long said ended = told.ToldUnread.long long said ended

pub tells_read : (path bytes : List ℕ) (contents : Option (List ℕ → List ℕ)) (d : Declarations)
    → IsWhole contents bytes path → Declares bytes d → TellsRead path contents d
tells_read path bytes None d whole declares = tt
tells_read path bytes (Some of) d whole declares =
    record { short = whole.1; declares = subst (λ file. Declares file d) whole.0 declares }

unread_by : (path bytes : List ℕ) (names : List (List ℕ)) (fault : DeclFault) (text : List ℕ) (status : ℕ)
    → IsShort bytes → HasFault bytes names fault → fault ≢ Memory → text ≡ fault_line names fault → status ≡ 3
    → ToldUnread path bytes text status
unread_by path bytes names NotToml text status short has other said ended =
    told.ToldUnread.not_toml short has said ended
unread_by path bytes names Version text status short has other said ended =
    told.ToldUnread.refused short version has said ended
unread_by path bytes names (Shape at) text status short has other said ended =
    told.ToldUnread.refused short (shape at) has said ended
unread_by path bytes names (Permission id) text status short has other said ended =
    told.ToldUnread.refused short (permission id) has said ended
unread_by path bytes names (Class name) text status short has other said ended =
    told.ToldUnread.refused short (class (name_text names name)) has said ended
unread_by path bytes names (Group id) text status short has other said ended =
    told.ToldUnread.refused short (group id) has said ended
unread_by path bytes names (Role id) text status short has other said ended =
    told.ToldUnread.refused short (role id) has said ended
unread_by path bytes names Memory text status short has other said ended = absurd (other refl)

pub tells_fault : (path bytes : List ℕ) (contents : Option (List ℕ → List ℕ)) (names : List (List ℕ))
    (fault : DeclFault) (text : List ℕ) (status : ℕ)
    → IsWhole contents bytes path → HasFault bytes names fault → fault ≢ Memory → text ≡ fault_line names fault
    → status ≡ 3 → TellsUnread path contents text status
tells_fault path bytes None names fault text status whole has other said ended = tt
tells_fault path bytes (Some of) names fault text status whole has other said ended =
    unread_by path (of path) names fault text status whole.1
    (subst (λ file. HasFault file names fault) whole.0 has) other said ended

-- ---- refusals

-- what is said of a refusal says more of it
pub refused_as : (P Q : Answer → Type 0) (stop : Stop) → ((a : Answer) → P a → Q a) → OnRefusal P stop
    → OnRefusal Q stop
refused_as P Q (Refused a) more says = more a says
refused_as P Q Failed more says = tt
refused_as P Q StopMemory more says = tt

-- what holds whatever is said
pub refused_always : (P : Type 0) (stop : Stop) → P → OnRefusal (λ a. P) stop
refused_always P (Refused a) holds = holds
refused_always P Failed holds = tt
refused_always P StopMemory holds = tt

-- a step that refuses nothing
pub refused_never : (P : Answer → Type 0) (stop : Stop) → OnRefusal (λ a. ⊥) stop → OnRefusal P stop
refused_never P (Refused a) never = absurd never
refused_never P Failed never = tt
refused_never P StopMemory never = tt

abbrev pub stop_of : {A : Type 0} → Result A Stop → Stop
stop_of (Ok a) = Failed
stop_of (Err stop) = stop

-- a step that reads nothing fails at no read
pub unfailed_so : {A : Type 0} (P : Type 0) (stop : Stop) → stop ≢ Failed
    → ◌≡◌ {A = Result A Stop} (Err stop) (Err Failed) → P
unfailed_so P stop apart failed = absurd (apart (ap stop_of failed))

-- a clause on a result that is already known
pub always : {A : Type 0} (P : Type 0) (r : Result A Stop) → P → OnOk r P
always P (Ok x) holds = holds
always P (Err stop) holds = tt

pub nine : (status : ℕ) → status ≡ 9 → IsCommandStatus status
nine status e = (omega arith, (omega arith, omega arith, omega arith), omega arith)

pub four : (status : ℕ) → status ≡ 4 → IsCommandStatus status
four status e = (omega arith, (omega arith, omega arith, omega arith), omega arith)

pub three : (status : ℕ) → status ≡ 3 → IsCommandStatus status
three status e = (omega arith, (omega arith, omega arith, omega arith), omega arith)

pub long_status : (contents : Option (List ℕ → List ℕ)) (path : List ℕ) (stop : Stop)
    → OnRefusal (RefusesLong contents path) stop → OnRefusal (λ a. IsCommandStatus a.status.0) stop
long_status contents path stop says =
    refused_as (RefusesLong contents path) (λ a. IsCommandStatus a.status.0) stop (λ a long.
    nine a.status.0 long.2) says

pub unread_long : (path : List ℕ) (contents : Option (List ℕ → List ℕ)) (stop : Stop)
    → OnRefusal (RefusesLong contents path) stop → OnRefusal (RefusesUnread path contents) stop
unread_long path contents stop says =
    refused_as (RefusesLong contents path) (RefusesUnread path contents) stop (λ a long.
    tells_long path contents a.text a.status.0 long.0 long.1 long.2) says

-- no file was begun yet
pub only_next : (path last_path old_path : List ℕ) (before begun : ℕ) → before ≡ 0
    → ((begun ≡ before) × (last_path ≡ old_path)) ⊎ BeginsNext path before begun last_path
    → (begun ≡ 0) ⊎ BeginsOnly path begun last_path
only_next path last_path old_path before begun none tried =
    elim tried [
      | inl same ↦ inl (same.0 ∙ none)
      | inr next ↦ inr (
        let one : begun ≡ 1 = next.0
            ∙ ap (λ (n : ℕ). n + 1) none in one,
        next.1,
      )
    ]

-- ---- permissions

-- what is said to `may`
abbrev pub TellsMay : May → Option (List ℕ → List ℕ) → List ℕ → ℕ → Type 0
TellsMay m contents text status = IfSome contents (λ of. ToldMay m of text status)

pub unread_may : (m : May) (contents : Option (List ℕ → List ℕ)) (stop : Stop)
    → OnRefusal (RefusesUnread m.declarations contents) stop
    → OnRefusal (λ a. TellsMay m contents a.text a.status.0) stop
unread_may m contents stop says =
    refused_as (RefusesUnread m.declarations contents) (λ a. TellsMay m contents a.text a.status.0) stop (λ a.
    unread_by_may contents a.text a.status.0) says
  where
    unread_by_may : (contents : Option (List ℕ → List ℕ)) (text : List ℕ) (status : ℕ)
        → TellsUnread m.declarations contents text status → TellsMay m contents text status
    unread_by_may None text status unread = tt
    unread_by_may (Some of) text status unread = told.ToldMay.unread unread

-- what is unknown of the principals, whatever the names
abbrev pub AreKnown : Placed → List (List ℕ) → Option (List ℕ) → Type 0
AreKnown d ids unknown = (names : List (List ℕ)) → first_unknown (declarations_view names d) ids ≡ unknown

pub unknown_to : (d : Placed) (ids : List (List ℕ)) (fault : WhoFault) (id : List ℕ) → fault ≡ Unknown id
    → IsRefusedFor d ids fault → AreKnown d ids (Some id)
unknown_to d ids fault id is refused = subst (IsRefusedFor d ids) is refused

module _ (m : May) (names : List (List ℕ)) (d : Placed) (ids : List (List ℕ)) (same : ids ≡ m.ids) where
  abbrev ds : Declarations
  ds = declarations_view names d

  of_unknown : (contents : Option (List ℕ → List ℕ)) (a : Answer) → TellsRead m.declarations contents ds
      → RefusesUnknown d ids a → TellsMay m contents a.text a.status.0
  of_unknown None a read unknown = tt
  of_unknown (Some of) a read unknown =
      told.ToldMay.unknown_principal ds read unknown.0 (ap (first_unknown ds) (sym same)
      ∙ unknown.1.0 names) unknown.1.1 unknown.1.2

  pub unknown_may : (contents : Option (List ℕ → List ℕ)) (stop : Stop) → TellsRead m.declarations contents ds
      → OnRefusal (RefusesUnknown d ids) stop → OnRefusal (λ a. TellsMay m contents a.text a.status.0) stop
  unknown_may contents stop read says =
      refused_as (RefusesUnknown d ids) (λ a. TellsMay m contents a.text a.status.0) stop (λ a.
      of_unknown contents a read) says

  of_undeclared : (contents : Option (List ℕ → List ℕ)) (a : Answer) → TellsRead m.declarations contents ds
      → AreKnown d ids None → RefusesUndeclared d.permissions m.permission a → TellsMay m contents a.text a.status.0
  of_undeclared None a read known undeclared = tt
  of_undeclared (Some of) a read known undeclared = told.undeclared ds read (ap (first_unknown ds) (sym same)
      ∙ known names) undeclared.0 undeclared.1 undeclared.2

  pub undeclared_may : (contents : Option (List ℕ → List ℕ)) (stop : Stop) (permissions : List (List ℕ))
      → permissions ≡ d.permissions → TellsRead m.declarations contents ds → AreKnown d ids None
      → OnRefusal (RefusesUndeclared permissions m.permission) stop
      → OnRefusal (λ a. TellsMay m contents a.text a.status.0) stop
  undeclared_may contents stop permissions is read known says =
      refused_as (RefusesUndeclared permissions m.permission) (λ a. TellsMay m contents a.text a.status.0) stop
      (λ a refuses.
      of_undeclared contents a read known
      (subst (λ (ps : List (List ℕ)). RefusesUndeclared ps m.permission a) is refuses)) says

  pub told_may : (contents : Option (List ℕ → List ℕ)) (a : Answer) (who : List (List ℕ)) (k : ℕ)
      → TellsRead m.declarations contents ds → AreKnown d ids None → who ≡ ids → HasPlace d.permissions m.permission k
      → a.text ≡ may_text ds who (text_at d.permissions k) → a.status.0 ≡ may_status ds who (text_at d.permissions k)
      → TellsMay m contents a.text a.status.0
  told_may None a who k read known shown place said ended = tt
  told_may (Some of) a who k read known shown place said ended =
      let all = shown ∙ same in
      told.told ds read (ap (first_unknown ds) (sym same) ∙ known names) place.among
      (said ∙ (λ i. may_text ds (all i) (place.there i))) (ended ∙ (λ i. may_status ds (all i) (place.there i)))

pub undeclared_status : (permissions : List (List ℕ)) (id : List ℕ) (stop : Stop)
    → OnRefusal (RefusesUndeclared permissions id) stop → OnRefusal (λ a. IsCommandStatus a.status.0) stop
undeclared_status permissions id stop says =
    refused_as (RefusesUndeclared permissions id) (λ a. IsCommandStatus a.status.0) stop (λ a refused.
    three a.status.0 refused.2) says
