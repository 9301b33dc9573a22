-- What the steps of a run say of the contents of its files.
use Rattle.std.proofs.Common.{◌≡◌, ◌⊎◌, inl, inr, ◌+◌, ℕ, suc, List, [], ◌∷◌, slice_get, take, Option}
use Rattle.std.proofs.Common.{Some, None, Ok, IfSome, ap, subst, sym, refl, ◌∙◌, arith}
use Rattle.rp_decl.specs.Records.{Declarations}
use Rattle.rp_decl.specs.View.{Placed, declarations_view}
use Rattle.rp_interact.specs.Why.{first_unknown}
use Rattle.rp_meaning.specs.Sessions.{World}
use Rattle.rp_session.proofs.LaterWorlds.{world-later}
use Rattle.rp_proxy.proofs.LaterNames.{with_names}
use Rattle.rp_proxy.specs.Faithful.{IsFaithful}
use Rattle.rp_proxy.specs.declared.world.World.{World as PlacedWorld}
use Rattle.rp_decl.specs.Places.{GrowsTo}
use Rattle.rp_tree.specs.Statements as stmt_tree
use Rattle.rp_tree.specs.StatementTrees.{Stmts}
use Rattle.rp_tree.specs.StatementViews.{view_tree}
use Rattle.rp_world.specs.Worlds.{world_view}
use Rattle.rp_run.specs.Headline.{BeginsNamed, ComesToFile, FailsAtNamed, files_of}
use Rattle.rp_run.specs.Refusals.{AreWhole, OnRefusal, RefusesScripts, RefusesTooLong, RefusesUnknown, RefusesUnread}
use Rattle.rp_run.specs.Refusals.{RefusesWorld, TellsRead}
use Rattle.rp_run.specs.SetUp.{IsReadyWith, ToldReady, declarations_of, programs_in}
use Rattle.rp_run.specs.Steps.{BeginsOnly, BeginsSome, FailsAtScript, IsCommandStatus}
use Rattle.rp_run.specs.Told as told
use Rattle.rp_run.specs.Told.{Compiles, IsAdmitted, IsLoaded, ToldPlayed, ToldRefusedRun, ToldRun, all_ids}
use Rattle.rp_run.specs.Told.{names_behind, read_into}
use Rattle.rp_run.specs.declared.answer.Answer.{Answer}
use Rattle.rp_run.specs.declared.ready.Ready.{Ready}
use Rattle.rp_run.specs.declared.stop.Stop.{Stop}
use Rattle.rp_run.proofs.Sayings.{four, refused_as}
use Rattle.rp_words.specs.Command.{Command, Run, run}

-- what is said to a run
abbrev pub TellsRun : Run → Option (List ℕ → List ℕ) → List ℕ → ℕ → Type 0
TellsRun r contents text status = IfSome contents (λ of. ToldRun r of text status)

-- what is said where a step refuses it
abbrev pub RefusesSo : Run → Option (List ℕ → List ℕ) → Answer → Type 0
RefusesSo r contents a = IfSome contents (λ of. ToldRefusedRun r of a.text a.status.0)

-- ---- the files that are begun

-- the file that a command names first
pub begins_first : (c : Command) (path last_path : List ℕ) (rest : List (List ℕ)) (begun : ℕ) → files_of c ≡ path ∷ rest
    → BeginsOnly path begun last_path → BeginsNamed (Some c) begun last_path
begins_first c path last_path rest begun named only =
    inr (0, (only.0, ap (λ (paths : List (List ℕ)). slice_get paths 0) named ∙ ap Some (sym only.1)))

pub begins_only : (c : Command) (path last_path : List ℕ) (rest : List (List ℕ)) (begun : ℕ) → files_of c ≡ path ∷ rest
    → (begun ≡ 0) ⊎ BeginsOnly path begun last_path
    → BeginsNamed (Some c) begun last_path
begins_only c path last_path rest begun named tried =
    elim tried [ inl none ↦ inl none | inr only ↦ begins_first c path last_path rest begun named only ]

comes_first : (c : Command) (contents : Option (List ℕ → List ℕ)) → IfSome contents (ComesToFile c 0)
comes_first c None = tt
comes_first c (Some of) = tt

pub fails_first : (c : Command) (path last_path : List ℕ) (rest : List (List ℕ)) (begun : ℕ) (contents : Option (List ℕ
    → List ℕ)) → files_of c ≡ path ∷ rest → BeginsOnly path begun last_path
    → FailsAtNamed (Some c) contents begun last_path
fails_first c path last_path rest begun contents named only = (
  0,
  (
    (
      only.0,
      ap (λ (paths : List (List ℕ)). slice_get paths 0) named
          ∙ ap Some (sym only.1),
    ),
    comes_first c contents,
  ),
)

-- the scripts of a run are begun behind its declarations

next_to : (k before begun : ℕ) → before ≡ 1 → begun ≡ before + suc k → begun ≡ suc (suc k)
next_to k before begun one more = omega (arith, one, more)

pub begins_scripts : (r : Run) (old_path last_path : List ℕ) (before begun : ℕ)
    → BeginsOnly r.declarations before old_path → BeginsSome r.pairs before old_path begun last_path
    → BeginsNamed (Some (run r)) begun last_path
begins_scripts r old_path last_path before begun only some =
    elim some [
      | inl same ↦ begins_first (run r) r.declarations last_path _ begun refl (same.0 ∙ only.0, same.1 ∙ only.1)
      | inr one ↦ inr (suc one.0, (next_to one.0 before begun only.0 one.1.0, one.1.1))
    ]

-- the declarations are loaded, and have the principals
abbrev pub Admits : Run → Option (List ℕ → List ℕ) → Declarations → stmt_tree.Stmts → World → Type 0
Admits r contents d body w = IfSome contents (λ of. IsAdmitted r of d body w)

pub admits : (r : Run) (d : Declarations) (body : stmt_tree.Stmts) (w : World) (contents : Option (List ℕ → List ℕ))
    → TellsRead r.declarations contents d → IsLoaded d r.cells body (Ok w) → first_unknown d (all_ids r.pairs) ≡ None
    → Admits r contents d body w
admits r d body w None read loaded known = tt
admits r d body w (Some of) read loaded known = record { read = read; loaded = loaded; known = known }

pub fails_script : (r : Run) (d : Declarations) (body : stmt_tree.Stmts) (w : World)
    (contents : Option (List ℕ → List ℕ)) (old_path last_path : List ℕ) (before begun : ℕ)
    → BeginsOnly r.declarations before old_path → Admits r contents d body w
    → FailsAtScript r.pairs contents before begun last_path → FailsAtNamed (Some (run r)) contents begun last_path
fails_script r d body w contents old_path last_path before begun only admitted fails =
    (suc fails.0, ((next_to fails.0 before begun only.0 fails.1.0.0, fails.1.0.1), comes contents admitted fails.1.1))
  where
    comes : (contents : Option (List ℕ → List ℕ)) → Admits r contents d body w
        → IfSome contents (λ of. told.first_too_long of (take fails.0 r.pairs) ≡ None)
        → IfSome contents (ComesToFile (run r) (suc fails.0))
    comes None admitted short = tt
    comes (Some of) admitted short = (d, (body, (w, (admitted, short))))

-- ---- refusals

pub unread_run : (r : Run) (contents : Option (List ℕ → List ℕ)) (stop : Stop)
    → OnRefusal (RefusesUnread r.declarations contents) stop → OnRefusal (RefusesSo r contents) stop
unread_run r contents stop says = refused_as (RefusesUnread r.declarations contents) (RefusesSo r contents) stop (λ a.
    by contents a) says
  where
    by : (contents : Option (List ℕ → List ℕ)) (a : Answer) → RefusesUnread r.declarations contents a
        → RefusesSo r contents a
    by None a unread = tt
    by (Some of) a unread = told.ToldRefusedRun.unread unread

-- there is no world
pub unloaded_run : (r : Run) (d : Declarations) (cells : ℕ) (contents : Option (List ℕ → List ℕ)) (stop : Stop)
    → r.cells ≡ cells → TellsRead r.declarations contents d
    → OnRefusal (RefusesWorld d cells) stop → OnRefusal (RefusesSo r contents) stop
unloaded_run r d cells None stop its_cells read says =
    refused_as (RefusesWorld d cells) (RefusesSo r None) stop (λ a refuses. tt) says
unloaded_run r d cells (Some of) stop its_cells read says =
    refused_as (RefusesWorld d cells) (RefusesSo r (Some of)) stop (λ a refuses. refuses r of its_cells read) says

-- one of the ids is that of no principal
pub unknown_run : (r : Run) (d : Declarations) (body : stmt_tree.Stmts) (w : World) (names : List (List ℕ)) (p : Placed)
    (ids : List (List ℕ)) (contents : Option (List ℕ → List ℕ)) (stop : Stop) → declarations_view names p ≡ d
    → ids ≡ all_ids r.pairs → TellsRead r.declarations contents d → IsLoaded d r.cells body (Ok w)
    → OnRefusal (RefusesUnknown p ids) stop → OnRefusal (RefusesSo r contents) stop
unknown_run r d body w names p ids contents stop same are read loaded says =
    refused_as (RefusesUnknown p ids) (RefusesSo r contents) stop (λ a. by contents a read) says
  where
    by : (contents : Option (List ℕ → List ℕ)) (a : Answer) → TellsRead r.declarations contents d
        → RefusesUnknown p ids a → RefusesSo r contents a
    by None a read unknown = tt
    by (Some of) a read unknown =
        told.ToldRefusedRun.unknown_principal d read body w loaded unknown.0
        ((λ k. first_unknown (sym same k) (sym are k)) ∙ unknown.1.0 names) unknown.1.1 unknown.1.2

module _ (r : Run) (d : Declarations) (body : stmt_tree.Stmts) (w : World) where
  -- a script is too long
  pub long_run : (contents : Option (List ℕ → List ℕ)) (stop : Stop) → Admits r contents d body w
      → OnRefusal (RefusesTooLong contents r.pairs) stop → OnRefusal (RefusesSo r contents) stop
  long_run contents stop admitted says =
      refused_as (RefusesTooLong contents r.pairs) (RefusesSo r contents) stop (λ a. by contents a admitted) says
    where
      by : (contents : Option (List ℕ → List ℕ)) (a : Answer) → Admits r contents d body w
          → RefusesTooLong contents r.pairs a → RefusesSo r contents a
      by None a admitted refuses = tt
      by (Some of) a admitted refuses =
          told.ToldRefusedRun.long_script d body w admitted refuses.0 refuses.1.0 refuses.1.1 refuses.1.2

  -- scripts are refused
  pub refused_run : (contents : Option (List ℕ → List ℕ)) (scripts : List (List ℕ)) (stop : Stop)
      → Admits r contents d body w → AreWhole contents r.pairs scripts
      → OnRefusal (RefusesScripts scripts) stop → OnRefusal (RefusesSo r contents) stop
  refused_run contents scripts stop admitted whole says =
      refused_as (RefusesScripts scripts) (RefusesSo r contents) stop (λ a. by contents a admitted whole) says
    where
      by : (contents : Option (List ℕ → List ℕ)) (a : Answer) → Admits r contents d body w
          → AreWhole contents r.pairs scripts → RefusesScripts scripts a → RefusesSo r contents a
      by None a admitted whole refuses = tt
      by (Some of) a admitted whole refuses =
          told.ToldRefusedRun.scripts_refused d body w admitted whole.1 refuses.0
          (subst (λ (given : List (List ℕ)). Compiles 1 given refuses.0 a.text) whole.0 refuses.1.0) refuses.1.1
          refuses.1.2

pub scripts_status : (scripts : List (List ℕ)) (stop : Stop) → OnRefusal (RefusesScripts scripts) stop
    → OnRefusal (λ a. IsCommandStatus a.status.0) stop
scripts_status scripts stop says =
    refused_as (RefusesScripts scripts) (λ a. IsCommandStatus a.status.0) stop (λ a refuses.
    four a.status.0 refuses.1.2) says

-- what is said so is told of the run
pub refused_told : (r : Run) (contents : Option (List ℕ → List ℕ)) (stop : Stop) → OnRefusal (RefusesSo r contents) stop
    → OnRefusal (λ a. TellsRun r contents a.text a.status.0) stop
refused_told r contents stop says =
    refused_as (RefusesSo r contents) (λ a. TellsRun r contents a.text a.status.0) stop (λ a. by contents a) says
  where
    by : (contents : Option (List ℕ → List ℕ)) (a : Answer) → RefusesSo r contents a
        → TellsRun r contents a.text a.status.0
    by None a refused = tt
    by (Some of) a refused = told.ToldRun.refused refused

-- ---- what is ready

-- the world is seen through names that have grown by the words of the scripts since
module _ (r : Run) (x : Ready) (d : Declarations) (before : PlacedWorld) (later : List (List ℕ))
    (scripts : List (List ℕ)) (same : declarations_of x ≡ d) (is : x.loaded.world ≡ with_names before later)
    (grown : GrowsTo before.names later) (are : later ≡ names_behind before.names scripts)
    (faithful : IsFaithful before) where
  abbrev body : stmt_tree.Stmts
  body = view_tree x.loaded.module

  abbrev trees : List (Stmts (List ℕ))
  trees = programs_in x.loaded.world x.scripts.items

  its_view : world_view x.loaded.world ≡ read_into scripts (world_view before)
  its_view =
      ap world_view is ∙ world-later before later grown faithful
      ∙ (λ k. record (world_view before) { names = are k })

  pub is_ready : (contents : Option (List ℕ → List ℕ)) → Admits r contents d body (world_view before)
      → AreWhole contents r.pairs scripts → Compiles 1 scripts trees []
      → IfSome contents (λ of. IsReadyWith r of x)
  is_ready None admitted whole compiled = tt
  is_ready (Some of) admitted whole compiled = record {
    before = world_view before;
    ready = record {
      admitted = subst (λ (e : Declarations). IsAdmitted r of e body (world_view before)) (sym same) admitted;
      short = whole.1;
      compiled = subst (λ (given : List (List ℕ)). Compiles 1 given trees []) whole.0 compiled;
    };
    seen = its_view ∙ (λ k. read_into (whole.0 k) (world_view before));
  }

-- ---- what is played

pub played_so : (r : Run) (x : Ready) (contents : Option (List ℕ → List ℕ)) (text : List ℕ) (status : ℕ)
    → IfSome contents (λ of. IsReadyWith r of x) → ToldReady r x text status → TellsRun r contents text status
played_so r x None text status ready tells = tt
played_so r x (Some of) text status ready tells =
    let body = view_tree x.loaded.module in
    let trees = programs_in x.loaded.world x.scripts.items in
    told.ToldRun.played (declarations_of x) body ready.before trees ready.ready
    (subst (λ (w : World). ToldPlayed r body w trees text status) ready.seen tells)
