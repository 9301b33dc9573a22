use Rattle.std.proofs.lemmas.Result.{err_from_is_err_and}
use Rattle.std.proofs.Common.{◌≡◌, ◌∙◌, Err, None, ap, inr, map, refl, sym, subst}
use Rattle.std.proofs.Common.{arith, length}
use Rattle.std.proofs.lemmas.List.{length-map}
use Rattle.rp_decl.specs.Records.{Declarations}
use Rattle.rp_decl.specs.View.{declarations_view}
use Rattle.rp_interact.specs.Why.{first_unknown}
use Rattle.rp_proxy.proofs.LaterNames.{IsFaithful-later}
use Rattle.rp_proxy.proofs.LaterRecords.{declarations-later}
use Rattle.rp_proxy.specs.Faithful.{MayGrowTo}
use Rattle.rp_run.proofs.RunSteps.{admits, begins_only, begins_scripts, fails_first, fails_script, is_ready, long_run}
use Rattle.rp_run.proofs.RunSteps.{refused_run, scripts_status, unknown_run, unloaded_run, unread_run}
use Rattle.rp_run.proofs.Sayings.{refused_always, stop_of, unfailed_so}
use Rattle.rp_run.specs.Told.{all_ids}
use Rattle.rp_run.specs.declared.ready.Ready.{Ready}
use Rattle.rp_tree.specs.StatementViews.{view_tree}
use Rattle.rp_words.specs.Command.{run}
use Rattle.rp_words.specs.View.{pair_view, run_view}
use Rattle.rp_world.specs.Worlds.{world_view}
use Rattle.rp_run.proofs.ready.make_ready.Goals as goal

pub returns-in_err-decl-clause-refused : goal.returns-in_err-decl-clause-refused
returns-in_err-decl-clause-refused g c =
    let p = err_from_is_err_and c.from_residual-in_err-decl.result c.from_residual-in_err-decl.ensures.1 in
    rw (p.1, p.2) (unread_run (run_view c.args.command.now) _ _ c.in_err-decl.ensures.refused)

pub returns-in_err-decl-clause-begun : goal.returns-in_err-decl-clause-begun
returns-in_err-decl-clause-begun g c =
    begins_only
    (run (run_view c.args.command.now)) c.args.command.now.declarations _ _ _ refl c.in_err-decl.ensures.tried

pub returns-in_err-decl-clause-cause : goal.returns-in_err-decl-clause-cause
returns-in_err-decl-clause-cause g c = λ failed.
    let p = err_from_is_err_and c.from_residual-in_err-decl.result c.from_residual-in_err-decl.ensures.1 in
    fails_first (run (run_view c.args.command.now)) c.args.command.now.declarations _ _ _ _ refl
    (c.in_err-decl.ensures.cause (ap Err (ap stop_of (rw (p.1, p.2) at failed))))

pub returns-in_err-decl-clause-status : goal.returns-in_err-decl-clause-status
returns-in_err-decl-clause-status g c =
    let p = err_from_is_err_and c.from_residual-in_err-decl.result c.from_residual-in_err-decl.ensures.1 in
    rw (p.1, p.2) c.in_err-decl.ensures.status

pub returns-in_err-decl-clause-kept : goal.returns-in_err-decl-clause-kept
returns-in_err-decl-clause-kept g c =
    let p = err_from_is_err_and c.from_residual-in_err-decl.result c.from_residual-in_err-decl.ensures.1 in
    rw (p.1, p.2) c.in_err-decl.ensures.kept

pub load_world-requires-clause-read : goal.load_world-requires-clause-read
load_world-requires-clause-read g c = c.in_ok-decl.ensures.well

pub load_world-requires-clause-words : goal.load_world-requires-clause-words
load_world-requires-clause-words g c = c.in_ok-decl.ensures.words

pub returns-in_err-loaded-clause-refused : goal.returns-in_err-loaded-clause-refused
returns-in_err-loaded-clause-refused g c =
    let p = err_from_is_err_and c.from_residual-in_err-loaded.result c.from_residual-in_err-loaded.ensures.1 in
    rw (p.1, p.2)
    (unloaded_run (run_view c.args.command.now)
    (declarations_view c.read_declarations.new.names c.in_ok-decl.decl) _ _ _ refl c.in_ok-decl.ensures.told
    c.in_err-loaded.ensures.refused)

pub returns-in_err-loaded-clause-begun : goal.returns-in_err-loaded-clause-begun
returns-in_err-loaded-clause-begun g c =
    begins_only (run (run_view c.args.command.now)) c.args.command.now.declarations _ _ _ refl
    (inr c.in_ok-decl.ensures.begun)

pub returns-in_err-loaded-clause-status : goal.returns-in_err-loaded-clause-status
returns-in_err-loaded-clause-status g c =
    let p = err_from_is_err_and c.from_residual-in_err-loaded.result c.from_residual-in_err-loaded.ensures.1 in
    rw (p.1, p.2) c.in_err-loaded.ensures.status

pub returns-in_err-loaded-clause-kept : goal.returns-in_err-loaded-clause-kept
returns-in_err-loaded-clause-kept g c =
    let p = err_from_is_err_and c.from_residual-in_err-loaded.result c.from_residual-in_err-loaded.ensures.1 in
    rw (p.1, p.2) (refused_always _ _ c.in_ok-decl.ensures.sound)

pub returns-in_err-loaded-clause-failed : goal.returns-in_err-loaded-clause-failed
returns-in_err-loaded-clause-failed g c =
    let p = err_from_is_err_and c.from_residual-in_err-loaded.result c.from_residual-in_err-loaded.ensures.1 in
    λ failed. unfailed_so _ _ c.in_err-loaded.ensures.unfailed (rw (p.1, p.2) at failed)

pub returns-in_err-loaded-clause-cause : goal.returns-in_err-loaded-clause-cause
returns-in_err-loaded-clause-cause g c =
    let p = err_from_is_err_and c.from_residual-in_err-loaded.result c.from_residual-in_err-loaded.ensures.1 in
    λ failed. unfailed_so _ _ c.in_err-loaded.ensures.unfailed (rw (p.1, p.2) at failed)

pub returns-in_err-whos-clause-refused : goal.returns-in_err-whos-clause-refused
returns-in_err-whos-clause-refused g c =
    let r = run_view c.args.command.now in
    let d = declarations_view c.read_declarations.new.names c.in_ok-decl.decl in
    let w = c.in_ok-loaded.loaded.world in
    let body = view_tree c.in_ok-loaded.loaded.module in
    let p = err_from_is_err_and c.from_residual-in_err-whos.result c.from_residual-in_err-whos.ensures.1 in
    rw (p.1, p.2)
    (unknown_run r d body (world_view w) w.names w.decl _ _ _ c.in_ok-loaded.ensures.declarations refl
    c.in_ok-decl.ensures.told c.in_ok-loaded.ensures.loaded
    (rw c.as_slice-pairs.ensures.value at c.in_err-whos.ensures.refused))

pub returns-in_err-whos-clause-begun : goal.returns-in_err-whos-clause-begun
returns-in_err-whos-clause-begun g c =
    begins_only (run (run_view c.args.command.now)) c.args.command.now.declarations _ _ _ refl
    (inr c.in_ok-decl.ensures.begun)

pub returns-in_err-whos-clause-status : goal.returns-in_err-whos-clause-status
returns-in_err-whos-clause-status g c =
    let p = err_from_is_err_and c.from_residual-in_err-whos.result c.from_residual-in_err-whos.ensures.1 in
    rw (p.1, p.2) c.in_err-whos.ensures.status

pub returns-in_err-whos-clause-kept : goal.returns-in_err-whos-clause-kept
returns-in_err-whos-clause-kept g c =
    let p = err_from_is_err_and c.from_residual-in_err-whos.result c.from_residual-in_err-whos.ensures.1 in
    rw (p.1, p.2) (refused_always _ _ c.in_ok-decl.ensures.sound)

pub returns-in_err-whos-clause-failed : goal.returns-in_err-whos-clause-failed
returns-in_err-whos-clause-failed g c =
    let p = err_from_is_err_and c.from_residual-in_err-whos.result c.from_residual-in_err-whos.ensures.1 in
    λ failed. unfailed_so _ _ c.in_err-whos.ensures.unfailed (rw (p.1, p.2) at failed)

pub returns-in_err-whos-clause-cause : goal.returns-in_err-whos-clause-cause
returns-in_err-whos-clause-cause g c =
    let p = err_from_is_err_and c.from_residual-in_err-whos.result c.from_residual-in_err-whos.ensures.1 in
    λ failed. unfailed_so _ _ c.in_err-whos.ensures.unfailed (rw (p.1, p.2) at failed)

pub returns-in_err-texts-clause-refused : goal.returns-in_err-texts-clause-refused
returns-in_err-texts-clause-refused g c =
    let r = run_view c.args.command.now in
    let d = declarations_view c.read_declarations.new.names c.in_ok-decl.decl in
    let w = c.in_ok-loaded.loaded.world in
    let body = view_tree c.in_ok-loaded.loaded.module in
    let known =
    subst (λ (e : Declarations). first_unknown e (all_ids r.pairs) ≡ None) c.in_ok-loaded.ensures.declarations
    (rw c.as_slice-pairs.ensures.value at (c.in_ok-whos.ensures.known w.names)) in
    let admitted = admits r d body (world_view w) _ c.in_ok-decl.ensures.told c.in_ok-loaded.ensures.loaded known in
    let p = err_from_is_err_and c.from_residual-in_err-texts.result c.from_residual-in_err-texts.ensures.1 in
    rw (p.1, p.2)
    (long_run r d body (world_view w) _ _ admitted
    (rw (c.as_slice-pairs.ensures.value, c.in_ok-decl.ensures.contents) at c.in_err-texts.ensures.refused))

pub returns-in_err-texts-clause-status : goal.returns-in_err-texts-clause-status
returns-in_err-texts-clause-status g c =
    let p = err_from_is_err_and c.from_residual-in_err-texts.result c.from_residual-in_err-texts.ensures.1 in
    rw (p.1, p.2) c.in_err-texts.ensures.status

pub returns-in_err-texts-clause-begun : goal.returns-in_err-texts-clause-begun
returns-in_err-texts-clause-begun g c =
    begins_scripts (run_view c.args.command.now) _ _ _ _ c.in_ok-decl.ensures.begun
    (rw c.as_slice-pairs.ensures.value at c.in_err-texts.ensures.begun)

pub returns-in_err-texts-clause-cause : goal.returns-in_err-texts-clause-cause
returns-in_err-texts-clause-cause g c = λ failed.
    let r = run_view c.args.command.now in
    let d = declarations_view c.read_declarations.new.names c.in_ok-decl.decl in
    let w = c.in_ok-loaded.loaded.world in
    let body = view_tree c.in_ok-loaded.loaded.module in
    let known =
    subst (λ (e : Declarations). first_unknown e (all_ids r.pairs) ≡ None) c.in_ok-loaded.ensures.declarations
    (rw c.as_slice-pairs.ensures.value at (c.in_ok-whos.ensures.known w.names)) in
    let admitted = admits r d body (world_view w) _ c.in_ok-decl.ensures.told c.in_ok-loaded.ensures.loaded known in
    let p = err_from_is_err_and c.from_residual-in_err-texts.result c.from_residual-in_err-texts.ensures.1 in
    fails_script r d body (world_view w) _ _ _ _ _ c.in_ok-decl.ensures.begun admitted
    (rw (c.as_slice-pairs.ensures.value, c.in_ok-decl.ensures.contents) at
    (c.in_err-texts.ensures.cause (ap Err (ap stop_of (rw (p.1, p.2) at failed)))))

pub returns-in_err-texts-clause-kept : goal.returns-in_err-texts-clause-kept
returns-in_err-texts-clause-kept g c =
    let p = err_from_is_err_and c.from_residual-in_err-texts.result c.from_residual-in_err-texts.ensures.1 in
    rw (p.1, p.2) c.in_err-texts.ensures.kept

pub read_scripts-requires : goal.read_scripts-requires
read_scripts-requires g c =
    let one = c.in_ok-decl.ensures.begun.0 in
    let many = ap length c.as_slice-pairs.ensures.value in
    record { sound = c.in_ok-decl.ensures.sound; few = omega (arith, one, many, c.requires.few) }

pub returns-in_err-scripts-clause-refused : goal.returns-in_err-scripts-clause-refused
returns-in_err-scripts-clause-refused g c =
    let r = run_view c.args.command.now in
    let d = declarations_view c.read_declarations.new.names c.in_ok-decl.decl in
    let w = c.in_ok-loaded.loaded.world in
    let body = view_tree c.in_ok-loaded.loaded.module in
    let known =
    subst (λ (e : Declarations). first_unknown e (all_ids r.pairs) ≡ None) c.in_ok-loaded.ensures.declarations
    (rw c.as_slice-pairs.ensures.value at (c.in_ok-whos.ensures.known w.names)) in
    let admitted = admits r d body (world_view w) _ c.in_ok-decl.ensures.told c.in_ok-loaded.ensures.loaded known in
    let whole = rw (c.as_slice-pairs.ensures.value, c.in_ok-decl.ensures.contents) at c.in_ok-texts.ensures.told in
    let p = err_from_is_err_and c.from_residual-in_err-scripts.result c.from_residual-in_err-scripts.ensures.1 in
    rw (p.1, p.2)
    (refused_run r d body (world_view w) _ _ _ admitted whole
    (rw c.as_slice.ensures.value at c.in_err-scripts.ensures.refused))

pub returns-in_err-scripts-clause-status : goal.returns-in_err-scripts-clause-status
returns-in_err-scripts-clause-status g c =
    let p = err_from_is_err_and c.from_residual-in_err-scripts.result c.from_residual-in_err-scripts.ensures.1 in
    rw (p.1, p.2) (scripts_status _ _ c.in_err-scripts.ensures.refused)

pub returns-in_err-scripts-clause-begun : goal.returns-in_err-scripts-clause-begun
returns-in_err-scripts-clause-begun g c =
    begins_scripts (run_view c.args.command.now) _ _ _ _ c.in_ok-decl.ensures.begun
    (rw c.as_slice-pairs.ensures.value at c.in_ok-texts.ensures.begun)

pub returns-in_err-scripts-clause-kept : goal.returns-in_err-scripts-clause-kept
returns-in_err-scripts-clause-kept g c =
    let p = err_from_is_err_and c.from_residual-in_err-scripts.result c.from_residual-in_err-scripts.ensures.1 in
    rw (p.1, p.2) (refused_always _ _ c.in_ok-texts.ensures.sound)

pub returns-in_err-scripts-clause-failed : goal.returns-in_err-scripts-clause-failed
returns-in_err-scripts-clause-failed g c =
    let p = err_from_is_err_and c.from_residual-in_err-scripts.result c.from_residual-in_err-scripts.ensures.1 in
    λ failed. unfailed_so _ _ c.in_err-scripts.ensures.unfailed (rw (p.1, p.2) at failed)

pub returns-in_err-scripts-clause-cause : goal.returns-in_err-scripts-clause-cause
returns-in_err-scripts-clause-cause g c =
    let p = err_from_is_err_and c.from_residual-in_err-scripts.result c.from_residual-in_err-scripts.ensures.1 in
    λ failed. unfailed_so _ _ c.in_err-scripts.ensures.unfailed (rw (p.1, p.2) at failed)

pub returns-clause-ready : goal.returns-clause-ready
returns-clause-ready g c =
    let r = run_view c.args.command.now in
    let d = declarations_view c.read_declarations.new.names c.in_ok-decl.decl in
    let w = c.in_ok-loaded.loaded.world in
    let body = view_tree c.in_ok-loaded.loaded.module in
    let known =
    subst (λ (e : Declarations). first_unknown e (all_ids r.pairs) ≡ None) c.in_ok-loaded.ensures.declarations
    (rw c.as_slice-pairs.ensures.value at (c.in_ok-whos.ensures.known w.names)) in
    let admitted = admits r d body (world_view w) _ c.in_ok-decl.ensures.told c.in_ok-loaded.ensures.loaded known in
    let later = c.compile_scripts.new.names in
    let grown = c.in_ok-scripts.ensures.names in
    let same = declarations-later w.names later grown w.decl c.in_ok-loaded.ensures.faithful.read.held
    ∙ c.in_ok-loaded.ensures.declarations in
    let whole = rw (c.as_slice-pairs.ensures.value, c.in_ok-decl.ensures.contents) at c.in_ok-texts.ensures.told in
    let x : Ready = record {
      loaded = record {
        world = record w { names = later };
        «module» = c.in_ok-loaded.loaded.module;
        layouts = c.in_ok-loaded.loaded.layouts;
      };
      whos = c.in_ok-whos.whos;
      scripts = c.in_ok-scripts.scripts;
    } in
    is_ready r x d w later (map (λ bytes. bytes.items) c.in_ok-texts.texts.items) same refl grown
    (rw c.as_slice.ensures.value at c.in_ok-scripts.ensures.words) c.in_ok-loaded.ensures.faithful _ admitted whole
    (rw c.as_slice.ensures.value at c.in_ok-scripts.ensures.compiled)

pub returns-clause-set_up : goal.returns-clause-set_up
returns-clause-set_up g c =
    let w = c.in_ok-loaded.loaded.world in
    let later = c.compile_scripts.new.names in
    let grown = c.in_ok-scripts.ensures.names in
    let grows : MayGrowTo w.names later = record { grown = grown; distinct = c.hold_each_once.ensures } in
    let many : length c.args.command.now.pairs.items ≡ length (map pair_view c.args.command.now.pairs.items) =
    sym (length-map c.args.command.now.pairs.items pair_view) in
    record {
      faithful = IsFaithful-later w later grows c.in_ok-loaded.ensures.faithful;
      whole = (let whole = c.in_ok-loaded.ensures.whole in
          record { plain = whole.plain; numbers = whole.numbers; low = whole.low; table = whole.table });
      ids = rw c.as_slice-pairs.ensures.value at c.in_ok-whos.ensures.ids;
      grants = c.in_ok-whos.ensures.answers;
      as_many = c.in_ok-scripts.ensures.count ∙ ap length c.as_slice.ensures.value ∙ c.in_ok-texts.ensures.count
          ∙ ap length c.as_slice-pairs.ensures.value ∙ many;
      held = c.in_ok-scripts.ensures.held;
    }

pub returns-clause-begun : goal.returns-clause-begun
returns-clause-begun g c = begins_scripts (run_view c.args.command.now) _ _ _ _ c.in_ok-decl.ensures.begun
    (rw c.as_slice-pairs.ensures.value at c.in_ok-texts.ensures.begun)
