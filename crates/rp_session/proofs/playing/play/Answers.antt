use Rattle.std.proofs.Common.{◌≤◌, ◌∙◌, List, [], length, map, refl, ap, sym, subst, arith}
use Rattle.std.specs.List.{AllZip}
use Rattle.rp_compile.specs.Compiled.{source_tree}
use Rattle.rp_decl.specs.View.{declarations_view}
use Rattle.rp_grammar.specs.Program.{highest}
use Rattle.rp_interact.specs.Interacting.{Interacting}
use Rattle.rp_proxy.specs.declared.world.World.{World}
use Rattle.rp_scope.specs.Numbers.{HasNumbers}
use Rattle.rp_session.specs.Programs.{source_of}
use Rattle.rp_session.specs.Runs.{IsProgramOf, run_of}
use Rattle.rp_session.specs.View.{session_view, sessions_view, shared}
use Rattle.rp_tree.specs.Heights.{stmts_height}
use Rattle.rp_tree.specs.Statements.{Stmts}
use Rattle.rp_tree.specs.StatementViews.{view_tree}
use Rattle.rp_tree.specs.declared.stmt.Tree.{Tree}
use Rattle.rp_session.proofs.Answering.{all-answer}
use Rattle.rp_session.proofs.Given.{add-up, none-given}
use Rattle.rp_session.proofs.Resolved.{module_blocks, module_is, sources_are}
use Rattle.rp_session.proofs.Beginnings.{all-end, reaches}
use Rattle.rp_session.proofs.playing.play.Goals as goal

pub units_of-requires : goal.units_of-requires
units_of-requires c =
    let parts = c.in_ok-parts.parts in
    let made = c.in_ok-parts.ensures in
    let whole = c.requires.whole in
    record {
      resolved = record {
        numbers = subst (λ (t : Tree). HasNumbers (view_tree t)) (sym made.tree) whole.numbers;
        low = subst (λ (t : Tree). stmts_height (view_tree t) ≤ highest) (sym made.tree) whole.low;
        blocks = module_blocks c.args.loaded parts.trees.module parts.tables.module whole made.tree made.table;
        scripts = made.resolved;
      };
    }

pub begin_all-requires-clause-few : goal.begin_all-requires-clause-few
begin_all-requires-clause-few c =
    let many = c.requires.as_many in
    let few = c.requires.few in
    omega arith

pub begin_all-requires-clause-none : goal.begin_all-requires-clause-none
begin_all-requires-clause-none c = ap length c.new-sessions.ensures.empty

pub begin_all-requires-clause-grants : goal.begin_all-requires-clause-grants
begin_all-requires-clause-grants c =
    let w = c.args.loaded.world in
    all-answer w.names w.decl c.new-sessions.result.world c.args.whos.items
    (ap (λ (v : World). v.names) c.new-sessions.ensures.world) (ap (λ (v : World). v.decl) c.new-sessions.ensures.world)
    c.requires.faithful.read.held c.requires.faithful.ordered c.requires.grants

pub returns-in-Ok-clause-reaches : goal.returns-in-Ok-clause-reaches
returns-in-Ok-clause-reaches c =
    let loaded = c.args.loaded in
    let w = loaded.world in
    let parts = c.in_ok-parts.parts in
    let made = c.in_ok-parts.ensures in
    let units = c.in_ok-units.units in
    let of = module_is loaded units (c.in_ok-units.ensures.tree ∙ made.tree) (c.in_ok-units.ensures.table ∙ made.table) c.requires.whole in
    let scripts : AllZip IsProgramOf (map source_tree c.args.scripts.items) units.scripts.items =
    subst (λ (sources : List Stmts). AllZip IsProgramOf sources units.scripts.items)
    (ap (map source_of) made.scripts ∙ sources_are c.args.scripts.items) c.in_ok-units.ensures.scripts in
    reaches w (view_tree loaded.module) c.args.scripts.items c.args.whos.items c.args.listed.now c.args.steps units
    (sessions_view c.new-sessions.result) (sessions_view c.begin_all.new.sessions) (sessions_view c.run_all.new.self)
    c.requires.faithful c.requires.whole.plain c.requires.held of scripts
    (λ i. shared (c.new-sessions.ensures.world i) (map session_view (c.new-sessions.ensures.empty i)))
    c.in_ok-begin_all.ensures.begun c.in-Ok.ensures.run

pub returns-in-Ok-clause-ended : goal.returns-in-Ok-clause-ended
returns-in-Ok-clause-ended c =
    let w = c.args.loaded.world in
    all-end (run_of w.names (declarations_view w.names w.decl) (view_tree c.args.loaded.module) []) (map (λ (who : Interacting). who.ids) c.args.whos.items) c.args.listed.now
    c.args.steps c.in_ok-units.units
    (sessions_view c.new-sessions.result) (sessions_view c.begin_all.new.sessions) (sessions_view c.run_all.new.self)
    c.begin_all.new.sessions.list.items c.run_all.new.self.list.items (ap (map session_view) c.new-sessions.ensures.empty)
    c.in_ok-begin_all.ensures.begun c.in-Ok.ensures.run refl refl c.in_ok-begin_all.ensures.ready.numbered c.in-Ok.ensures.ready.numbered c.in-Ok.ensures.count

pub returns-in-Ok-clause-count : goal.returns-in-Ok-clause-count
returns-in-Ok-clause-count c = c.in-Ok.ensures.count ∙ c.in_ok-begin_all.ensures.count ∙ c.requires.as_many

pub returns-in-Ok-clause-used : goal.returns-in-Ok-clause-used
returns-in-Ok-clause-used c =
    add-up c.args.steps c.begin_all.new.sessions c.run_all.new.self c.in-Ok.ensures.ready c.in-Ok.ensures.given
    (c.in_ok-begin_all.ensures.given (none-given c.args.steps c.new-sessions.result c.new-sessions.ensures.empty))
