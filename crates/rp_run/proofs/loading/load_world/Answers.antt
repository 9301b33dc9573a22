use Rattle.std.proofs.Common.{◌∙◌, List, ap}
use Rattle.rp_base.specs.declared.value.Name.{Name}
use Rattle.rp_decl.specs.View.{declarations_view}
use Rattle.rp_proxy.proofs.LaterRecords.{declarations-later}
use Rattle.rp_run.proofs.Later.{IsReadInto-later}
use Rattle.rp_run.proofs.LoadedWorlds.{declares_so, loads_so, module_read, refuses_so, refuses_status, tells_text}
use Rattle.rp_run.proofs.LoadedWorlds.{told_as_fault}
use Rattle.rp_run.proofs.Sayings.{three}
use Rattle.rp_run.specs.Told.{module_prefix}
use Rattle.rp_scope.specs.Scopes.{scopes}
use Rattle.rp_script.specs.Refusal.{refusal_lines}
use Rattle.rp_tree.specs.StatementViews.{view_tree}
use Rattle.rp_run.proofs.loading.load_world.Goals as goal

pub world_of-requires-clause-read : goal.world_of-requires-clause-read
world_of-requires-clause-read c =
    IsReadInto-later c.args.names c.compile_trusted.new.names c.compile_trusted.ensures.names c.args.decl
    c.requires.read

pub world_of-requires-clause-table : goal.world_of-requires-clause-table
world_of-requires-clause-table c =
    c.in-Ok.ensures.table
    ∙ ap (λ (first : List Name). scopes first (view_tree c.in-Ok.compiled.tree))
    (c.as_slice.ensures.value ∙ c.in_ok-first.ensures)

pub returns-in-Ok-clause-loaded : goal.returns-in-Ok-clause-loaded
returns-in-Ok-clause-loaded c =
    let later = c.compile_trusted.new.names in
    let m = c.in-Ok.compiled.tree in
    let text = c.in-Ok.ensures in
    let read =
    module_read c.args.names c.args.decl c.as_str.result.now c.as_str.utf8 (c.as_str.ensures ∙ c.module-text.ensures)
    later m c.requires.read c.requires.words c.compile_trusted.ensures.names c.hold_each_once.ensures text.held
    text.numbers text.program text.words in
    loads_so (declarations_view c.args.names c.args.decl) (declarations_view later c.args.decl) later m read
    c.args.cells c.world_of.result c.world_of.ensures.tree c.world_of.ensures.comes

pub returns-in-Ok-clause-declarations : goal.returns-in-Ok-clause-declarations
returns-in-Ok-clause-declarations c =
    let later = c.compile_trusted.new.names in
    declares_so (declarations_view c.args.names c.args.decl) (declarations_view later c.args.decl)
    (declarations-later c.args.names later c.compile_trusted.ensures.names c.args.decl c.requires.read.held)
    c.world_of.result c.world_of.ensures.declarations

pub returns-in-Ok-clause-refused : goal.returns-in-Ok-clause-refused
returns-in-Ok-clause-refused c =
    let later = c.compile_trusted.new.names in
    let m = c.in-Ok.compiled.tree in
    let text = c.in-Ok.ensures in
    let read =
    module_read c.args.names c.args.decl c.as_str.result.now c.as_str.utf8 (c.as_str.ensures ∙ c.module-text.ensures)
    later m c.requires.read c.requires.words c.compile_trusted.ensures.names c.hold_each_once.ensures text.held
    text.numbers text.program text.words in
    refuses_so (declarations_view c.args.names c.args.decl) (declarations_view later c.args.decl) later m read
    c.args.cells c.world_of.result c.world_of.ensures.refused

pub returns-in-Ok-clause-status : goal.returns-in-Ok-clause-status
returns-in-Ok-clause-status c =
    let later = c.compile_trusted.new.names in
    refuses_status later (declarations_view later c.args.decl) (view_tree c.in-Ok.compiled.tree) c.args.cells
    c.world_of.result c.world_of.ensures.refused

pub returns-in_ok-answer_module-in-Err-clause-refused : goal.returns-in_ok-answer_module-in-Err-clause-refused
returns-in_ok-answer_module-in-Err-clause-refused c =
    let told = c.in_ok-answer_module-in-Err.ensures in
    let names = c.compile_trusted.new.names in
    let none = c.in-Err.ensures.refused told.other in
    tells_text c.args.names c.args.decl c.as_str.result.now c.as_str.utf8 (c.as_str.ensures ∙ c.module-text.ensures)
    c.args.cells none.fault _ _ none.is
    (told.said.0 ∙ ap (refusal_lines names module_prefix) none.told ∙ told_as_fault names module_prefix none.fault)
    told.said.1

pub returns-in_ok-answer_module-in-Err-clause-status : goal.returns-in_ok-answer_module-in-Err-clause-status
returns-in_ok-answer_module-in-Err-clause-status c =
    three _ c.in_ok-answer_module-in-Err.ensures.said.1
