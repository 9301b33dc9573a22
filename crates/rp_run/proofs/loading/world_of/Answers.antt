use Rattle.rp_decl.specs.View.{declarations_view}
use Rattle.rp_run.proofs.LoadedWorlds.{tells_load}
use Rattle.rp_tree.specs.StatementViews.{view_tree}
use Rattle.rp_run.proofs.loading.world_of.Goals as goal

pub load-requires-clause-first : goal.load-requires-clause-first
load-requires-clause-first c = c.requires.read.first

pub load-requires-clause-held : goal.load-requires-clause-held
load-requires-clause-held c = c.requires.read.held

pub load-requires-clause-consistent : goal.load-requires-clause-consistent
load-requires-clause-consistent c = c.requires.read.consistent

pub load-requires-clause-ordered : goal.load-requires-clause-ordered
load-requires-clause-ordered c = c.requires.read.ordered

pub returns-in_ok-answer_cause-in-Err-clause-refused : goal.returns-in_ok-answer_cause-in-Err-clause-refused
returns-in_ok-answer_cause-in-Err-clause-refused c =
    let told = c.in_ok-answer_cause-in-Err.ensures in
    tells_load c.in-Err.cause c.args.names (declarations_view c.args.names c.args.decl) (view_tree c.args.compiled.tree)
    c.args.cells _ _ c.in-Err.ensures.refused told.counted told.other told.said.0 told.said.1
