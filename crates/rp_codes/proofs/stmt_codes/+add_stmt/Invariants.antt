use Rattle.std.proofs.Common.{take}
use Rattle.rp_codes.specs.CodeSteps.{Adds}
use Rattle.rp_codes.proofs.Lists.{flat, stmts_one, branches_one, handlers_one}
use Rattle.rp_codes.proofs.stmt_codes.+add_stmt.Given as goal

abbrev pub invariant-add_stmts-stmts : goal.invariant-add_stmts-stmts
invariant-add_stmts-stmts l = Adds (flat stmts_one (take l.stmt-index l.stmts)) l.initial.codes l.codes

abbrev pub invariant-add_branches-branches : goal.invariant-add_branches-branches
invariant-add_branches-branches l = Adds (flat branches_one (take l.branch-index l.branches)) l.initial.codes l.codes

abbrev pub invariant-add_handlers-handlers : goal.invariant-add_handlers-handlers
invariant-add_handlers-handlers l = Adds (flat handlers_one (take l.handler-index l.handlers)) l.initial.codes l.codes
