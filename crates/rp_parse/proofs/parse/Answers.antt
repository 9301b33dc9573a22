use Rattle.std.proofs.Common.{sym, ap, ◌∙◌, subst}
use Rattle.rp_tree.specs.Statements.{Stmts}
use Rattle.rp_tree.specs.StatementViews.{view_stmts}
use Rattle.rp_grammar.specs.Program.{Spells}
use Rattle.rp_grammar.proofs.StatementComplete.{one_tree}
use Rattle.rp_grammar.proofs.Unmarked.{leaves_spelled, no_guards_spelled}
use Rattle.rp_parse.proofs.Refused.{refused_only, refused_place}
use Rattle.rp_parse.proofs.Visits.{kept_whole, takes_tree}
use Rattle.rp_parse.proofs.parse.Goals as goal

pub returns-in-Ok-clause-spelled : goal.returns-in-Ok-clause-spelled
returns-in-Ok-clause-spelled c =
    let ts = c.args.tokens.items in
    let whole = takes_tree _ _ _ ts c.in-Ok.ensures.read in
    let kept = kept_whole c.new-keeper.result.kept.items c.into_kept.result.items whole.tree c.new-keeper.ensures (ap (λ v. view_stmts v.items) c.into_kept.ensures ∙ whole.taken) in
    subst (λ (tree : Stmts). Spells tree ts) (sym kept) whole.spelled

pub returns-in-Ok-clause-only : goal.returns-in-Ok-clause-only
returns-in-Ok-clause-only c = λ tree spelled. one_tree (returns-in-Ok-clause-spelled c) spelled

pub returns-in-Ok-clause-one : goal.returns-in-Ok-clause-one
returns-in-Ok-clause-one c = λ a b p q. one_tree p q

pub returns-in-Ok-clause-plain : goal.returns-in-Ok-clause-plain
returns-in-Ok-clause-plain c = no_guards_spelled (view_stmts c.into_kept.result.items) c.args.tokens.items (returns-in-Ok-clause-spelled c)

pub returns-in-Ok-clause-leaves : goal.returns-in-Ok-clause-leaves
returns-in-Ok-clause-leaves c = leaves_spelled (view_stmts c.into_kept.result.items) c.args.tokens.items (returns-in-Ok-clause-spelled c)

pub returns-in-Err-clause-only : goal.returns-in-Err-clause-only
returns-in-Err-clause-only c = λ tree spelled. refused_only c.in-Err.fault c.args.tokens.items c.requires.shallow c.in-Err.ensures.refused tree spelled

pub returns-in-Err-clause-one : goal.returns-in-Err-clause-one
returns-in-Err-clause-one c = λ a b p q. one_tree p q

pub returns-in-Err-clause-syntax : goal.returns-in-Err-clause-syntax
returns-in-Err-clause-syntax c = λ other. refused_place c.in-Err.fault c.args.tokens.items c.requires.shallow c.in-Err.ensures.refused other
