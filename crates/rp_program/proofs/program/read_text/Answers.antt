use Rattle.std.proofs.Common.{◌∙◌}
use Rattle.std.proofs.lemmas.Result.{err_from_is_err_and}
use Rattle.rp_tree.specs.StatementViews.{view_tree}
use Rattle.rp_program.proofs.Leaves.{tree_held, tree_unnumbered}
use Rattle.rp_program.proofs.Programs.{no_fault, one_program, read_program, refused_by_parse}
use Rattle.rp_program.proofs.program.read_text.Goals as goal

pub returns-in_err-expanded-clause-one : goal.returns-in_err-expanded-clause-one
returns-in_err-expanded-clause-one c = one_program c.args.text.now

pub returns-in_err-expanded-clause-only : goal.returns-in_err-expanded-clause-only
returns-in_err-expanded-clause-only c = λ tree program.
    let p = err_from_is_err_and c.from_residual.result c.from_residual.ensures.1 in
    let fault = c.in_err-expanded.field-0.0 in
    rw p.1 (p.2 ∙ no_fault c.args.text.now tree program fault c.in_err-expanded.ensures.refused)

pub returns-in_err-parse-clause-one : goal.returns-in_err-parse-clause-one
returns-in_err-parse-clause-one c = one_program c.args.text.now

pub returns-in_err-parse-clause-refused : goal.returns-in_err-parse-clause-refused
returns-in_err-parse-clause-refused c =
    let names = c.text_tokens.new.names in
    let ts = c.in_ok-expanded.expanded.items in
    let p = err_from_is_err_and c.from_residual-in_err-parse.result c.from_residual-in_err-parse.ensures.1 in
    rw p.1 (refused_by_parse c.args.text.now names ts c.in_ok-expanded.ensures.read c.in_err-parse.field-0.0
    c.in_err-parse.ensures.only c.in_err-parse.ensures.syntax p.0 p.2)

pub returns-in_err-parse-clause-only : goal.returns-in_err-parse-clause-only
returns-in_err-parse-clause-only c = λ tree program.
    let names = c.text_tokens.new.names in
    let ts = c.in_ok-expanded.expanded.items in
    let p = err_from_is_err_and c.from_residual-in_err-parse.result c.from_residual-in_err-parse.ensures.1 in
    rw p.1 (no_fault c.args.text.now tree program p.0
    (refused_by_parse c.args.text.now names ts c.in_ok-expanded.ensures.read c.in_err-parse.field-0.0
    c.in_err-parse.ensures.only c.in_err-parse.ensures.syntax p.0 p.2))

pub returns-clause-program : goal.returns-clause-program
returns-clause-program c =
    read_program c.args.text.now c.text_tokens.new.names c.in_ok-expanded.expanded.items c.in_ok-expanded.ensures.read
    (view_tree c.in_ok-parse.field-0) c.in_ok-parse.ensures.spelled

pub returns-clause-one : goal.returns-clause-one
returns-clause-one c = one_program c.args.text.now

pub returns-clause-only : goal.returns-clause-only
returns-clause-only c = λ tree program.
    let read = view_tree c.in_ok-parse.field-0 in
    one_program c.args.text.now _ tree
    (read_program c.args.text.now c.text_tokens.new.names c.in_ok-expanded.expanded.items c.in_ok-expanded.ensures.read
    read c.in_ok-parse.ensures.spelled) program

pub returns-clause-held : goal.returns-clause-held
returns-clause-held c =
    tree_held c.text_tokens.new.names c.in_ok-expanded.expanded.items (view_tree c.in_ok-parse.field-0)
    c.in_ok-expanded.ensures.read.are.held c.in_ok-parse.ensures.leaves

pub returns-clause-unnumbered : goal.returns-clause-unnumbered
returns-clause-unnumbered c =
    tree_unnumbered c.in_ok-expanded.expanded.items (view_tree c.in_ok-parse.field-0) c.in_ok-parse.ensures.leaves
