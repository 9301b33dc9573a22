use Rattle.std.proofs.Common.{◌∙◌, ap}
use Rattle.std.proofs.lemmas.Result.{err_from_is_err_and}
use Rattle.rp_base.specs.Names.{word_of}
use Rattle.rp_tree.specs.StatementViews.{view_tree}
use Rattle.rp_script.specs.Refusal.{from_program}
use Rattle.rp_compile.proofs.Numbered as numbered
use Rattle.rp_compile.proofs.trusted_module.compile_trusted.Goals as goal

pub returns-clause-program : goal.returns-clause-program
returns-clause-program c =
    numbered.program (view_tree c.in_ok-tree.tree) (view_tree c.number.new.tree) c.in_ok-tree.ensures.low.0 c.in_ok-tree.ensures.low.1 c.number.ensures.kept
    c.args.text.now (word_of c.read_text.new.names) c.in_ok-tree.ensures.program

pub returns-clause-only : goal.returns-clause-only
returns-clause-only c = λ tree is.
    numbered.named_source (view_tree c.in_ok-tree.tree) (view_tree c.number.new.tree) c.in_ok-tree.ensures.low.0 c.in_ok-tree.ensures.low.1 c.number.ensures.kept
    (word_of c.read_text.new.names) ∙ c.in_ok-tree.ensures.only tree is

pub returns-clause-held : goal.returns-clause-held
returns-clause-held c =
    numbered.held (view_tree c.in_ok-tree.tree) (view_tree c.number.new.tree) c.in_ok-tree.ensures.low.0 c.in_ok-tree.ensures.low.1 c.number.ensures.kept
    c.read_text.new.names c.in_ok-tree.ensures.held

pub returns-clause-numbers : goal.returns-clause-numbers
returns-clause-numbers c =
    numbered.has_numbers (view_tree c.in_ok-tree.tree) (view_tree c.number.new.tree) c.number.ensures.numbers c.in_ok-layouts.ensures.few

pub returns-clause-scopes : goal.returns-clause-scopes
returns-clause-scopes c =
    c.in_ok-layouts.ensures.by_number (numbered.has_numbers (view_tree c.in_ok-tree.tree) (view_tree c.number.new.tree) c.number.ensures.numbers c.in_ok-layouts.ensures.few)

pub returns-in_err-tree-clause-only : goal.returns-in_err-tree-clause-only
returns-in_err-tree-clause-only c = λ tree is.
    let p = err_from_is_err_and c.from_residual.result c.from_residual.ensures.1 in
    rw p.1 (p.2 ∙ ap from_program (c.in_err-tree.ensures.only tree is))

pub returns-in_err-tree-clause-refused : goal.returns-in_err-tree-clause-refused
returns-in_err-tree-clause-refused c =
    let p = err_from_is_err_and c.from_residual.result c.from_residual.ensures.1 in
    rw p.1 (λ other. record {
      fault = c.in_err-tree.field-0.0;
      is = c.in_err-tree.ensures.refused (λ e. other (p.2 ∙ ap from_program e));
      told = p.2;
    })

pub invariant_of-result : goal.invariant_of-result
invariant_of-result c =
    numbered.trusted c.in_ok-tree.tree c.number.new.tree c.in_ok-layouts.layouts c.args.first.now c.in_ok-tree.ensures.low.0 c.in_ok-tree.ensures.low.1
    c.number.ensures.kept c.number.ensures.numbers c.in_ok-layouts.ensures.few c.in_ok-layouts.ensures.by_number c.in_ok-layouts.ensures.scopes
