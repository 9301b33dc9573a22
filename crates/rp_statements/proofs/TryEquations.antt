-- What `try` statements and their handlers do, level by level.
use Rattle.std.proofs.Common.{◌≡◌, List, [], ◌∷◌, map, Option, option_map, Vec, Global, refl, ap, ◌∙◌}
use Rattle.rp_tree.specs.declared.stmt.Except.{Except}
use Rattle.rp_tree.specs.declared.stmt.Stmt.{Stmt}
use Rattle.rp_tree.specs.declared.stmt.StmtForm.TheVariants as stmt_form
use Rattle.rp_tree.specs.declared.stmt.StmtForm.TheViews.{out-Except}
use Rattle.rp_tree.specs.StatementViews.{view_except, view_maybe_stmts, excepts_of, block_items}
use Rattle.rp_tree.proofs.StatementEquations as stmt_equations
use Rattle.rp_meaning.specs.Exceptions as exception
use Rattle.rp_meaning.specs.Frame.{Doing}
use Rattle.rp_meaning.specs.Meaning as meaning
use Rattle.rp_meaning.specs.Statements as stmt_forms
use Rattle.rp_engine.specs.Does as does
use Rattle.rp_engine.proofs.Equations.{maybe_expr, maybe_is, stmts_are}

handlers_are : (xs : List Except) → meaning.handlers (excepts_of (map view_except xs)) ≡ does.handlers xs
unfolding does.handler
handlers_are [] = refl
handlers_are (x ∷ xs) = ap (λ hs. meaning.handler (view_except x) ∷ hs) (handlers_are xs)

pub stmt_try : (b : Vec Stmt Global) (hs : Vec Except Global) (o l : Option (Vec Stmt Global)) → does.stmt_form (stmt_form.Try b hs o l)
    ≡ exception.try (does.block b.items) (does.handlers hs.items) (does.block (block_items o)) (does.block (block_items l))
unfolding does.stmt_form
stmt_try b hs o l =
    ap meaning.exec_form (stmt_equations.stmt_try b hs o l)
    ∙ ap (λ ds. exception.try (stmt_forms.block ds) (meaning.handlers (excepts_of (map view_except hs.items))) (meaning.maybe_block (view_maybe_stmts o)) (meaning.maybe_block (view_maybe_stmts l))) (stmts_are b.items)
    ∙ ap (λ xs. exception.try (does.block b.items) xs (meaning.maybe_block (view_maybe_stmts o)) (meaning.maybe_block (view_maybe_stmts l))) (handlers_are hs.items)
    ∙ ap (λ (x : Doing). exception.try (does.block b.items) (does.handlers hs.items) x (meaning.maybe_block (view_maybe_stmts l))) (maybe_is o)
    ∙ ap (λ (x : Doing). exception.try (does.block b.items) (does.handlers hs.items) (does.block (block_items o)) x) (maybe_is l)

-- the parts of a handler

pub handler_kind : (x : Except) → (does.handler x).kind ≡ does.maybe (out-Except x).kind
unfolding does.handler
handler_kind x = ap (λ e. (meaning.handler e).kind) (stmt_equations.except_out x) ∙ maybe_expr (out-Except x).kind

pub handler_name : (x : Except) → (does.handler x).name ≡ option_map (λ k. k.name) (out-Except x).name
unfolding does.handler
handler_name x = ap (λ e. (meaning.handler e).name) (stmt_equations.except_out x)

pub handler_body : (x : Except) → (does.handler x).body ≡ does.block (out-Except x).body.items
unfolding does.handler
handler_body x = ap (λ e. (meaning.handler e).body) (stmt_equations.except_out x) ∙ ap stmt_forms.block (stmts_are (out-Except x).body.items)
