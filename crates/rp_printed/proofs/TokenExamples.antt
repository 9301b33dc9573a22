-- Examples of the tokens of printed trees.
use Rattle.std.proofs.Common.{◌≡◌, ℕ, List, [], ◌∷◌, codes, map, refl, Result, Ok, Err}
use Rattle.std.specs.Prelude.{pos}
use Rattle.std.specs.Fmt.{digits}
use Rattle.rp_base.specs.declared.operator.UnOp.TheVariants.{Neg}
use Rattle.rp_base.specs.declared.value.Line.{Line}
use Rattle.rp_tree.specs.ExpressionTrees as trees
use Rattle.rp_tree.specs.ExpressionTrees.{Expr, Form}
use Rattle.rp_tree.specs.StatementTrees as stmt_trees
use Rattle.rp_tree.specs.StatementTrees.{Stmts, StmtForm}
use Rattle.rp_print.specs.Texts.{◌⧺◌, bracketed, indentation}
use Rattle.rp_print.specs.Statements.{printed}
use Rattle.rp_token.specs.declared.fault.TokenFault.{TokenFault}
use Rattle.rp_token.specs.Form as token_form
use Rattle.rp_token.specs.Form.{Item}
use Rattle.unicode_ident.proofs.Computing.{unicode_ident}
use Rattle.rp_token.specs.Tokens.{behind_line_end, behind_literal, behind_mark, behind_number, behind_token}
use Rattle.rp_token.specs.Tokens.{behind_word, begun, bracketed as bracketed_mark, ending, in_line, indented, joined}
use Rattle.rp_token.specs.Tokens.{step, tokens_of}

abbrev here : Line
here = record { 0 = 1 }

abbrev e : Form (List ℕ) → Expr (List ℕ)
e f = trees.node here f

abbrev alone : StmtForm (List ℕ) → Stmts (List ℕ)
alone x = stmt_trees.stmt (stmt_trees.a_stmt here x) stmt_trees.no_stmts

abbrev forms : Result (List Item) TokenFault → List token_form.Form
forms (Ok items) = map (λ (i : Item). i.form) items
forms (Err fault) = []

a_pass : forms (tokens_of (printed (alone stmt_trees.pass))) ≡ token_form.keyword (codes "pass") ∷ token_form.newline ∷ token_form.end_of_text ∷ []
unfolding ◌⧺◌ indentation behind_line_end behind_literal behind_mark behind_number behind_token behind_word begun
    bracketed_mark ending in_line indented joined step unicode_ident
a_pass = refl

a_text : forms (tokens_of (printed (alone (stmt_trees.evaluate (e (trees.text (codes "it's")))))))
    ≡ token_form.literal (codes "it's") ∷ token_form.newline ∷ token_form.end_of_text ∷ []
unfolding ◌⧺◌ indentation behind_line_end behind_literal behind_mark behind_number behind_token behind_word begun
    bracketed_mark ending in_line indented joined step unicode_ident
a_text = refl

a_number : forms (tokens_of (printed (alone (stmt_trees.evaluate (e (trees.unary Neg (e (trees.int (pos 10)))))))))
    ≡ token_form.mark (codes "-") ∷ token_form.number 10 ∷ token_form.newline ∷ token_form.end_of_text ∷ []
unfolding ◌⧺◌ bracketed digits indentation behind_line_end behind_literal behind_mark behind_number behind_token
    behind_word begun bracketed_mark ending in_line indented joined step unicode_ident
a_number = refl

a_loop : forms (tokens_of (printed (alone (stmt_trees.while (e (trees.text [])) (alone stmt_trees.pass)))))
    ≡ token_form.keyword (codes "while") ∷ token_form.literal [] ∷ token_form.mark (codes ":") ∷ token_form.newline ∷ token_form.indent ∷ token_form.keyword
    (codes "pass") ∷ token_form.newline ∷ token_form.dedent ∷ token_form.end_of_text ∷ []
unfolding ◌⧺◌ indentation behind_line_end behind_literal behind_mark behind_number behind_token behind_word begun
    bracketed_mark ending in_line indented joined step unicode_ident
a_loop = refl
