-- What is told of tokens that are no script.
use Rattle.std.proofs.Common.{◌≡◌, ◌≢◌, ◌+◌, ◌≤◌, refl, ap, ◌∙◌, arith}
use Rattle.rp_token.specs.Laws.{IsWithin}
use Rattle.rp_tree.specs.Statements.{Stmts}
use Rattle.rp_grammar.specs.Kinds.{Tokens, line_at}
use Rattle.rp_grammar.specs.Program.{IsLongestGood, Spells}
use Rattle.rp_grammar.specs.StatementReading as stmt_reading
use Rattle.rp_grammar.proofs.Longest.{syntax_place}
use Rattle.rp_grammar.proofs.Low.{within_shallow}
use Rattle.rp_grammar.proofs.StatementComplete.{none_spelled}
use Rattle.rp_parse.specs.Gives.{deep}
use Rattle.rp_parse.specs.ScriptSteps.{place_line, IsToldOf}
use Rattle.rp_parse.specs.declared.fault.ParseFault.{ParseFault}
use Rattle.rp_parse.specs.declared.fault.ParseFault.TheVariants as fault

enough : 450 + 200 ≤ 650
enough = omega arith

pub refused_only : (f : ParseFault) (ts : Tokens) → IsWithin 450 0 ts → IsToldOf f (stmt_reading.program_at deep 199 ts) → (tree : Stmts) → Spells tree ts → f ≡ fault.Memory
refused_only fault.Memory ts shallow t tree spelled = refl
refused_only (fault.Syntax line) ts shallow t tree spelled = absurd (none_spelled 450 650 enough ts t.0 t.1 (within_shallow 450 0 ts shallow) tree spelled)

pub refused_place : (f : ParseFault) (ts : Tokens) → IsWithin 450 0 ts → IsToldOf f (stmt_reading.program_at deep 199 ts) → f ≢ fault.Memory → (front : Tokens) × (rest : Tokens) × (f ≡ fault.Syntax (line_at rest)) × IsLongestGood front rest ts
refused_place fault.Memory ts shallow t other = absurd (other refl)
refused_place (fault.Syntax line) ts shallow t other =
    let (front, rest, same, longest) = syntax_place 450 650 enough ts t.0 (within_shallow 450 0 ts shallow) t.1 in
    (front, rest, ap fault.Syntax (t.2 ∙ ap place_line same), longest)
