use Rattle.std.proofs.Common.{◌≢◌, ap, ◌∙◌, [], rules}
use Rattle.std.proofs.lemmas.List.{nil_from_length}
use Rattle.std.proofs.lemmas.Result.{err_from_is_err_and}
use Rattle.rp_program.proofs.Programs.{no_fault, refused_by_parse}
use Rattle.rp_script.specs.Refusal.{from_program}
use Rattle.rp_script.proofs.Reviews.{has_all, has_offences, is_lawful, is_refused, none_found, reviews_none}
use Rattle.rp_script.proofs.review.check_script.Goals as goal

pub returns-in_err-tokens-clause-only : goal.returns-in_err-tokens-clause-only
returns-in_err-tokens-clause-only c = λ tree is lawful.
    let p = err_from_is_err_and c.from_residual.result c.from_residual.ensures.1 in
    let fault = c.in_err-tokens.field-0.0 in
    rw p.1 (p.2 ∙ ap from_program (no_fault c.args.bytes.now tree is fault c.in_err-tokens.ensures.refused))

pub parse_each-requires-clause-begins : goal.parse_each-requires-clause-begins
parse_each-requires-clause-begins c = reviews_none c.new-review.result

pub returns-in-Err-clause-only : goal.returns-in-Err-clause-only
returns-in-Err-clause-only c = λ tree is lawful.
    let wrong = refused_by_parse c.args.bytes.now c.read_tokens.new.names c.in_ok-tokens.tokens.items
    c.in_ok-tokens.ensures.read c.in-Err.fault c.in-Err.ensures.only c.in-Err.ensures.syntax c.from.result
    c.from.ensures in
    c.from-in-Err.ensures ∙ ap from_program (no_fault c.args.bytes.now tree is c.from.result wrong)

pub returns-in-Err-clause-refused : goal.returns-in-Err-clause-refused
returns-in-Err-clause-refused c =
    let wrong = refused_by_parse c.args.bytes.now c.read_tokens.new.names c.in_ok-tokens.tokens.items
    c.in_ok-tokens.ensures.read c.in-Err.fault c.in-Err.ensures.only c.in-Err.ensures.syntax c.from.result
    c.from.ensures in
    is_refused c.read_tokens.new.names c.args.bytes.now c.from.result wrong c.from-in-Err.result c.from-in-Err.ensures

pub returns-then-not-is_empty-clause-only : goal.returns-then-not-is_empty-clause-only
returns-then-not-is_empty-clause-only c = λ tree is lawful.
    let found = c.into_found-found.result.items in
    let has = has_all c.read_tokens.new.names c.args.bytes.now c.in_ok-tokens.tokens.items c.new-review.result
    c.parse_each.new.visitor found c.in_ok-tokens.ensures.read c.new-review.ensures c.in_default.ensures.spelled
    c.into_found-found.ensures in
    let some : found ≢ [] = search rules in
    absurd (some (none_found c.read_tokens.new.names c.args.bytes.now found has tree is lawful))

pub returns-then-not-is_empty-clause-refused : goal.returns-then-not-is_empty-clause-refused
returns-then-not-is_empty-clause-refused c = λ other.
    let found = c.into_found-found.result.items in
    let has = has_all c.read_tokens.new.names c.args.bytes.now c.in_ok-tokens.tokens.items c.new-review.result
    c.parse_each.new.visitor found c.in_ok-tokens.ensures.read c.new-review.ensures c.in_default.ensures.spelled
    c.into_found-found.ensures in
    has_offences c.read_tokens.new.names c.args.bytes.now found has (search rules)

pub returns-clause-lawful : goal.returns-clause-lawful
returns-clause-lawful c =
    let found = c.into_found-found.result.items in
    let has = has_all c.read_tokens.new.names c.args.bytes.now c.in_ok-tokens.tokens.items c.new-review.result
    c.parse_each.new.visitor found c.in_ok-tokens.ensures.read c.new-review.ensures c.in_default.ensures.spelled
    c.into_found-found.ensures in
    is_lawful c.read_tokens.new.names c.args.bytes.now found has (nil_from_length found (search rules))
