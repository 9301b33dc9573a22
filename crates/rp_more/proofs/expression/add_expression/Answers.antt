use Rattle.std.proofs.Common.{◌≡◌, ◌∙◌, ◌++◌, ◌∷◌, [], ℕ, List, codes, refl, sym, chars, Some}
use Rattle.rp_more.specs.Expression.{expression_of, kept}
use Rattle.rp_token.specs.Form.{mark}
use Rattle.rp_more.specs.LiteralSteps.{items_of, str_front}
use Rattle.rp_more.proofs.Growth.{grown-at}
use Rattle.rp_more.proofs.Held.{items-later}
use Rattle.rp_more.proofs.Leading.{at_place, str-done}
use Rattle.rp_more.proofs.NameWords.{Follow-on, Follow-then, Follow-tokens, Follow-words}
use Rattle.rp_more.proofs.expression.add_expression.Goals as goal

pub returns-clause-leads : goal.returns-clause-leads
returns-clause-leads c = λ more.
    let new = c.tokens_within.new.names in
    let names = new ++ more in
    let found = c.in_ok-found.found.items in
    let same = items-later new more found c.in_ok-found.ensures.held in
    let P = λ (ns : List (List ℕ)). items_of ns c.begin_call.new.written.items ≡ items_of ns c.args.written.now.items ++ at_place c.args.place str_front in
    let begun : P names = grown-at c.begin_call.new.names new more P c.in_ok-found.ensures.grown c.in_ok-begin_call.ensures.items in
    str-done c.args.place (items_of names c.args.written.now.items) (items_of names c.begin_call.new.written.items) (items_of names c.add_tokens.new.written.items)
    (items_of names c.end_call.new.written.items) (expression_of (chars c.args.text.now)) (kept (items_of names found))
    (c.in_ok-found.ensures.tokens ∙ (λ k. Some (kept (sym same k)))) begun (c.in_ok-add_tokens.ensures names) (c.in_ok-end_call.ensures names)

pub returns-clause-follows : goal.returns-clause-follows
returns-clause-follows c =
    let new = c.tokens_within.new.names in
    let found = c.in_ok-found in
    let tokens = Follow-tokens c.args.place c.begin_call.new.names new c.begin_call.new.written.items c.add_tokens.new.written.items found.found.items found.ensures.held c.in_ok-add_tokens.ensures found.ensures.words in
    let end = Follow-words c.args.place (mark (codes ")") ∷ mark (codes ")") ∷ []) [] new new c.add_tokens.new.written.items c.end_call.new.written.items (λ more. c.in_ok-end_call.ensures (new ++ more)) refl refl in
    let grown = found.ensures.grown in
    let before = c.args.written.now.items in
    let begun = c.begin_call.new.written.items in
    let ended = c.end_call.new.written.items in
    Follow-then c.args.names.now c.begin_call.new.names new before begun ended grown c.in_ok-begin_call.ensures.follows
    (Follow-on c.begin_call.new.names new begun c.add_tokens.new.written.items ended tokens end)
