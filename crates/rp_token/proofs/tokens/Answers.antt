use Rattle.std.proofs.Common.{◌≡◌, ◌∙◌, ◌++◌, [], ℕ, List, sym, ap, subst, rules, arith, append_assoc, chars, length, Err, Result}
use Rattle.std.proofs.lemmas.List.{append-nil, length-drop, nil_from_length}
use Rattle.std.proofs.lemmas.Str.{IsUtf8-had}
use Rattle.rp_base.specs.Names.{with_words}
use Rattle.rp_base.proofs.CallerLemmas.{some_chars, with_words-then}
use Rattle.rp_token.specs.declared.fault.TokenFault.{TokenFault}
use Rattle.rp_token.specs.Form.{Item}
use Rattle.rp_token.specs.Laws.{BlocksEnd, EndsOnce, IsWithin, LieInOrder}
use Rattle.rp_token.specs.Lexer.{Gives, state}
use Rattle.rp_token.specs.NameWords.{name_words}
use Rattle.rp_token.specs.WordSteps.{front_words}
use Rattle.rp_token.specs.Tokens.{ending, step, tokens_from, tokens_of}
use Rattle.rp_token.proofs.Held.{held_tokens}
use Rattle.rp_token.proofs.Laws.{Laws, law, laws}
use Rattle.rp_token.proofs.NameWords.{all_words, step-words}
use Rattle.rp_token.proofs.Rules.{Gives-fault, err_handed}
use Rattle.rp_token.proofs.Steps.{step-left, tokens_from-fault, tokens_from-step}
use Rattle.rp_token.proofs.Texts.{no_chars, not_empty}
use Rattle.rp_token.proofs.tokens.Goals as goal

pub steps-smaller : goal.steps-smaller
steps-smaller c =
    let old = c.steps.lexer in
    let some = some_chars old.rest.now (IsUtf8-had _ old.is_text) (not_empty _ _ c.is_at_end.ensures (search rules)) in
    let less = step-left (state (c.step.new.names ++ []) old) (state (c.step.new.names ++ []) c.step.new.self) some (c.in_ok-step.ensures.goes []) in
    let shorter = ap length less.is ∙ length-drop less.count (chars old.rest.now) in
    let least = less.some in
    omega arith

pub steps-preserved : goal.steps-preserved
steps-preserved c =
    let old = c.steps.lexer in
    let some = some_chars old.rest.now (IsUtf8-had _ old.is_text) (not_empty _ _ c.is_at_end.ensures (search rules)) in
    let before = c.steps.invariant.grown in
    let now = c.in_ok-step.ensures.grown in
    let held = c.step.new.names in
    record {
      grown = (before.0 ++ now.0, now.1 ∙ ap (λ names. names ++ now.0) before.1 ∙ append_assoc c.args.names.now before.0 now.0);
      same = λ more.
          let names = ap (λ ns. ns ++ more) now.1 ∙ append_assoc c.steps.names now.0 more in
          sym (tokens_from-step (state (held ++ more) old) (state (held ++ more) c.step.new.self) some (c.in_ok-step.ensures.goes more))
          ∙ (λ k. tokens_from 0 (state (names k) old) (chars old.rest.now)) ∙ c.steps.invariant.same (now.0 ++ more);
      words = λ more.
          let names = ap (λ ns. ns ++ more) now.1 ∙ append_assoc c.steps.names now.0 more in
          let so_far = c.steps.invariant.words (now.0 ++ more) ∙ (λ k. with_words c.args.names.now (name_words (state (sym names k) old).items)) in
          let one = step-words (state (held ++ more) old) (state (held ++ more) c.step.new.self) (c.in_ok-step.ensures.goes more) in
          let words = name_words (state (held ++ more) old).items in
          with_words-then c.args.names.now c.steps.names held words (front_words (chars old.rest.now)) so_far c.in_ok-step.ensures.words ∙ ap (with_words c.args.names.now) (sym one);
    }

pub returns-in_err-step-clause-tokens : goal.returns-in_err-step-clause-tokens
returns-in_err-step-clause-tokens c =
    let old = c.steps.lexer in
    let f = c.in_err-step.field-0.0 in
    let is = err_handed c.from_residual.result f c.from_residual.ensures.1 in
    let some = some_chars old.rest.now (IsUtf8-had _ old.is_text) (not_empty _ _ c.is_at_end.ensures (search rules)) in
    let now = c.in_err-step.ensures.grown in
    let held = c.step.new.names ++ [] in
    let names = ap (λ ns. ns ++ []) now.1 ∙ append_assoc c.steps.names now.0 [] in
    let first = λ (g : TokenFault) (fails : step (state held old) ≡ Err g).
    sym ((λ k. tokens_from 0 (state (names k) old) (chars old.rest.now)) ∙ c.steps.invariant.same (now.0 ++ [])) ∙ tokens_from-fault (state held old) g some fails in
    rw is (Gives-fault held step (tokens_of (chars c.args.text.now)) f old c.step.new.self first (c.in_err-step.ensures.goes []) c.step.new.names)

pub returns-clause-tokens : goal.returns-clause-tokens
returns-clause-tokens c =
    let old = c.steps.lexer in
    let empty : length old.rest.now ≡ 0 = search rules in
    let none = nil_from_length _ (no_chars old.rest.now empty) in
    let last : ending (state c.steps.names old) ≡ tokens_of (chars c.args.text.now) =
    (λ k. tokens_from 0 (state (sym (append-nil c.steps.names) k) old) (sym none k)) ∙ c.steps.invariant.same [] in
    let P = λ (expected : Result (List Item) TokenFault). Gives c.steps.names expected c.finish.result in
    subst P last (c.finish.ensures c.steps.names)

pub returns-clause-words : goal.returns-clause-words
returns-clause-words c =
    let old = c.steps.lexer in
    let empty : length old.rest.now ≡ 0 = search rules in
    let none = nil_from_length _ (no_chars old.rest.now empty) in
    let names = append-nil c.steps.names in
    let last : ending (state c.steps.names old) ≡ tokens_of (chars c.args.text.now) =
    (λ k. tokens_from 0 (state (sym names k) old) (sym none k)) ∙ c.steps.invariant.same [] in
    let words = c.steps.invariant.words [] ∙ (λ k. with_words c.args.names.now (name_words (state (names k) old).items)) in
    all_words c.args.names.now c.steps.names (state c.steps.names old) (chars c.args.text.now) c.finish.result (c.finish.ensures c.steps.names) last words

pub returns-clause-held : goal.returns-clause-held
returns-clause-held c =
    let old = c.steps.lexer in
    let empty : length old.rest.now ≡ 0 = search rules in
    let none = nil_from_length _ (no_chars old.rest.now empty) in
    let given = λ (names : List (List ℕ)) (same : tokens_from 0 (state names old) (chars old.rest.now) ≡ tokens_of (chars c.args.text.now)).
    let P = λ (expected : Result (List Item) TokenFault). Gives names expected c.finish.result in
    subst P ((λ k. tokens_from 0 (state names old) (sym none k)) ∙ same) (c.finish.ensures names) in
    let now : tokens_from 0 (state c.steps.names old) (chars old.rest.now) ≡ tokens_from 0 (state (c.steps.names ++ []) old) (chars old.rest.now) =
    λ k. tokens_from 0 (state (sym (append-nil c.steps.names) k) old) (chars old.rest.now) in
    held_tokens c.steps.names (tokens_of (chars c.args.text.now)) c.finish.result (λ more. given (c.steps.names ++ more) (c.steps.invariant.same more))
    (given c.steps.names (now ∙ c.steps.invariant.same []))

pub returns-clause-ends : goal.returns-clause-ends
returns-clause-ends c =
    let all = laws c.steps.names c.args.text.now c.finish.result c.utf8.text (returns-clause-tokens c) in
    law c.finish.result c.args.text.now (EndsOnce) (λ ts (l : Laws c.args.text.now ts). l.ends) all

pub returns-clause-order : goal.returns-clause-order
returns-clause-order c =
    let all = laws c.steps.names c.args.text.now c.finish.result c.utf8.text (returns-clause-tokens c) in
    law c.finish.result c.args.text.now (LieInOrder c.args.text.now 0) (λ ts (l : Laws c.args.text.now ts). l.order) all

pub returns-clause-blocks : goal.returns-clause-blocks
returns-clause-blocks c =
    let all = laws c.steps.names c.args.text.now c.finish.result c.utf8.text (returns-clause-tokens c) in
    law c.finish.result c.args.text.now (BlocksEnd) (λ ts (l : Laws c.args.text.now ts). l.blocks) all

pub returns-clause-brackets : goal.returns-clause-brackets
returns-clause-brackets c =
    let all = laws c.steps.names c.args.text.now c.finish.result c.utf8.text (returns-clause-tokens c) in
    law c.finish.result c.args.text.now (IsWithin 200 0) (λ ts (l : Laws c.args.text.now ts). l.brackets) all
