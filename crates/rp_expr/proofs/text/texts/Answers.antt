use Rattle.std.proofs.Common.{◌≡◌, ◌++◌, ℕ, List, None, sym, ap, ◌∙◌, option_map}
use Rattle.std.specs.Str.{chars}
use Rattle.rp_grammar.specs.Front.{text_of}
use Rattle.rp_grammar.specs.Kinds.{Tokens, first}
use Rattle.rp_grammar.specs.ExpressionReading.{Read, before}
use Rattle.rp_grammar.proofs.Texts.{all_texts, texts_alone, texts_begin, texts_keep, texts_end, answered}
use Rattle.rp_expr.proofs.text.texts.Goals as goal

abbrev before_joined : List ℕ → Read (List ℕ) → Read (List ℕ)
before_joined j read = before (λ (xs : List ℕ). j ++ xs) read

pub returns-then-not-is_text : goal.returns-then-not-is_text
returns-then-not-is_text c =
    texts_alone c.args.text.now c.args.tokens.now (sym c.is_text.ensures ∙ c.if-not-is_text.true) ∙ ap (λ (s : List ℕ). answered s c.args.tokens.now) (sym c.in_ok-copy.ensures)

pub texts-init : goal.texts-init
texts-init c =
    let joined : c.add.new.self ≡ c.args.text.now = c.in_ok-add.ensures.added ∙ ap (λ (s : List ℕ). s ++ chars c.as_str.result.now) c.new-joined.ensures ∙ c.as_str.ensures in
    texts_begin c.args.text.now c.args.tokens.now ∙ ap (λ (s : List ℕ). before_joined s (all_texts c.args.tokens.now)) (sym joined)

pub texts-preserved : goal.texts-preserved
texts-preserved c =
    let found = sym c.text_at.ensures ∙ ap (option_map (λ t. t.now)) c.in-Some.is in
    let joined : c.add-in-Some.new.self ≡ c.texts.joined ++ c.in-Some.next.now = c.in_ok-add-2.ensures.added ∙ ap (λ (s : List ℕ). c.texts.joined ++ s) c.as_str-in-Some.ensures in
    texts_keep _ c.texts.joined c.in-Some.next.now c.texts.rest.now c.texts.invariant found
    ∙ ap (λ (ts : Tokens). before_joined (c.texts.joined ++ c.in-Some.next.now) (all_texts ts)) (sym c.skip-rest.ensures)
    ∙ ap (λ (s : List ℕ). before_joined s (all_texts c.skip-rest.result.now)) (sym joined)

pub returns : goal.returns
returns c =
    let over : text_of (first c.texts.rest.now) ≡ None = sym c.text_at.ensures ∙ ap (option_map (λ t. t.now)) c.in_default.is in
    let same : c.in_ok-new.field-0 ≡ c.texts.joined = c.in_ok-new.ensures ∙ c.as_str-2.ensures in
    texts_end _ c.texts.joined c.texts.rest.now c.texts.invariant over ∙ ap (λ (s : List ℕ). answered s c.texts.rest.now) (sym same)
