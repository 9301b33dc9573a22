use Rattle.std.proofs.Common.{◌≡◌, ℕ, List, Err, false, true, sym, ap, subst, ◌∙◌, rules}
use Rattle.std.specs.Str.{chars}
use Rattle.rp_meaning.specs.BuiltIn.{name_of, with_name}
use Rattle.rp_policy.specs.Forbidden.{is_forbidden_attribute}
use Rattle.rp_access.specs.Moment.{state_of}
use Rattle.rp_access.proofs.NamedWords.{word_given, word_none, word_refused, word_test}
use Rattle.rp_access.proofs.named_attributes.word_named.Goals as goal

pub returns-then-not-is_name-clause-law : goal.returns-then-not-is_name-clause-law
returns-then-not-is_name-clause-law c =
    let other : c.in_ok-is_name.is_name ≡ false = search rules in
    word_none c.args.word.now (state_of c.args.world.now) (word_test c.args.word.now (chars c.as_str-letters.result.now) c.in_ok-is_name.is_name c.in_ok-is_name.ensures.value c.as_str-letters.ensures ∙ other)

pub add_name-requires-clause-identifier : goal.add_name-requires-clause-identifier
add_name-requires-clause-identifier c = c.in_ok-is_name.ensures.identifier.0 (search rules)

pub returns-in_err-name-clause-law : goal.returns-in_err-name-clause-law
returns-in_err-name-clause-law c =
    let e : c.from_residual-in_err-name.result ≡ Err c.in_err-name.field-0.0 = search rules in
    rw (e, c.in_err-name.ensures.ends) tt

pub returns-then-is_forbidden_attribute-clause-law : goal.returns-then-is_forbidden_attribute-clause-law
returns-then-is_forbidden_attribute-clause-law c =
    let taken : c.in_ok-is_name.is_name ≡ true = search rules in
    let s = state_of c.args.world.now in
    let t = state_of c.add_name.new.world in
    let l : List ℕ = chars c.as_str-letters.result.now in
    let word = c.args.word.now in
    let is = word_test word l c.in_ok-is_name.is_name c.in_ok-is_name.ensures.value c.as_str-letters.ensures ∙ taken in
    let added = subst (λ (x : List ℕ). t ≡ with_name x s) c.as_str-letters.ensures c.in_ok-name.ensures.added in
    word_refused word s t is added c.forbidden.result (ap is_forbidden_attribute (sym c.as_str-letters.ensures) ∙ sym c.is_forbidden_attribute.ensures ∙ c.if-is_forbidden_attribute.true) (c.forbidden.ensures t)

pub returns-clause-law : goal.returns-clause-law
returns-clause-law c =
    let taken : c.in_ok-is_name.is_name ≡ true = search rules in
    let s = state_of c.args.world.now in
    let t = state_of c.add_name.new.world in
    let l : List ℕ = chars c.as_str-letters.result.now in
    let word = c.args.word.now in
    let is = word_test word l c.in_ok-is_name.is_name c.in_ok-is_name.ensures.value c.as_str-letters.ensures ∙ taken in
    let added = subst (λ (x : List ℕ). t ≡ with_name x s) c.as_str-letters.ensures c.in_ok-name.ensures.added in
    let at = subst (λ (x : List ℕ). c.in_ok-name.name ≡ name_of t.names x) c.as_str-letters.ensures c.in_ok-name.ensures.place in
    word_given word s t is added c.in_ok-name.name (ap is_forbidden_attribute (sym c.as_str-letters.ensures) ∙ sym c.is_forbidden_attribute.ensures ∙ c.if-is_forbidden_attribute.false) at
