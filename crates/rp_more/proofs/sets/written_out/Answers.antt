use Rattle.std.proofs.Common.{◌∙◌, sym, ap}
use Rattle.std.specs.List.{list_any}
use Rattle.rp_more.specs.KindSteps.{is_left_brace}
use Rattle.rp_more.proofs.Untouched.{no_sets-tokens}
use Rattle.rp_more.proofs.sets.written_out.Goals as goal

pub returns-then-not-has_brace : goal.returns-then-not-has_brace
returns-then-not-has_brace c =
    let none = ap (λ ts. list_any (λ t. is_left_brace t.kind) ts) (sym c.as_slice.ensures.value) ∙ sym c.has_brace.ensures ∙ c.if-not-has_brace.true in
    λ names. sym (no_sets-tokens names c.args.tokens.items none)
