use Rattle.std.proofs.Common.{ℤ, FitsSigned, Some, None, codes, ap, sym, ◌∙◌, arith, rules}
use Rattle.std.specs.Int.{w64}
use Rattle.std.specs.Str.{chars}
use Rattle.std.proofs.lemmas.Grind.{common_steps}
use Rattle.std.proofs.lemmas.Int.{to_z-of_z}
use Rattle.rp_base.specs.declared.kind.Kind.TheVariants.{TypeError}
use Rattle.rp_base.specs.declared.value.Value.{Value}
use Rattle.rp_ops.specs.Outcome.{Raises}
use Rattle.rp_access.specs.Lengths.{counted}
use Rattle.rp_access.proofs.Going.{IsEnd-same, raises_end}
use Rattle.rp_access.proofs.LengthCalls.{length_found}
use Rattle.rp_access.proofs.lengths.length_of.Goals as goal

pub returns-in-Some-clause-law : goal.returns-in-Some-clause-law
returns-in-Some-clause-law c = λ s.
    let fits : FitsSigned w64 c.in-Some.count = first_of (search rules, grind (arith, common_steps)) in
    length_found c.args.value.now (Some c.in-Some.count) s c.in-Some.ensures ∙ ap (λ (n : ℤ). counted (Some n) s) (sym (to_z-of_z w64 c.in-Some.count fits))

pub returns-in-None-clause-law : goal.returns-in-None-clause-law
unfolding chars
returns-in-None-clause-law c = λ s.
    let h : Raises c.raised.result (record { kind = TypeError; text = codes "len" }) = c.raised.ensures in
    IsEnd-same c.raised.result s _ _ (length_found c.args.value.now None s c.in-None.ensures)
    (raises_end Value c.raised.result (record { kind = TypeError; text = codes "len" }) s h)
