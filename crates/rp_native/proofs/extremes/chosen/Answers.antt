use Rattle.std.proofs.Common.{◌∷◌, List, ◌∙◌, subst, sym}
use Rattle.std.proofs.lemmas.List.Elements.{All-head, All-tail}
use Rattle.rp_base.specs.declared.value.Value.{Value}
use Rattle.rp_store.specs.Kept.{AreSound, IsSound}
use Rattle.rp_native.specs.Extremes.{before}
use Rattle.rp_native.proofs.Orders.{foremost-sound}
use Rattle.rp_native.proofs.extremes.chosen.Goals as goal

pub returns-clause-sound : goal.returns-clause-sound
returns-clause-sound c = λ heap all.
    let first = c.in-Some.first.now in
    let rest = c.in-Some.rest.now in
    let parts : AreSound heap (first ∷ rest) = subst (λ (vs : List Value). AreSound heap vs) c.in-Some.ensures.cases.0 all in
    subst (λ (v : Value). IsSound heap v) (sym (c.in_ok-copy.ensures ∙ c.foremost.ensures))
    (foremost-sound heap (before c.args.which) first rest (All-head (IsSound heap) first rest parts) (All-tail (IsSound heap) first rest parts))
