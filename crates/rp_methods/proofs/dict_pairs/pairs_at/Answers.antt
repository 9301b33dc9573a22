use Rattle.std.proofs.Common.{List, sym, subst}
use Rattle.std.specs.List.{All}
use Rattle.rp_base.specs.declared.value.Rock.{Rock}
use Rattle.rp_base.specs.declared.value.Value.{Value}
use Rattle.rp_store.specs.Kept.{IsHeldBySome, IsSound}
use Rattle.rp_store.specs.Object.{content_of}
use Rattle.rp_store.specs.declared.object.Object.{Object}
use Rattle.rp_methods.proofs.Walked.{pairs-sound}
use Rattle.rp_methods.proofs.dict_pairs.pairs_at.Goals as goal

pub returns-in_ok-pairs-in-Dict-clause-sound : goal.returns-in_ok-pairs-in-Dict-clause-sound
returns-in_ok-pairs-in-Dict-clause-sound c =
    let heap = c.args.store.now.heap in
    subst (λ (es : List (Rock × Value)). All (λ (e : Rock × Value). IsSound heap e.1) es) (sym c.in_ok-pairs-in-Dict.ensures)
    (pairs-sound heap c.args.lent _ (subst (λ (o : Object). IsHeldBySome heap (content_of o)) c.in-Dict.is c.object.ensures.holds).holds)
