use Rattle.std.proofs.Common.{List, sym, subst}
use Rattle.std.specs.List.{All}
use Rattle.rp_base.specs.declared.value.Rock.{Rock}
use Rattle.rp_base.specs.declared.value.Value.{Value}
use Rattle.rp_store.specs.Kept.{IsEntry, IsHeldBySome}
use Rattle.rp_store.specs.Object.{content_of}
use Rattle.rp_store.specs.declared.key.Key.{Key}
use Rattle.rp_store.specs.declared.object.Object.{Object}
use Rattle.rp_native.proofs.Entries.{entries-sound}
use Rattle.rp_native.proofs.copies.entries_copied.Goals as goal

pub returns-in_ok-copy-in-Dict-clause-sound : goal.returns-in_ok-copy-in-Dict-clause-sound
returns-in_ok-copy-in-Dict-clause-sound c =
    let heap = c.args.store.now.heap in
    subst (λ (es : List (Key × (Rock × Value))). All (IsEntry heap) es) (sym c.in_ok-copy-in-Dict.ensures)
    (entries-sound heap c.args.lent _ (subst (λ (o : Object). IsHeldBySome heap (content_of o)) c.in-Dict.is c.object.ensures.holds).holds)
