use Rattle.std.proofs.Common.{subst, sym}
use Rattle.std.specs.List.{All}
use Rattle.rp_base.specs.declared.value.Rock.{Rock}
use Rattle.rp_base.specs.declared.value.Value.{Value}
use Rattle.rp_store.specs.Kept.{IsSound}
use Rattle.rp_store.specs.Store.{Cells}
use Rattle.rp_methods.proofs.dict_pairs.list_pairs.Goals as goal

pub make_pairs-requires : goal.make_pairs-requires
make_pairs-requires c =
    subst (λ (s : Cells). All (λ (e : Rock × Value). IsSound s.heap e.1) c.args.entries.now) (sym c.in_ok-charge_copies.ensures.charged) c.requires
