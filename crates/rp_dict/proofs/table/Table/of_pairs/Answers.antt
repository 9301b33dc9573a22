use Rattle.std.proofs.Common.{ap}
use Rattle.indexmap.specs.IndexMap.{insert_entry}
use Rattle.rp_dict.proofs.Pairs.{insert_all-distinct}
use Rattle.rp_dict.proofs.table.Table.of_pairs.Goals as goal

pub returns-clause-hashed : goal.returns-clause-hashed
returns-clause-hashed g c =
    let all = insert_all-distinct g.met.K.Eq.laws c.args.pairs.now.items c.requires.distinct in
    rw (c.put.ensures.added, c.fill.ensures.all, c.replace.ensures.value, c.in_ok-map.ensures.empty)
    (ap (λ l. insert_entry g.K.PartialEq.eq l c.args.key c.args.value) all)
