use Rattle.std.proofs.Common.{rules}
use Rattle.rp_dict.proofs.Pairs.{insert_entry-missing}
use Rattle.rp_dict.proofs.few.push.Goals as goal

pub returns-clause-pushed : goal.returns-clause-pushed
returns-clause-pushed g c = rw (insert_entry-missing g.K.PartialEq.eq c.args.key c.args.pairs.now.items c.args.value c.requires) (search rules)
