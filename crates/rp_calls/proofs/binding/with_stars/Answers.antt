use Rattle.rp_store.proofs.CallerLemmas.{KeepsShape-trans}
use Rattle.rp_calls.proofs.binding.with_stars.Goals as goal

pub returns-clause-shape : goal.returns-clause-shape
returns-clause-shape c = KeepsShape-trans c.args.store.now.heap c.with_list.new.store.heap c.with_dict.new.store.heap c.with_list.ensures.shape c.with_dict.ensures.shape
