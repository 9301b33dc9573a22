use Rattle.rp_native.proofs.sorts.sorted_list.Goals as goal

pub new_container-requires-clause-holds : goal.new_container-requires-clause-holds
new_container-requires-clause-holds c = c.in_ok-values.ensures.sound c.args.store.now.heap c.requires.sound
