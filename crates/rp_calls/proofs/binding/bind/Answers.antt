use Rattle.rp_calls.specs.Binding.{has_dict, plain}
use Rattle.rp_calls.proofs.Sound.{entries-sound, slots-sound}
use Rattle.rp_calls.proofs.binding.bind.Goals as goal

pub with_stars-requires-clause-entries : goal.with_stars-requires-clause-entries
with_stars-requires-clause-entries c =
    entries-sound c.args.store.now.heap (has_dict c.args.params.now) c.args.names.now (plain c.args.params.now) c.args.named.now c.in_ok-entries.field-0 c.in-Some-2.entries
    c.in_ok-entries.ensures c.in-Some-2.is c.requires.named

pub with_stars-requires-clause-slots : goal.with_stars-requires-clause-slots
with_stars-requires-clause-slots c =
    slots-sound c.args.store.now.heap c.args.names.now c.as_slice-plain.result.now c.args.args.now c.defaults_of-defaults.result.now c.args.named.now c.in_ok-slots.field-0
    c.in-Some.slots c.in_ok-slots.ensures c.in-Some.is c.requires.args c.defaults_of-defaults.ensures.sound c.requires.named
