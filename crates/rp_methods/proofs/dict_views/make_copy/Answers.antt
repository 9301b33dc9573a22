use Rattle.std.proofs.Common.{ap, ◌∙◌}
use Rattle.rp_store.specs.Kept.{IsEntry}
use Rattle.rp_store.specs.Object as object
use Rattle.std.proofs.lemmas.List.Elements.{All-same}
use Rattle.rp_ops.specs.Outcome.{state_of}
use Rattle.rp_methods.specs.Dicts.{entries_of}
use Rattle.rp_methods.proofs.Made.{made-same}
use Rattle.rp_methods.proofs.NoClasses.{no_class-made}
use Rattle.rp_methods.proofs.dict_views.make_copy.Goals as goal

pub returns-clause-plain : goal.returns-clause-plain
returns-clause-plain c =
    let old = c.args.store.now in
    (λ steps. made-same c.new_object.result (state_of old steps) (state_of c.new_object.new.store steps) c.args.at c.owner-owner.result (object.dict c.in_ok-entries.entries)
    (object.dict (entries_of old.heap c.args.at)) c.owner-owner.ensures (ap object.dict (c.in_ok-entries.ensures ∙ c.dict_at.ensures.value)) (c.new_object.ensures.plain steps))

pub new_object-requires-clause-holds : goal.new_object-requires-clause-holds
new_object-requires-clause-holds c =
    All-same (IsEntry c.args.store.now.heap) c.in_ok-entries.entries c.dict_at.result.now c.in_ok-entries.ensures c.dict_at.ensures.sound

pub new_object-requires-clause-value : goal.new_object-requires-clause-value
new_object-requires-clause-value c = λ h. h

pub returns-clause-classes : goal.returns-clause-classes
returns-clause-classes c =
    no_class-made c.args.store.now c.new_object.new.store c.owner-owner.result c.new_object.result _ (λ h. h) c.new_object.ensures.made c.new_object.ensures.same
