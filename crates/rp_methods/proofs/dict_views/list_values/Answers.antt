use Rattle.std.proofs.Common.{List, map, ap, ◌∙◌}
use Rattle.rp_base.specs.declared.value.Rock.{Rock}
use Rattle.rp_base.specs.declared.value.Value.{Value}
use Rattle.rp_store.specs.Object as object
use Rattle.rp_store.specs.declared.key.Key.{Key}
use Rattle.rp_ops.specs.Outcome.{state_of}
use Rattle.rp_methods.specs.Dicts.{entries_of}
use Rattle.rp_methods.proofs.Made.{made-same}
use Rattle.rp_methods.proofs.Walked.{AreSound-values}
use Rattle.rp_methods.proofs.NoClasses.{no_class-made}
use Rattle.rp_methods.proofs.dict_views.list_values.Goals as goal

pub returns-clause-plain : goal.returns-clause-plain
returns-clause-plain c =
    let old = c.args.store.now in
    let seen : Key × (Rock × Value) → Value = (λ e. e.1.1) in
    (λ steps. made-same c.new_object.result (state_of old steps) (state_of c.new_object.new.store steps) c.args.at c.owner-owner.result (object.list c.in_ok-values.values.items)
    (object.list (map seen (entries_of old.heap c.args.at))) c.owner-owner.ensures
    (ap object.list (c.in_ok-values.ensures ∙ ap (λ (es : List (Key × (Rock × Value))). map seen es) c.dict_at.ensures.value)) (c.new_object.ensures.plain steps))

pub new_object-requires-clause-holds : goal.new_object-requires-clause-holds
new_object-requires-clause-holds c = AreSound-values c.args.store.now.heap c.dict_at.result.now c.in_ok-values.values.items c.in_ok-values.ensures c.dict_at.ensures.sound

pub new_object-requires-clause-value : goal.new_object-requires-clause-value
new_object-requires-clause-value c = λ h. h

pub returns-clause-classes : goal.returns-clause-classes
returns-clause-classes c =
    no_class-made c.args.store.now c.new_object.new.store c.owner-owner.result c.new_object.result _ (λ h. h) c.new_object.ensures.made c.new_object.ensures.same
