use Rattle.std.proofs.Common.{◌≡◌, None, sym, ◌∙◌}
use Rattle.rp_store.specs.Heap.{field_at}
use Rattle.rp_ops.specs.Outcome.{state_of}
use Rattle.rp_base.specs.Names.{word_of}
use Rattle.rp_attributes.proofs.Places.{del_at-missing, written-missing}
use Rattle.rp_ops.proofs.CallerLemmas.{Meets-raised}
use Rattle.rp_base.proofs.CallerLemmas.{is_none-None}
use Rattle.rp_attributes.proofs.attribute_writers.del_at.Goals as goal

pub returns-then-is_none-clause-plain : goal.returns-then-is_none-clause-plain
returns-then-is_none-clause-plain c =
    let old = c.args.store.now in
    let none : field_at old.heap c.args.at c.args.name ≡ None = sym c.drop_field-dropped.ensures.value ∙ is_none-None _ c.is_none.result c.is_none.ensures c.if-is_none.true in
    let same = c.no_attribute-then-is_none.ensures.same ∙ c.drop_field-dropped.ensures.dropped ∙ written-missing c.args.name old c.args.at none in
    (λ steps. Meets-raised c.no_attribute-then-is_none.result _ old c.no_attribute-then-is_none.new.store steps _ c.no_attribute-then-is_none.ensures.raises same
    (del_at-missing c.args.at c.args.name (word_of c.args.names.now c.args.name) (state_of old steps) none))

pub returns-then-is_none-clause-same : goal.returns-then-is_none-clause-same
returns-then-is_none-clause-same c =
    let old = c.args.store.now in
    let none : field_at old.heap c.args.at c.args.name ≡ None = sym c.drop_field-dropped.ensures.value ∙ is_none-None _ c.is_none.result c.is_none.ensures c.if-is_none.true in
    c.no_attribute-then-is_none.ensures.same ∙ c.drop_field-dropped.ensures.dropped ∙ written-missing c.args.name old c.args.at none
