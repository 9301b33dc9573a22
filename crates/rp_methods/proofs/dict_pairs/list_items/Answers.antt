use Rattle.std.proofs.Common.{List, false, ap, ◌∙◌}
use Rattle.std.proofs.lemmas.List.Elements.{All-same}
use Rattle.rp_base.specs.declared.value.Rock.{Rock}
use Rattle.rp_base.specs.declared.value.Value.{Value}
use Rattle.rp_store.specs.declared.key.Key.{Key}
use Rattle.rp_store.specs.Kept.{IsSound}
use Rattle.rp_ops.specs.Outcome.{state_of}
use Rattle.rp_ops.specs.View.{handed}
use Rattle.rp_methods.specs.Dicts.{pairs}
use Rattle.rp_methods.proofs.Made.{items-same}
use Rattle.rp_methods.proofs.Walked.{pairs-sound}
use Rattle.rp_methods.proofs.dict_pairs.list_items.Goals as goal

pub returns-clause-plain : goal.returns-clause-plain
returns-clause-plain c =
    let same = c.as_slice.ensures.value ∙ c.in_ok-entries.ensures ∙ ap (λ (es : List (Key × (Rock × Value))). pairs (λ v. v) es) c.dict_at.ensures.value in
    (λ steps. items-same c.list_pairs.result (state_of c.args.store.now steps) (state_of c.list_pairs.new.store steps) c.args.at c.owner-owner.result c.as_slice.result.now
    c.owner-owner.ensures same (c.list_pairs.ensures.plain steps))

pub list_pairs-requires : goal.list_pairs-requires
list_pairs-requires c =
    let heap = c.args.store.now.heap in
    All-same (λ (e : Rock × Value). IsSound heap e.1) c.as_slice.result.now (pairs (handed false) c.dict_at.result.now) (c.as_slice.ensures.value ∙ c.in_ok-entries.ensures)
    (pairs-sound heap false c.dict_at.result.now c.dict_at.ensures.sound)
