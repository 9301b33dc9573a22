use Rattle.std.proofs.Common.{◌∙◌, sym, ap, position, refl, Some, slice_set}
use Rattle.std.specs.Option.{option_map}
use Rattle.rp_dict.proofs.Pairs.{has_key, held, missing, second_held, with_second-missing}
use Rattle.rp_dict.proofs.few.set_second.Goals as goal

pub returns-in-Some-clause-set : goal.returns-in-Some-clause-set
returns-in-Some-clause-set g c =
    (λ j. slice_set c.args.pairs.now.items c.in-Some.i ((c.index_mut-pair.ensures.value j).0, ((c.index_mut-pair.ensures.value j).1.0, c.replace.ensures.after j)))
    ∙ sym (second_held g.K.PartialEq.eq c.args.key.now c.args.value c.args.pairs.now.items c.in-Some.i c.index_mut-pair.result.now (sym (c.in-Some.ensures ∙ ap (position (has_key g.K.PartialEq.eq c.args.key.now)) c.as_slice.ensures.value)))

pub returns-in-Some-clause-held : goal.returns-in-Some-clause-held
returns-in-Some-clause-held g c =
    ap (option_map (λ pair. pair.1)) (held g.K.PartialEq.eq c.args.key.now c.args.pairs.now.items c.in-Some.i c.index_mut-pair.result.now (sym (c.in-Some.ensures ∙ ap (position (has_key g.K.PartialEq.eq c.args.key.now)) c.as_slice.ensures.value))).value
    ∙ sym (λ j. Some (c.index_mut-pair.ensures.value j).1.1) ∙ sym (λ j. Some (c.replace.ensures.value j))

pub returns-in-None-clause-absent : goal.returns-in-None-clause-absent
returns-in-None-clause-absent g c = (refl, missing g.K.PartialEq.eq c.args.key.now c.args.pairs.now.items (sym (c.in-None.ensures ∙ ap (position (has_key g.K.PartialEq.eq c.args.key.now)) c.as_slice.ensures.value)))

pub returns-in-None-clause-set : goal.returns-in-None-clause-set
returns-in-None-clause-set g c =
    sym (with_second-missing (g.K.PartialEq.eq c.args.key.now) c.args.value c.args.pairs.now.items (missing g.K.PartialEq.eq c.args.key.now c.args.pairs.now.items (sym (c.in-None.ensures ∙ ap (position (has_key g.K.PartialEq.eq c.args.key.now)) c.as_slice.ensures.value))))
