use Rattle.std.proofs.Common.{◌∙◌, sym, ap, position, Some}
use Rattle.rp_dict.proofs.Pairs.{has_key, held, missing, remove_entry-missing}
use Rattle.rp_dict.proofs.few.remove.Goals as goal

pub returns-in_err-i-clause-removed : goal.returns-in_err-i-clause-removed
returns-in_err-i-clause-removed g c = sym (remove_entry-missing g.K.PartialEq.eq c.args.key.now c.args.pairs.now.items (sym (c.in_err-i.ensures ∙ ap (position (has_key g.K.PartialEq.eq c.args.key.now)) c.as_slice.ensures.value)))

pub returns-in_err-i-clause-held : goal.returns-in_err-i-clause-held
returns-in_err-i-clause-held g c = c.from_residual.ensures ∙ sym (missing g.K.PartialEq.eq c.args.key.now c.args.pairs.now.items (sym (c.in_err-i.ensures ∙ ap (position (has_key g.K.PartialEq.eq c.args.key.now)) c.as_slice.ensures.value)))

pub returns-clause-removed : goal.returns-clause-removed
returns-clause-removed g c =
    c.remove-value.ensures.items ∙ sym (held g.K.PartialEq.eq c.args.key.now c.args.pairs.now.items c.in_ok-i.i c.remove-value.result (sym (c.in_ok-i.ensures ∙ ap (position (has_key g.K.PartialEq.eq c.args.key.now)) c.as_slice.ensures.value))).removed

pub returns-clause-held : goal.returns-clause-held
returns-clause-held g c =
    (λ j. Some (c.remove-value.ensures.value j).1)
    ∙ sym (held g.K.PartialEq.eq c.args.key.now c.args.pairs.now.items c.in_ok-i.i c.remove-value.result (sym (c.in_ok-i.ensures ∙ ap (position (has_key g.K.PartialEq.eq c.args.key.now)) c.as_slice.ensures.value))).value
