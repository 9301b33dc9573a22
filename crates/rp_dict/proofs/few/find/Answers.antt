use Rattle.std.proofs.Common.{◌∙◌, sym, ap}
use Rattle.std.specs.Option.{option_copied}
use Rattle.rp_dict.proofs.Pairs.{held, missing}
use Rattle.rp_dict.proofs.few.find.Goals as goal

pub returns-in_err-i : goal.returns-in_err-i
returns-in_err-i g c = ap option_copied c.from_residual.ensures ∙ sym (missing g.K.PartialEq.eq c.args.key.now c.args.pairs.now (sym c.in_err-i.ensures))

pub returns : goal.returns
returns g c = sym (held g.K.PartialEq.eq c.args.key.now c.args.pairs.now c.in_ok-i.i c.index-pairs-i.result (sym c.in_ok-i.ensures)).value
