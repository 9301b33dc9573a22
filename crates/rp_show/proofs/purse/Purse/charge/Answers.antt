use Rattle.std.proofs.Common.{chars, length, sym, ap, subst}
use Rattle.std.proofs.lemmas.Str.{encodes-chars}
use Rattle.rp_show.specs.Show.{printed}
use Rattle.rp_show.specs.ShowView.{Room, Writes, cells_of, moment}
use Rattle.rp_show.proofs.Lines.{printed-fits}
use Rattle.rp_show.proofs.purse.Purse.charge.Goals as goal

pub returns-then-takes-clause-plain : goal.returns-then-takes-clause-plain
returns-then-takes-clause-plain c = λ heap steps.
    let t = c.args.text.now in
    let yes = c.if-takes.true in
    printed-fits (chars t) (cells_of heap c.args.self.now) (cells_of heap c.takes.new.self) steps _ (ap length (sym (encodes-chars t c.utf8.text))) (c.takes.ensures.within yes)
    (ap (cells_of heap) (c.takes.ensures.charged yes))

pub returns-clause-plain : goal.returns-clause-plain
returns-clause-plain c = λ heap steps.
    let t = chars c.args.text.now in
    subst (λ (r : Room). Writes c.charge_each.result t (moment heap c.charge_each.new.self steps) (printed t (moment heap r steps)))
    (c.takes.ensures.same c.if-takes.false)
    (c.charge_each.ensures.plain heap steps)
