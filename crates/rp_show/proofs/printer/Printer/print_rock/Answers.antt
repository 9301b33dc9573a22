use Rattle.std.proofs.Common.{◌≡◌, ℕ, List, ◌+◌, ◌++◌, arith, encode_utf8_all, length, sym, ap, ◌∙◌, subst}
use Rattle.rp_ops.specs.Outcome.{gives}
use Rattle.rp_show.specs.Show.{printed}
use Rattle.rp_show.specs.Shown.{shown_inside}
use Rattle.rp_show.specs.ShowView.{Room, Writes, added, cells_of, moment}
use Rattle.rp_show.proofs.Lines.{Writes-added, length-encodes, printed-fits}
use Rattle.rp_show.proofs.printer.Printer.print_rock.Goals as goal

longer : (before after : ℕ) (xs ys zs : List ℕ) → before ≡ length (encode_utf8_all xs) → after ≡ length (encode_utf8_all zs) → zs ≡ xs ++ ys
    → after ≡ before + length (encode_utf8_all ys)
longer before after xs ys zs e f g = omega (arith, e, f, ap (λ (l : List ℕ). length (encode_utf8_all l)) g, length-encodes xs ys)

pub overflow_sub-len : goal.overflow_sub-len
overflow_sub-len c =
    omega (arith, longer c.len-before.result c.len.result c.args.self.now.line (shown_inside c.args.rock.now) c.add_rock.new.self c.len-before.ensures c.len.ensures c.in_ok-add_rock.ensures)

pub returns-then-takes-clause-plain : goal.returns-then-takes-clause-plain
returns-then-takes-clause-plain c = λ heap steps.
    let line = c.args.self.now.line in
    let t = shown_inside c.args.rock.now in
    let yes = c.if-takes.true in
    let more = longer c.len-before.result c.len.result line t c.add_rock.new.self c.len-before.ensures c.len.ensures c.in_ok-add_rock.ensures in
    ap (added line)
    (printed-fits t (cells_of heap c.args.self.now.purse) (cells_of heap c.takes.new.self) steps _ (omega (arith, more)) (c.takes.ensures.within yes) (ap (cells_of heap) (c.takes.ensures.charged yes)))
    ∙ ap (λ (x : List ℕ). gives x (moment heap c.takes.new.self steps)) (sym c.in_ok-add_rock.ensures)

pub returns-clause-plain : goal.returns-clause-plain
returns-clause-plain c = λ heap steps.
    let line = c.args.self.now.line in
    let t = shown_inside c.args.rock.now in
    Writes-added c.charge_rock.result t line c.add_rock.new.self (moment heap c.charge_rock.new.purse steps) (printed t (moment heap c.args.self.now.purse steps)) c.in_ok-add_rock.ensures
    (subst (λ (r : Room). Writes c.charge_rock.result t (moment heap c.charge_rock.new.purse steps) (printed t (moment heap r steps)))
    (c.takes.ensures.same c.if-takes.false)
    (c.charge_rock.ensures.plain heap steps))
