use Rattle.std.proofs.Common.{◌≡◌, ℕ, List, ◌++◌, Err, chars, sym, ap, ◌∙◌, subst}
use Rattle.rp_store.specs.Object.{content_of}
use Rattle.rp_ops.specs.Outcome.{Meets, Outcome}
use Rattle.rp_show.specs.Show.{printed}
use Rattle.rp_show.specs.ShowView.{Writes, added, closing, moment, named_text, opening, word_in}
use Rattle.rp_show.proofs.Marks.{chars-closing, chars-opening}
use Rattle.rp_show.proofs.Lines.{stops, three-first, three-on, three-second}
use Rattle.rp_show.proofs.object_names.print_named.Goals as goal

-- the three texts as they are printed
same : (a b w v c d : List ℕ) → a ≡ b → w ≡ v → c ≡ d → a ++ w ++ c ≡ b ++ v ++ d
same a b w v c d e f g = ap (λ (x : List ℕ). x ++ w ++ c) e ∙ ap (λ (x : List ℕ). b ++ x ++ c) f ∙ ap (λ (x : List ℕ). b ++ v ++ x) g

pub returns-in_err-print-clause-plain : goal.returns-in_err-print-clause-plain
returns-in_err-print-clause-plain c = λ steps.
    let heap = c.args.store.now.heap in
    let f = c.in_err-print.field-0.0 in
    let s = moment heap c.args.printer.now.purse steps in
    let end = moment heap c.print.new.self.purse steps in
    let line = c.args.printer.now.line in
    let content = content_of c.args.object.now in
    stops c.from_residual.result f c.print.new.self.line end (added line (printed (named_text c.args.names.now heap content) s)) c.from_residual.ensures.1
    (three-first f line (opening content) (word_in c.args.names.now heap content) (closing content) end s
    (subst (λ (t : List ℕ). Meets {A = List ℕ} (Err f) end (added line (printed t s))) (ap chars c.opening.ensures ∙ chars-opening (content_of c.args.object.now)) (c.in_err-print.ensures.plain heap steps)))

pub returns-in_err-print-2-clause-plain : goal.returns-in_err-print-2-clause-plain
returns-in_err-print-2-clause-plain c = λ steps.
    let heap = c.args.store.now.heap in
    let f = c.in_err-print-2.field-0.0 in
    let s = moment heap c.args.printer.now.purse steps in
    let middle = moment heap c.print.new.self.purse steps in
    let end = moment heap c.print-2.new.self.purse steps in
    let line = c.args.printer.now.line in
    let content = content_of c.args.object.now in
    let word = word_in c.args.names.now heap content in
    stops c.from_residual-in_err-print-2.result f c.print-2.new.self.line end (added line (printed (named_text c.args.names.now heap content) s)) c.from_residual-in_err-print-2.ensures.1
    (subst (λ (t : List ℕ). Meets {A = List ℕ} (Err f) end (added line (printed (t ++ word ++ closing content) s))) (ap chars c.opening.ensures ∙ chars-opening (content_of c.args.object.now))
    (subst (λ (t : List ℕ). Meets {A = List ℕ} (Err f) end (added line (printed (chars c.opening.result.now ++ t ++ closing content) s))) c.word_in.ensures
    (three-second f line c.print.new.self.line (chars c.opening.result.now) (chars c.word_in.result.now) (closing content) s middle end (c.in_ok-print.ensures.plain heap steps) (c.in_err-print-2.ensures.plain heap steps))))

pub returns-clause-plain : goal.returns-clause-plain
returns-clause-plain c = λ steps.
    let heap = c.args.store.now.heap in
    let s = moment heap c.args.printer.now.purse steps in
    let line = c.args.printer.now.line in
    let content = content_of c.args.object.now in
    subst (λ (o : Outcome (List ℕ)). Writes c.print-3.result c.print-3.new.self.line (moment heap c.print-3.new.self.purse steps) o)
    (sym (three-on line c.print.new.self.line c.print-2.new.self.line (chars c.opening.result.now) (chars c.word_in.result.now) (chars c.closing.result.now) s (moment heap c.print.new.self.purse steps)
    (moment heap c.print-2.new.self.purse steps) (c.in_ok-print.ensures.plain heap steps) (c.in_ok-print-2.ensures.plain heap steps))
    ∙ ap (λ (t : List ℕ). added line (printed t s))
    (same (chars c.opening.result.now) (opening content) (chars c.word_in.result.now) (word_in c.args.names.now heap content) (chars c.closing.result.now) (closing content) (ap chars c.opening.ensures ∙ chars-opening (content_of c.args.object.now)) c.word_in.ensures (ap chars c.closing.ensures ∙ chars-closing (content_of c.args.object.now))))
    (c.print-3.ensures.plain heap steps)
