use Rattle.std.proofs.Common.{List, ℕ, codes, sym, ap, ◌∙◌, subst, Err}
use Rattle.std.specs.Str.{chars}
use Rattle.std.proofs.lemmas.List.{nil_from_length}
use Rattle.rp_base.specs.declared.value.Value.{Value}
use Rattle.rp_ops.specs.Outcome.{Meets, Outcome, state_of}
use Rattle.rp_show.specs.Show.{followed, printed}
use Rattle.rp_show.specs.ShowView.{Writes, added}
use Rattle.rp_native.specs.Print.{argument, further, print_line}
use Rattle.rp_show.proofs.CallerLemmas.{alone, passes_on, stops}
use Rattle.rp_native.proofs.print.print_arguments.Goals as goal

pub returns-in_err-print_argument-clause-plain : goal.returns-in_err-print_argument-clause-plain
returns-in_err-print_argument-clause-plain c =
    let names = c.args.names.now in
    let e = c.in_err-print_argument.field-0.0 in
    let s = state_of c.args.store.now c.args.meter.now.left in
    let end = state_of c.print_argument.new.store c.print_argument.new.meter.left in
    let one = argument names c.in-Some.first.now s in
    let rest = further names c.in-Some.rest.now in
    let whole = print_line names c.args.args.now s in
    stops c.from_residual.result e c.print_argument.new.line end whole c.from_residual.ensures.1
    (subst (λ (o : Outcome (List ℕ)). Meets {A = List ℕ} (Err e) end o) (sym (ap (λ (vs : List Value). print_line names vs s) c.in-Some.ensures.cases.0))
    (passes_on e end one (λ t s. added t (rest s))
    (subst (λ (o : Outcome (List ℕ)). Meets {A = List ℕ} (Err e) end o) (alone c.args.line.now one c.requires.empty) c.in_err-print_argument.ensures.plain)))

pub returns-clause-plain : goal.returns-clause-plain
returns-clause-plain c =
    let names = c.args.names.now in
    let s = state_of c.args.store.now c.args.meter.now.left in
    let end = state_of c.print_further.new.store c.print_further.new.meter.left in
    let one = argument names c.in-Some.first.now s in
    let rest = further names c.in-Some.rest.now in
    subst (λ (o : Outcome (List ℕ)). Writes c.print_further.result c.print_further.new.line end o)
    (sym (ap (λ (vs : List Value). print_line names vs s) c.in-Some.ensures.cases.0
    ∙ ap (λ (o : Outcome (List ℕ)). followed o rest) (sym (alone c.args.line.now one c.requires.empty) ∙ c.in_ok-print_argument.ensures.plain)))
    c.print_further.ensures.plain

pub returns-in_default-clause-plain : goal.returns-in_default-clause-plain
unfolding chars
returns-in_default-clause-plain c =
    let steps = c.args.meter.now.left in
    let s = state_of c.args.store.now steps in
    let end = state_of c.print_text.new.store steps in
    subst (λ (o : Outcome (List ℕ)). Writes c.print_text.result c.print_text.new.line end o)
    (alone c.args.line.now (printed (codes "\n") s) c.requires.empty
    ∙ ap (λ (vs : List Value). print_line c.args.names.now vs s) (sym (nil_from_length c.args.args.now c.in_default.ensures.cases))) (c.print_text.ensures.plain steps)
