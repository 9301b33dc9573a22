use Rattle.std.proofs.Common.{◌≡◌, Err, ◌∷◌, ◌+◌, List, ℕ, arith, codes, drop, sym, ap, ◌∙◌, subst}
use Rattle.std.specs.Str.{chars}
use Rattle.std.proofs.lemmas.List.{drop_all}
use Rattle.rp_base.specs.declared.value.Value.{Value}
use Rattle.rp_store.proofs.CallerLemmas.{KeepsCounters-trans}
use Rattle.rp_ops.specs.Outcome.{Meets, Outcome, state_of}
use Rattle.rp_show.specs.Show.{followed, printed}
use Rattle.rp_show.specs.ShowView.{Writes, added}
use Rattle.rp_native.specs.Print.{argument, further}
use Rattle.rp_show.proofs.CallerLemmas.{on_ok, passes, stops}
use Rattle.rp_base.proofs.CallerLemmas.{drop_here}
use Rattle.rp_native.proofs.print.print_further.Goals as goal

pub loop-value-preserved : goal.loop-value-preserved
loop-value-preserved c =
    let names = c.args.names.now in
    let l = c.loop-value in
    let vs = c.args.args.now in
    let i = l.value-index in
    let v = c.value-item.result in
    let s = state_of l.store l.meter.left in
    let end = state_of c.print_behind.new.store c.print_behind.new.meter.left in
    let first : drop i vs ≡ v ∷ drop (i + 1) vs = drop_here vs i v (omega arith) c.value-item.is in (
      l.invariant.0
          ∙ ap (λ (ws : List Value). added l.line (further names ws s)) first
          ∙ on_ok l.line c.print_behind.new.line end (followed (printed (codes " ") s) (argument names v)) (further names (drop (i + 1) vs)) c.in_ok-print_behind.ensures.plain,
      c.in_ok-print_behind.ensures.same ∙ l.invariant.1,
      omega (arith, c.in_ok-print_behind.ensures.fewer, l.invariant.2),
      KeepsCounters-trans c.args.store.now l.store c.print_behind.new.store l.invariant.3 c.in_ok-print_behind.ensures.counters,
    )

pub returns-in_err-print_behind-clause-plain : goal.returns-in_err-print_behind-clause-plain
returns-in_err-print_behind-clause-plain c =
    let names = c.args.names.now in
    let l = c.loop-value in
    let vs = c.args.args.now in
    let i = l.value-index in
    let v = c.value-item.result in
    let e = c.in_err-print_behind.field-0.0 in
    let s = state_of l.store l.meter.left in
    let end = state_of c.print_behind.new.store c.print_behind.new.meter.left in
    let one = followed (printed (codes " ") s) (argument names v) in
    let first : drop i vs ≡ v ∷ drop (i + 1) vs = drop_here vs i v (omega arith) c.value-item.is in
    let whole = added c.args.line.now (further names vs (state_of c.args.store.now c.args.meter.now.left)) in
    stops c.from_residual.result e c.print_behind.new.line end whole c.from_residual.ensures.1
    (subst (λ (o : Outcome (List ℕ)). Meets {A = List ℕ} (Err e) end o) (sym (l.invariant.0 ∙ ap (λ (ws : List Value). added l.line (further names ws s)) first))
    (passes e l.line end one (further names (drop (i + 1) vs)) c.in_err-print_behind.ensures.plain))

pub returns-clause-plain : goal.returns-clause-plain
unfolding chars
returns-clause-plain c =
    let names = c.args.names.now in
    let l = c.loop-value in
    let vs = c.args.args.now in
    let s = state_of l.store l.meter.left in
    let none : further names (drop l.value-index vs) s ≡ printed (codes "\n") s = ap (λ (ws : List Value). further names ws s) (drop_all l.value-index vs (omega arith)) in
    subst (λ (o : Outcome (List ℕ)). Writes c.print_text.result c.print_text.new.line (state_of c.print_text.new.store l.meter.left) o)
    (sym (l.invariant.0 ∙ ap (added l.line) none)) (c.print_text.ensures.plain l.meter.left)

pub returns-clause-same : goal.returns-clause-same
returns-clause-same c = c.print_text.ensures.same ∙ c.loop-value.invariant.1
