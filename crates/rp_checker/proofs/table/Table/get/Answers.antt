use Rattle.std.proofs.Common.{rules, Some, sym, ap, ◌∙◌}
use Rattle.std.proofs.lemmas.List.Sorted.{answers_always}
use Rattle.rp_checker.proofs.Lookups.{lookup-at, lookup-missing}
use Rattle.rp_checker.proofs.table.Table.get.Goals as goal

pub returns-in-Ok : goal.returns-in-Ok
returns-in-Ok g c =
    let found = c.in-Ok.ensures.position (λ e. e.0) (answers_always _ _ _ (λ f a r f' called. search rules)) in
    let here = rw c.deref.ensures.value at found in
    let within = rw c.deref.ensures.value at c.in-Ok.ensures.bound in
    let only = lookup-at c.self.inside.pairs.items c.in-Ok.place c.index.result.now c.args.name within (here c.index.result.now) c.self.invariant in
    rw (← c.self.view_is) (ap (λ e. Some e.1) c.index.ensures ∙ sym only)

pub returns-in-Err : goal.returns-in-Err
returns-in-Err g c =
    let missing = c.in-Err.ensures.position (λ e. e.0) (answers_always _ _ _ (λ f a r f' called. search rules)) in
    let parts = rw c.deref.ensures.value at missing in
    rw (← c.self.view_is) (sym (lookup-missing c.self.inside.pairs.items c.in-Err.field-0 c.args.name parts c.self.invariant))
