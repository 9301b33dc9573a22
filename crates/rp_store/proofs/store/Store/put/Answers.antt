use Rattle.std.specs.Option.{option_and_then, option_map_or}
use Rattle.std.proofs.Common.{◌≡◌, ◌∙◌, ◌+◌, Some, ap, arith, sym}
use Rattle.rp_store.specs.Cost.{cell_if_new}
use Rattle.rp_store.specs.Heap.{changed_at, entry_at}
use Rattle.rp_store.specs.Key.{key_form}
use Rattle.rp_store.specs.Store.{grown}
use Rattle.rp_store.specs.Writers.{with_entry}
use Rattle.rp_store.proofs.HeapLemmas.{cell_held, ok_not_err}
use Rattle.rp_store.proofs.store.Store.put.Goals as goal

pub returns-in_default-set_entry-clause-put : goal.returns-in_default-set_entry-clause-put
returns-in_default-set_entry-clause-put c =
    let now = c.args.self.now in
    let form : Some c.in-Some.form ≡ key_form c.args.key = sym c.in-Some.ensures.form in
    let free : cell_if_new (entry_at now.heap c.args.at c.in-Some.form) ≡ 0 = cell_held _ c.in_default-set_entry.ensures.held in
    let used : now.used ≡ now.used + cell_if_new (entry_at now.heap c.args.at c.in-Some.form) = omega (arith, free) in
    c.in_default-set_entry.ensures.set c.args.key
    ∙ (λ j. record now { heap = changed_at now.heap c.args.at (with_entry c.in-Some.form c.args.key c.args.value); used = used j })
    ∙ (λ j. grown now c.args.at (λ o. option_map_or (λ key. with_entry key c.args.key c.args.value o) (form j) o) (cell_if_new (option_and_then (entry_at now.heap c.args.at) (form j))))

pub returns-in_default-set_entry-clause-cells : goal.returns-in_default-set_entry-clause-cells
returns-in_default-set_entry-clause-cells c =
    let now = c.args.self.now in
    let free : cell_if_new (option_and_then (entry_at now.heap c.args.at) (key_form c.args.key)) ≡ 0 =
    ap (λ form. cell_if_new (option_and_then (entry_at now.heap c.args.at) form)) c.in-Some.ensures.form ∙ cell_held _ c.in_default-set_entry.ensures.held in
    ((λ e. absurd (ok_not_err (tt {0}) _ e)), (λ over. absurd (omega (arith, free, over, c.in_default-set_entry.ensures.within))))
