use Rattle.std.proofs.Common.{◌≡◌, OnOk, subst, List, ℕ}
use Rattle.rp_base.specs.Names.{word_of}
use Rattle.rp_print.proofs.Counts.{params_from}
use Rattle.rp_print.proofs.expressions.+expr.Goals as goal

pub write_params-returns : goal.write_params-returns
write_params-returns t c =
    subst (λ (page : List ℕ). OnOk c.write_starred-2.result (c.write_starred-2.new.page ≡ page))
    (params_from (word_of c.args.names.now) c.args.params.now c.deref.result.now c.args.page.now
    c.write_plain.new.page c.write_starred.new.page c.holds_no_plain.result c.holds_no_list.result
    c.deref.ensures.value c.in_ok-write_plain.ensures c.holds_no_plain.ensures c.in_ok-write_starred.ensures
    c.holds_no_list.ensures)
    c.write_starred-2.ensures
