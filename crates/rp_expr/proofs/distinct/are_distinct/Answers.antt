use Rattle.std.proofs.Common.{Bool, ap}
use Rattle.rp_grammar.proofs.Repeats.{sorted_rise}
use Rattle.rp_expr.proofs.Views.{to_some}
use Rattle.rp_expr.proofs.distinct.are_distinct.Goals as goal

pub returns : goal.returns
returns c =
    ap (λ (b : Bool). to_some b) (sorted_rise c.args.names.now c.in_ok-places.places.items _ _ _ c.in_ok-places.ensures c.in_ok-sort.ensures.permutation c.in_ok-sort.ensures.sorted c.deref.ensures.value c.do_rise.ensures)
