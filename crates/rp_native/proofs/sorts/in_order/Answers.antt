use Rattle.std.proofs.Common.{◌≡◌, false}
use Rattle.std.specs.List.{list_all}
use Rattle.rp_native.specs.Extremes.{is_text}
use Rattle.rp_native.specs.Walked.{are_numbers}
use Rattle.rp_native.proofs.ValueOrders.{texts-left}
use Rattle.rp_native.proofs.sorts.in_order.Goals as goal

pub texts_in_order-requires : goal.texts_in_order-requires
texts_in_order-requires c =
    let vs = c.args.values.items in
    let none : are_numbers vs ≡ false = cc in
    record { texts = texts-left (are_numbers vs) (list_all is_text vs) c.requires.ordered none }
