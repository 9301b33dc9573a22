use Rattle.std.proofs.Common.{arith}
use Rattle.rp_print.proofs.page.Page.deeper.Goals as goal

pub overflow_add-inner : goal.overflow_add-inner
overflow_add-inner c = omega (arith, c.in_ok-reserve.ensures.ok, c.reserve.new.self.bytes.small)
