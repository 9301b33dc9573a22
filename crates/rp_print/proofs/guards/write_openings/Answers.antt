use Rattle.std.proofs.Common.{◌-◌, arith}
use Rattle.rp_print.proofs.Counts.{openings_step}
use Rattle.rp_print.proofs.guards.write_openings.Goals as goal

pub trailers-preserved : goal.trailers-preserved
trailers-preserved c = (
  omega arith,
  openings_step c.trailers.page c.args.trailers.now (c.trailers.left - 1) c.trailers.left
      c.index-trailers-left.result
      (omega arith) (omega arith) c.index-trailers-left.is c.in_ok-write_opening.ensures c.trailers.invariant.1,
)
