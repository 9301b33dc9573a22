use Rattle.rp_native.specs.Objects.{IsContainerOf}
use Rattle.rp_native.proofs.Growths.{Gains-same}
use Rattle.rp_native.proofs.zips.zip.Goals as goal

pub returns-in_err-rows-clause-grown : goal.returns-in_err-rows-clause-grown
returns-in_err-rows-clause-grown c = Gains-same (IsContainerOf c.args.side) c.args.store.now.heap c.rows.new.store.heap c.in_err-rows.ensures.same
