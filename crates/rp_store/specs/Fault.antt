-- What a fault of the store ends.
use Rattle.rp_base.specs.declared.value.OpEnd.{OpEnd}
use Rattle.rp_base.specs.declared.value.OpEnd.TheVariants as end
use Rattle.rp_store.specs.declared.store.StoreFault.{StoreFault}
use Rattle.rp_store.specs.declared.store.StoreFault.TheVariants as fault

abbrev pub end_of : StoreFault → OpEnd
end_of fault.Cells = end.StopCells
end_of fault.Memory = end.Memory
