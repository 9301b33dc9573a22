-- The rows that the code holds in vectors.
use Rattle.std.specs.Prelude.{List, map}
use Rattle.std.specs.declared.alloc.Global.{Global}
use Rattle.std.specs.declared.vec.Vec.{Vec}
use Rattle.rp_base.specs.declared.value.Value.{Value}

abbrev pub rows_of : List (Vec Value Global) → List (List Value)
rows_of rows = map (λ row. row.items) rows
