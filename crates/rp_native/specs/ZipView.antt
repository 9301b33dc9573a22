-- What the code of `zip` answers, beside the walks that it has moved.
use Rattle.std.specs.Prelude.{List, Result, Ok, Err}
use Rattle.std.specs.declared.alloc.Global.{Global}
use Rattle.std.specs.declared.vec.Vec.{Vec}
use Rattle.rp_base.specs.declared.value.OpEnd.{OpEnd}
use Rattle.rp_base.specs.declared.value.Value.{Value}
use Rattle.rp_ops.specs.Walk.{Cursor}
use Rattle.rp_native.specs.TableView.{rows_of}

abbrev pub element_given : Cursor → Result Value OpEnd → Result (Value × Cursor) OpEnd
element_given c (Ok v) = Ok (v, c)
element_given c (Err e) = Err e

abbrev pub row_given : List Cursor → Result (Vec Value Global) OpEnd → Result (List Value × List Cursor) OpEnd
row_given cs (Ok row) = Ok (row.items, cs)
row_given cs (Err e) = Err e

abbrev pub rows_given : Result (Vec (Vec Value Global) Global) OpEnd → Result (List (List Value)) OpEnd
rows_given (Ok rows) = Ok (rows_of rows.items)
rows_given (Err e) = Err e

abbrev pub walks_given : Result (Vec Cursor Global) OpEnd → Result (List Cursor) OpEnd
walks_given (Ok walks) = Ok walks.items
walks_given (Err e) = Err e
