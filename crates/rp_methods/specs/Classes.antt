-- How methods let a heap go on: no class is made, and no object becomes one. Two heaps are compared whole; the code makes lists, tuples and dicts.
use Rattle.rp_base.specs.declared.value.Oid.{Oid}
use Rattle.rp_store.specs.Heap.{Owned, Names}
use Rattle.rp_store.specs.Parts.{IsClass}
use Rattle.std.specs.Prelude.{List}

-- each class stood there before
pub record AddsNoClass (old new : List Owned) : Type 0 where
  pub class : (at : Oid) → Names new IsClass at → Names old IsClass at
