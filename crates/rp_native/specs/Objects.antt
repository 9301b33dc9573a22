-- How built-in functions let a heap grow: what was there stays as it is, with its owner, and lists, tuples and dicts of the side are added.
use Rattle.std.specs.Prelude.{◌≡◌}
use Rattle.rp_base.specs.declared.value.Side.{Side}
use Rattle.rp_store.specs.Heap.{Owned}
use Rattle.rp_store.specs.Object.{Content, list, tuple, dict}

abbrev pub IsContainer : Content → Type 0
IsContainer (list elements) = Unit {0}
IsContainer (tuple elements) = Unit {0}
IsContainer (dict entries) = Unit {0}
IsContainer _ = ⊥

-- a list, a tuple or a dict of the side
abbrev pub IsContainerOf : Side → Owned → Type 0
IsContainerOf side o = (o.owner ≡ side) × IsContainer o.content
