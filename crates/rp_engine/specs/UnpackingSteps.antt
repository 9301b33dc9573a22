-- What unpacking still does once elements are at hand, as the code has a function for it; each is a part of a form of rp_meaning.
use Rattle.std.specs.Prelude.{List, [], ◌∷◌}
use Rattle.rp_base.specs.declared.value.Value.{Value}
use Rattle.rp_frame.specs.Top.{top, below}
use Rattle.rp_meaning.specs.Frame.{Doing}
use Rattle.rp_meaning.specs.State.{done, on_next}
use Rattle.rp_meaning.specs.Statements.{Store, store_each}

-- to each place its element
abbrev pub each_stored : List Store → List Value → Doing
each_stored ds vs frame s = store_each ds vs frame s

-- the same, of the elements at hand, of which None stands for one that is missing
abbrev pub store_from : List Store → List Value → Doing
store_from [] vs frame s = done s
store_from (d ∷ ds) vs frame s = on_next (d (top vs) frame s) (store_from ds (below vs) frame)
