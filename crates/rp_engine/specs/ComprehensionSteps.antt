-- What a comprehension still does once it stands in a part of it, as the code has functions for it; each is a part of its form of rp_meaning.
use Rattle.std.specs.Prelude.{◌≡◌, ℕ, List, [], length}
use Rattle.rp_base.specs.declared.value.Oid.{Oid}
use Rattle.rp_base.specs.declared.value.Value.{Value}
use Rattle.rp_base.specs.declared.value.Value.TheVariants as value
use Rattle.rp_frame.specs.declared.display.Display.{Display}
use Rattle.rp_frame.specs.declared.display.Display.TheVariants as kind
use Rattle.rp_frame.specs.declared.spot.Adds.{Adds}
use Rattle.rp_frame.specs.declared.spot.Adds.TheVariants as added
use Rattle.rp_frame.specs.declared.spot.Made.{Made}
use Rattle.rp_frame.specs.declared.spot.Made.TheVariants as made
use Rattle.rp_items.specs.Items as items
use Rattle.rp_meaning.specs.Expressions.{Clause, adds_element, adds_entry, empty_slots, nest, new_scope, turn}
use Rattle.rp_meaning.specs.Frame.{Doing, Meaning, layouts_of}
use Rattle.rp_meaning.specs.State.{charged, done, makes, plainly_done, with_change}
use Rattle.rp_meaning.specs.Walks.{each, walk}
use Rattle.rp_ops.specs.Outcome as plain
use Rattle.rp_ops.specs.Outcome.{gives, on_value}
use Rattle.rp_ops.specs.Walk.{Cursor}
use Rattle.rp_store.specs.Heap.{Owned}
use Rattle.rp_store.specs.Object as object
use Rattle.rp_store.specs.Object.{Content}
use Rattle.rp_store.specs.Writers.{pushed}
use Rattle.rp_engine.specs.Does as does

-- what is made, empty, and what is added to it
abbrev pub Result : Type 0
Result = Content × (Oid → Doing)

abbrev pub does_made : Made → Result
does_made (made.List x) = (object.list [], adds_element (does.expr x.now))
does_made (made.Dict k x) = (object.dict [], adds_entry (does.expr k.now) (does.expr x.now))

-- the display of what is made, and what is added to that at a place

abbrev pub display_of : Made → Display
display_of (made.List x) = kind.List
display_of (made.Dict k x) = kind.Dict

abbrev pub adds_at : Made → Oid → Adds
adds_at (made.List x) at = added.Element at x
adds_at (made.Dict k x) at = added.Entry at k x

-- the place of a value that is a plain reference
abbrev pub place_at : Value → Oid
place_at (value.Ref at) = at
place_at _ = record { 0 = 0 }

-- an element, or a key with its value, is added

abbrev pub element_added : Oid → Value → Doing
element_added at v frame s = charged 1 s (λ s. done (with_change at (pushed v) s))

abbrev pub entry_added : Oid → Value → Value → Doing
entry_added at k v frame s = plainly_done (items.set_item (value.Ref at) k v) s

-- nothing that stands there has items that are put
abbrev pub HasNoItems : List Owned → Oid → Type 0
HasNoItems heap at = (k v : Value) (s : plain.State) → s.store.heap ≡ heap → items.set_item (value.Ref at) k v s ≡ items.no_items s

-- the turns, in a scope of their own, and what was made then
abbrev pub turns_within : ℕ → Clause → List Clause → (Oid → Doing) → Cursor → Oid → Oid → Meaning
turns_within block c cs add w scope at frame s =
    on_value (each (turn c (nest cs (add at))) w (record frame { block = block; scope = scope }) s) (λ flow s. gives (value.Ref at) s)

-- once the scope is made
abbrev pub comprehension_in : ℕ → Clause → List Clause → Result → Cursor → Oid → Meaning
comprehension_in block c cs r w scope frame s = on_value (makes frame.side r.0 s) (λ at s. turns_within block c cs r.1 w scope at frame s)

-- once it walks
abbrev pub comprehension_over : ℕ → Clause → List Clause → Result → Cursor → Meaning
comprehension_over block c cs r w frame s =
    on_value (new_scope block frame (empty_slots (length ((layouts_of frame).locals block))) s) (λ scope s. comprehension_in block c cs r w scope frame s)

-- once it is known what the first clause goes over
abbrev pub comprehension_of : ℕ → Clause → List Clause → Result → Value → Meaning
comprehension_of block c cs r v frame s = on_value (walk v frame s) (λ w s. comprehension_over block c cs r w frame s)
