-- Calls of built-in methods, by the receiver and the name (Python Standard Library, Built-in Types). The count of the arguments is tested first.
use Rattle.std.specs.Prelude.{ℕ, List, length, Option, Some, None, if◌then◌else◌}
use Rattle.std.specs.Option.{option_map_or}
use Rattle.rp_base.specs.declared.native.NativeId.{NativeId}
use Rattle.rp_base.specs.declared.value.Oid.{Oid}
use Rattle.rp_base.specs.declared.value.Rock.{Rock}
use Rattle.rp_base.specs.declared.value.Rock.TheVariants as rock
use Rattle.rp_base.specs.declared.value.Side.{Side}
use Rattle.rp_base.specs.declared.value.Value.{Value}
use Rattle.rp_base.specs.declared.value.Value.TheVariants as value
use Rattle.rp_store.specs.Heap.{content_at}
use Rattle.rp_store.specs.Object as object
use Rattle.rp_store.specs.Object.{Content}
use Rattle.rp_ops.specs.Outcome.{State, Outcome}
use Rattle.rp_attributes.specs.BuiltIns.{counts_of, receiver_of, takes}
use Rattle.rp_attributes.specs.declared.built_ins.Counts.{Counts}
use Rattle.rp_methods.specs.Dicts.{dict_method}
use Rattle.rp_methods.specs.Faults.{no_method, wrong_arguments}
use Rattle.rp_methods.specs.Lists.{list_method, tuple_method}
use Rattle.rp_methods.specs.Texts.{text_method}

abbrev pub content_method : Oid → Content → NativeId → List Value → State → Outcome Value
content_method at (object.list xs) id args s = list_method at id args s
content_method at (object.tuple xs) id args s = tuple_method at id args s
content_method at (object.dict es) id args s = dict_method at id args s
content_method at c id args s = no_method s

abbrev pub object_method : Oid → NativeId → List Value → State → Outcome Value
object_method at id args s = option_map_or (λ c. content_method at c id args s) (content_at s.store.heap at) (no_method s)

abbrev pub rock_method : Side → Rock → NativeId → List Value → State → Outcome Value
rock_method side (rock.Text t) id args s = text_method side t id args s
rock_method side r id args s = no_method s

-- the method, whatever the count of its arguments
abbrev pub method_of : Side → Value → NativeId → List Value → State → Outcome Value
method_of side (value.Rock r) id args s = rock_method side r id args s
method_of side (value.Ref at) id args s = object_method at id args s
method_of side (value.Prox at) id args s = object_method at id args s

-- goes on where the receiver has the method, and it takes so many arguments
abbrev pub checked : Option Counts → ℕ → State → (State → Outcome Value) → Outcome Value
checked None n s go = no_method s
checked (Some c) n s go = if takes c n then go s else wrong_arguments s

-- a method of a receiver; what a method of a text makes is the side's
abbrev pub method : Side → Value → NativeId → List Value → State → Outcome Value
method side receiver id args s = checked (counts_of (receiver_of s.store.heap receiver) id) (length args) s (method_of side receiver id args)
