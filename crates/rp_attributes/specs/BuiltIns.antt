-- The built-in methods of each kind of value, and how many arguments each takes (Python Standard Library, Built-in Types).
-- One table, in which a method is looked up by its name, and its counts by the method. Which methods there are is a rule
-- of our own.
use Rattle.std.specs.Prelude.{ℕ, nat_le, Bool, true, ◌&&◌, List, [], ◌∷◌, Option}
use Rattle.std.specs.Map.{lookup}
use Rattle.std.specs.Option.{option_map_or}
use denote.Enum.Bare.{sameb}
use Rattle.rp_base.specs.contracts.native.NativeId.{the_type}
use Rattle.rp_base.specs.declared.native.NativeId.{NativeId}
use Rattle.rp_base.specs.declared.native.NativeId.TheVariants as native
use Rattle.rp_base.specs.declared.value.Rock.{Rock}
use Rattle.rp_base.specs.declared.value.Rock.TheVariants as rock
use Rattle.rp_base.specs.declared.value.Value.{Value}
use Rattle.rp_base.specs.declared.value.Value.TheVariants as value
use Rattle.rp_store.specs.Heap.{Owned, content_at}
use Rattle.rp_store.specs.Object as object
use Rattle.rp_store.specs.Object.{Content}
use Rattle.rp_attributes.specs.declared.built_ins.Counts.{Counts}
use Rattle.rp_attributes.specs.declared.built_ins.Receiver.{Receiver}
use Rattle.rp_attributes.specs.declared.built_ins.Receiver.TheVariants as receiver

-- so many arguments, and from so many to so many
abbrev pub just : ℕ → Counts
just n = record { least = n; most = n }

abbrev pub between : ℕ → ℕ → Counts
between m n = record { least = m; most = n }

abbrev pub list_methods : List (NativeId × Counts)
list_methods =
    (native.Append, just 1) ∷ (native.Extend, just 1) ∷ (native.Insert, just 2) ∷ (native.Pop, between 0 1)
    ∷ (native.Remove, just 1) ∷ (native.Index, just 1) ∷ (native.Count, just 1) ∷ (native.Reverse, just 0) ∷ []

abbrev pub tuple_methods : List (NativeId × Counts)
tuple_methods = (native.Index, just 1) ∷ (native.Count, just 1) ∷ []

abbrev pub dict_methods : List (NativeId × Counts)
dict_methods =
    (native.Get, between 1 2) ∷ (native.Keys, just 0) ∷ (native.Values, just 0) ∷ (native.Items, just 0)
    ∷ (native.Pop, between 1 2) ∷ (native.SetDefault, between 1 2) ∷ (native.Update, just 1)
    ∷ (native.Copy, just 0) ∷ []

abbrev pub text_methods : List (NativeId × Counts)
text_methods =
    (native.Join, just 1) ∷ (native.Split, between 0 1) ∷ (native.Strip, just 0) ∷ (native.StartsWith, just 1)
    ∷ (native.EndsWith, just 1) ∷ (native.Find, just 1) ∷ (native.Replace, just 2) ∷ (native.Count, just 1)
    ∷ (native.IsDigit, just 0) ∷ []

-- the built-in methods of a kind, each with the counts that it takes
abbrev pub methods_of : Receiver → List (NativeId × Counts)
methods_of receiver.List = list_methods
methods_of receiver.Tuple = tuple_methods
methods_of receiver.Dict = dict_methods
methods_of receiver.Text = text_methods
methods_of receiver.Other = []

-- the counts that a method takes; none where such a receiver does not have it
abbrev pub counts_of : Receiver → NativeId → Option Counts
counts_of of id = lookup (λ m. sameb the_type m id) (methods_of of)

abbrev pub takes : Counts → ℕ → Bool
takes c n = nat_le c.least n && nat_le n c.most

-- whether a method takes so many arguments; one that the receiver does not have is refused whatever they are
abbrev pub method_takes : Receiver → NativeId → ℕ → Bool
method_takes of id n = option_map_or (λ c. takes c n) (counts_of of id) true

abbrev pub content_receiver : Content → Receiver
content_receiver (object.list xs) = receiver.List
content_receiver (object.tuple xs) = receiver.Tuple
content_receiver (object.dict es) = receiver.Dict
content_receiver c = receiver.Other

abbrev pub rock_receiver : Rock → Receiver
rock_receiver (rock.Text t) = receiver.Text
rock_receiver r = receiver.Other

-- the kind of a value, as far as it has built-in methods
abbrev pub receiver_of : List Owned → Value → Receiver
receiver_of heap (value.Rock r) = rock_receiver r
receiver_of heap (value.Ref at) = option_map_or content_receiver (content_at heap at) receiver.Other
receiver_of heap (value.Prox at) = option_map_or content_receiver (content_at heap at) receiver.Other
