-- The built-in functions and methods of a run: those of rp_native and rp_methods (Python Standard Library, Built-in Functions, Built-in Types), and the words
-- that `getattr` and `setattr` take. The names are opaque where the machine is proved.
use Rattle.std.specs.Prelude.{ℕ, Bool, List, is_some, Option}
use Rattle.std.specs.Option.{option_map}
use Rattle.rp_base.specs.Identifier.{is_identifier_word}
use Rattle.rp_base.specs.declared.native.NativeId.{NativeId}
use Rattle.rp_base.specs.declared.value.Name.{Name}
use Rattle.rp_base.specs.declared.word.TheConstants.{BOOL, ITEMS, ITER, LEN, STR}
use Rattle.rp_meaning.specs.Frame.{Natives}
use Rattle.rp_attributes.specs.BuiltIns.{counts_of, receiver_of}
use Rattle.rp_methods.specs.Methods.{method}
use Rattle.rp_native.specs.Counts.{is_function}
use Rattle.rp_native.specs.Functions.{function}
use Rattle.rp_native.specs.Needs.{needs}
use Rattle.rp_native.specs.Print.{print_line}
use Rattle.rp_native.specs.declared.need.Need.{Need}
use Rattle.rp_native.specs.declared.need.Need.TheVariants as need

-- the name whose reading is decided where an argument is used so
abbrev pub need_name : Need → Name
need_name need.Iter = ITER
need_name need.Items = ITEMS
need_name need.Len = LEN
need_name need.Str = STR
need_name need.Bool = BOOL

-- on the i-th of so many arguments
abbrev pub name_needed : NativeId → ℕ → ℕ → Option Name
name_needed id i count = option_map need_name (needs id i count)

unfoldable pub natives : Natives
natives = record {
  is_function = is_function;
  is_method = λ heap receiver id. is_some (counts_of (receiver_of heap receiver) id);
  needs = name_needed;
  function = function;
  method = λ names owner receiver id vs s. method owner receiver id vs s;
  print_line = print_line;
}

-- the words that `getattr` and `setattr` take: identifiers in their form (UAX 31, UAX 15)
unfoldable pub is_attribute_word : List ℕ → Bool
is_attribute_word word = is_identifier_word word
