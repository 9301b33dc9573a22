-- How many arguments the built-in functions take (Python Standard Library, Built-in Functions). The names of methods are no functions.
use Rattle.std.specs.Prelude.{ℕ, ◌==◌, nat_le, Bool, true, false, ◌&&◌, ◌||◌}
use Rattle.rp_base.specs.declared.native.NativeId.{NativeId}
use Rattle.rp_base.specs.declared.native.NativeId.TheVariants.{Len, Bool as BoolOf, Str, Int, Abs, Sum, Min, Max, Sorted, List, Tuple, Dict, Range, Enumerate, Zip, GetAttr, SetAttr, Print, RemoveSecurityProxy}

-- a function, and no method
abbrev pub is_function : NativeId → Bool
is_function Len = true
is_function BoolOf = true
is_function Str = true
is_function Int = true
is_function Abs = true
is_function Sum = true
is_function Min = true
is_function Max = true
is_function Sorted = true
is_function List = true
is_function Tuple = true
is_function Dict = true
is_function Range = true
is_function Enumerate = true
is_function Zip = true
is_function GetAttr = true
is_function SetAttr = true
is_function Print = true
is_function RemoveSecurityProxy = true
is_function _ = false

-- what is called with the values alone: not `getattr` and `setattr`, which stand for forms of the language, and not `print`, which writes a line. Who calls
-- the others does what these do
abbrev pub is_called_here : NativeId → Bool
is_called_here GetAttr = false
is_called_here SetAttr = false
is_called_here Print = false
is_called_here _ = true

-- a function takes so many arguments
abbrev pub function_takes : NativeId → ℕ → Bool
function_takes Len n = n == 1
function_takes BoolOf n = n == 1
function_takes Str n = n == 1
function_takes Int n = n == 1
function_takes Abs n = n == 1
function_takes Sum n = n == 1
function_takes Min n = nat_le 1 n
function_takes Max n = nat_le 1 n
function_takes Sorted n = n == 1
function_takes List n = nat_le n 1
function_takes Tuple n = nat_le n 1
function_takes Dict n = nat_le n 1
function_takes Range n = nat_le 1 n && nat_le n 3
function_takes Enumerate n = n == 1
function_takes Zip n = true
function_takes GetAttr n = (n == 2) || (n == 3)
function_takes SetAttr n = n == 3
function_takes Print n = true
function_takes RemoveSecurityProxy n = n == 1
function_takes _ n = false
