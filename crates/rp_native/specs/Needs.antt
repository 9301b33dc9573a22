-- Which operation is decided on an argument of a built-in function or method before it is done (zope.security, proxies): walking it, reading its entries,
-- its length or its truth, or showing it. `getattr` and `setattr` are decided as the forms that they stand for.
use Rattle.std.specs.Prelude.{ℕ, ◌==◌, nat_lt, ◌&&◌, Bool, Option, None, Some, if◌then◌else◌}
use Rattle.rp_base.specs.declared.native.NativeId.{NativeId}
use Rattle.rp_base.specs.declared.native.NativeId.TheVariants as native
use Rattle.rp_native.specs.Counts.{function_takes}
use Rattle.rp_native.specs.declared.need.Need.{Need}
use Rattle.rp_native.specs.declared.need.Need.TheVariants as need

-- the methods that decide something take one argument
abbrev pub takes : NativeId → ℕ → Bool
takes native.Extend count = count == 1
takes native.Join count = count == 1
takes native.Update count = count == 1
takes id count = function_takes id count

-- of each argument of a call with so many
abbrev pub need_of : NativeId → ℕ → Option Need
need_of native.Len count = Some need.Len
need_of native.Bool count = Some need.Bool
need_of native.Str count = Some need.Str
need_of native.Print count = Some need.Str
need_of native.Sum count = Some need.Iter
need_of native.Min count = if count == 1 then Some need.Iter else None
need_of native.Max count = if count == 1 then Some need.Iter else None
need_of native.Sorted count = Some need.Iter
need_of native.List count = Some need.Iter
need_of native.Tuple count = Some need.Iter
need_of native.Enumerate count = Some need.Iter
need_of native.Zip count = Some need.Iter
need_of native.Dict count = Some need.Items
need_of native.Extend count = Some need.Iter
need_of native.Join count = Some need.Iter
need_of native.Update count = Some need.Items
need_of _ count = None

-- what is decided on argument i of so many; nothing where so many are not taken
abbrev pub needs : NativeId → ℕ → ℕ → Option Need
needs id i count = if takes id count && nat_lt i count then need_of id count else None
