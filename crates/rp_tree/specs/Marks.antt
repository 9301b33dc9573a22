-- The guard marks of a tree: which one stands at each site, taking all of them off, and setting them
-- (RestrictedPython, transformer).
use Rattle.std.specs.Prelude.{◌≡◌, Option, Some, None}
use Rattle.rp_tree.specs.declared.parts.Guard.{Guard}
use Rattle.rp_tree.specs.declared.parts.Guard.TheVariants.{GetAttr, GetItem, Write, GetIter, Unpack, IterUnpack, Apply, Inplace}
use Rattle.rp_tree.specs.StatementTrees.{Stmts}
use Rattle.rp_tree.specs.Maps.{Site, Change, map_stmts, attribute_read, item_read, slice_read, plain_call, star_call, attribute_stored, item_stored, walk_to_place, walk_to_group, unpacking, inplace_name, inplace_part}

-- the guard that a form is handed to. RestrictedPython refuses an augmented assignment to an attribute or an item, so that
-- it has none of its own; the attribute or the item itself is stored to.
abbrev pub guard_at : Site → Option Guard
guard_at attribute_read = Some GetAttr
guard_at item_read = Some GetItem
guard_at slice_read = Some GetItem
guard_at plain_call = None
guard_at star_call = Some Apply
guard_at attribute_stored = Some Write
guard_at item_stored = Some Write
guard_at walk_to_place = Some GetIter
guard_at walk_to_group = Some IterUnpack
guard_at unpacking = Some Unpack
guard_at inplace_name = Some Inplace
guard_at inplace_part = None

-- no marks
abbrev pub no_marks : {A : Type 0} → Change A A
no_marks = record { name = λ n. n; line = λ l. l; block = λ k. k; mark = λ x g. None }

-- the marks of the table
abbrev pub table : {A : Type 0} → Change A A
table = record { name = λ n. n; line = λ l. l; block = λ k. k; mark = λ x g. guard_at x }

-- a tree with all marks off
abbrev pub erase : {A : Type 0} → Stmts A → Stmts A
erase = map_stmts no_marks

-- a tree with the mark of the table at each site, and none where the table gives none
abbrev pub guard : {A : Type 0} → Stmts A → Stmts A
guard = map_stmts table

-- a tree that has no mark: there is nothing to take off
abbrev pub HasNoGuards : {A : Type 0} → Stmts A → Type 0
HasNoGuards x = erase x ≡ x

-- the second tree is the first one rewritten: taking its marks off gives the first, and its marks are those of the table
pub record Rewrites {A : Type 0} (source result : Stmts A) : Type 0 where
  pub is_source : erase result ≡ source
  pub has_marks : guard (erase result) ≡ result
