-- The decisions as the program keeps them: names by their places among the program's names, and permissions by their places in
-- the declarations.
use Rattle.std.specs.Prelude.{ℕ, ◌<◌, nat_lt, Bool, true, false, if◌then◌else◌, List, [], length, map, codes, Option, Some, None}
use Rattle.rp_base.specs.declared.value.ClassTag.{ClassTag}
use Rattle.rp_base.specs.declared.value.ClassTag.TheVariants as tag
use Rattle.rp_base.specs.declared.value.Name.{Name}
use Rattle.rp_base.specs.declared.value.Op.{Op}
use Rattle.rp_base.specs.declared.value.Op.TheVariants.{Get, Set}
use Rattle.rp_decl.specs.Document.{public}
use Rattle.rp_decl.specs.Places.{IsHeld}
use Rattle.rp_decl.specs.View.{name_text, perm_text}
use Rattle.rp_decl.specs.declared.records.Perm.{Perm}
use Rattle.rp_decl.specs.declared.row.Row.{Row}
use Rattle.rp_decl.specs.declared.row.Row.TheVariants as row
use Rattle.rp_trail.specs.Entry.{Verdict, allowed, denied, forbidden, Entry}
use Rattle.rp_trail.specs.declared.entry.Entry.{Entry as Placed}
use Rattle.rp_trail.specs.declared.entry.Verdict.{Verdict as PlacedVerdict}
use Rattle.rp_trail.specs.declared.entry.Verdict.TheVariants.{Allowed, Denied, Forbidden}

abbrev pub op_word : Op → List ℕ
op_word (Get name) = codes "get"
op_word (Set name) = codes "set"

abbrev pub op_name : Op → Name
op_name (Get name) = name
op_name (Set name) = name

-- the name of the operation is one of these
abbrev pub is_named : List (List ℕ) → Op → Bool
is_named names op = nat_lt (op_name op).0 (length names)

-- the word of a name, empty where it is told to be none of the program's
abbrev pub told_name : List (List ℕ) → Bool → Name → List ℕ
told_name names named name = if named then name_text names name else []

-- the word for a class: its kind, its name where it is declared, and else `instance`
abbrev pub class_text : List (List ℕ) → ClassTag → List ℕ
class_text names tag.List = codes "list"
class_text names tag.Tuple = codes "tuple"
class_text names tag.Dict = codes "dict"
class_text names tag.Function = codes "function"
class_text names tag.Method = codes "method"
class_text names tag.Class = codes "class"
class_text names (tag.Declared name) = name_text names name
class_text names tag.Other = codes "instance"

-- the permission of a row, if it has one
abbrev pub row_permission : List (List ℕ) → Row → Option (List ℕ)
row_permission permissions row.Public = Some public
row_permission permissions (row.Needs permission) = Some (perm_text permissions permission)
row_permission permissions row.Default = None
row_permission permissions row.Forbidden = None

abbrev pub verdict_view : List (List ℕ) → PlacedVerdict → Verdict
verdict_view permissions (Allowed r) = allowed (row_permission permissions r)
verdict_view permissions (Denied permission) = denied (perm_text permissions permission)
verdict_view permissions Forbidden = forbidden

-- a decision, where these are the program's names and the declared permissions
abbrev pub entry_view : List (List ℕ) → List (List ℕ) → Placed → Entry
entry_view names permissions e = record {
  session = e.session;
  op = op_word e.op;
  class = class_text names e.class;
  name = told_name names e.named (op_name e.op);
  verdict = verdict_view permissions e.verdict;
}

abbrev pub trail_view : List (List ℕ) → List (List ℕ) → List Placed → List Entry
trail_view names permissions entries = map (entry_view names permissions) entries

-- the name of the class, if it has one, is one of these
abbrev pub IsClassHeld : List (List ℕ) → ClassTag → Type 0
IsClassHeld names (tag.Declared name) = IsHeld names name
IsClassHeld names _ = Unit {0}

-- the permission is one of these
abbrev pub IsDeclared : List (List ℕ) → Perm → Type 0
IsDeclared permissions permission = permission.0 < length permissions

abbrev pub IsRowDeclared : List (List ℕ) → Row → Type 0
IsRowDeclared permissions (row.Needs permission) = IsDeclared permissions permission
IsRowDeclared permissions _ = Unit {0}

abbrev pub IsVerdictDeclared : List (List ℕ) → PlacedVerdict → Type 0
IsVerdictDeclared permissions (Allowed r) = IsRowDeclared permissions r
IsVerdictDeclared permissions (Denied permission) = IsDeclared permissions permission
IsVerdictDeclared permissions Forbidden = Unit {0}

-- the name is one of these, unless it is told to be none of the program's
abbrev pub IsToldHeld : List (List ℕ) → Bool → Name → Type 0
IsToldHeld names true name = IsHeld names name
IsToldHeld names false name = Unit {0}

-- the names and the permission of an entry are among these
pub record IsEntryHeld (names permissions : List (List ℕ)) (e : Placed) : Type 0 where
  pub name : IsToldHeld names e.named (op_name e.op)
  pub class : IsClassHeld names e.class
  pub permission : IsVerdictDeclared permissions e.verdict
