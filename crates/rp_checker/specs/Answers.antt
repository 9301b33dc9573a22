-- When checkers answer as the declarations say.
use Rattle.std.specs.Prelude.{◌≡◌, ◌≢◌, ℕ, ◌<◌, List, []}
use Rattle.std.specs.List.{All}
use Rattle.rp_base.specs.Names.{HoldsEachOnce, first_words}
use Rattle.rp_base.specs.declared.value.ClassTag.{ClassTag}
use Rattle.rp_base.specs.declared.value.ClassTag.TheVariants.{List as ListTag, Tuple, Dict, Function, Method, Class, Declared, Other}
use Rattle.rp_base.specs.declared.value.Op.{Op}
use Rattle.rp_base.specs.declared.value.Op.TheVariants.{Get, Set}
use Rattle.rp_decl.specs.Consistency.{IsConsistent}
use Rattle.rp_decl.specs.Places.{GrowsTo, IsHeld, IsHeldBy}
use Rattle.rp_decl.specs.Records.{Class as ClassText, RowText}
use Rattle.rp_decl.specs.View.{Placed, declarations_view, name_text, perm_text}
use Rattle.rp_decl.specs.declared.row.Row.{Row as PlacedRow}
use Rattle.rp_decl.specs.declared.row.Row.TheVariants.{Public, Needs, Default, Forbidden}
use Rattle.rp_checker.specs.RowOf.{Tag, list, tuple, dict, function, method, class, declared, other, Operation, reading, setting, Row, public, needs, default, forbidden, row_of}
use Rattle.rp_checker.specs.Tables.{Tables, row_in}

abbrev pub tag_view : List (List ℕ) → ClassTag → Tag
tag_view names ListTag = list
tag_view names Tuple = tuple
tag_view names Dict = dict
tag_view names Function = function
tag_view names Method = method
tag_view names Class = class
tag_view names (Declared name) = declared (name_text names name)
tag_view names Other = other

abbrev pub operation_view : List (List ℕ) → Op → Operation
operation_view names (Get name) = reading (name_text names name)
operation_view names (Set name) = setting (name_text names name)

abbrev pub row_view : List (List ℕ) → PlacedRow → Row
row_view permissions Public = public
row_view permissions (Needs permission) = needs (perm_text permissions permission)
row_view permissions Default = default
row_view permissions Forbidden = forbidden

-- the name of the class, if it has one, is one of these
abbrev pub IsTagHeld : List (List ℕ) → ClassTag → Type 0
IsTagHeld names (Declared name) = IsHeld names name
IsTagHeld names _ = Unit {0}

-- the row is for a name that has a word
abbrev pub IsForWord : RowText → Type 0
IsForWord row = row.0 ≢ []

pub record HasWords (c : ClassText) : Type 0 where
  pub get : All IsForWord c.get
  pub set : All IsForWord c.set

-- These are the program's names: the words of operations first, each word once, and those of the declarations among them. The
-- declarations name nothing that is not declared, no class is like itself, and each row is for a name that has a word.
pub record IsReadWith (names : List (List ℕ)) (d : Placed) : Type 0 where
  pub first : GrowsTo first_words names
  pub distinct : HoldsEachOnce names
  pub held : IsHeldBy names d
  pub consistent : IsConsistent (declarations_view names d)
  pub words : All HasWords (declarations_view names d).classes

-- each row is the one that the declarations say, also for a name that is none of these, whose word is empty
abbrev pub AnswersAs : List (List ℕ) → Placed → Tables → Type 0
AnswersAs names d t =
    (tag : ClassTag) (op : Op) → IsTagHeld names tag
    → row_view d.permissions (row_in t tag op) ≡ row_of (declarations_view names d) (tag_view names tag) (operation_view names op)

-- the permission of the row, if it has one, is one of so many
abbrev pub IsRowWithin : ℕ → PlacedRow → Type 0
IsRowWithin permissions (Needs permission) = permission.0 < permissions
IsRowWithin permissions _ = Unit {0}

-- so is that of each row
abbrev pub AreRowsWithin : ℕ → Tables → Type 0
AreRowsWithin permissions t = (tag : ClassTag) (op : Op) → IsRowWithin permissions (row_in t tag op)
