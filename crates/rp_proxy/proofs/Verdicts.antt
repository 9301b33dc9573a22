-- The verdict that the program comes to is that of the declarations.
use Rattle.std.proofs.Common.{◌≡◌, ℕ, ◌<◌, Bool, true, false, if◌then◌else◌, List, [], length, Some, refl, sym, ap, ◌∙◌}
use Rattle.std.proofs.lemmas.Bool.{ltb-false, ltb-true}
use Rattle.std.proofs.lemmas.List.{get_or_past}
use Rattle.rp_base.specs.declared.value.ClassTag.{ClassTag}
use Rattle.rp_base.specs.declared.value.ClassTag.TheVariants as tag
use Rattle.rp_base.specs.declared.value.Op.{Op}
use Rattle.rp_base.specs.declared.value.Op.TheVariants.{Get, Set}
use Rattle.rp_checker.specs.Answers.{AnswersAs as AnswerRows, AreRowsWithin, IsRowWithin, IsTagHeld, operation_view, row_view, tag_view}
use Rattle.rp_checker.specs.Tables.{Tables, row_in}
use Rattle.rp_decl.specs.View.{Placed, declarations_view, name_text, perm_text}
use Rattle.rp_decl.specs.declared.records.Perm.{Perm}
use Rattle.rp_decl.specs.declared.row.Row.{Row}
use Rattle.rp_decl.specs.declared.row.Row.TheVariants.{Public, Needs, Default, Forbidden}
use Rattle.rp_interact.specs.Answers.{AnswersAs as AnswerGrants}
use Rattle.rp_interact.specs.Interacting.{Interacting, has_in}
use Rattle.rp_trail.specs.Entry.{allowed, denied}
use Rattle.rp_trail.specs.View.{IsClassHeld, IsToldHeld, IsVerdictDeclared, is_named, op_name, op_word, told_name, verdict_view}
use Rattle.rp_trail.specs.declared.entry.Verdict.TheVariants as verdict
use Rattle.rp_proxy.specs.Decide.{operation_name, operation_word, verdict_by, verdict_of}
use Rattle.rp_proxy.specs.View.{verdict_in}

pub word_same : (names : List (List ℕ)) (op : Op) → op_word op ≡ operation_word (operation_view names op)
word_same names (Get name) = refl
word_same names (Set name) = refl

pub name_same : (names : List (List ℕ)) (op : Op) → name_text names (op_name op) ≡ operation_name (operation_view names op)
name_same names (Get name) = refl
name_same names (Set name) = refl

-- a name that is told to be one of the program's is one
pub name_held : (names : List (List ℕ)) (op : Op) (named : Bool) → named ≡ is_named names op → IsToldHeld names named (op_name op)
name_held names op true told = ltb-true (op_name op).0 (length names) (sym told)
name_held names op false told = tt

-- the word that is told of a name is its word
pub told_same : (names : List (List ℕ)) (op : Op) (named : Bool) → named ≡ is_named names op → told_name names named (op_name op) ≡ name_text names (op_name op)
told_same names op true told = refl
told_same names op false told = sym (get_or_past names (op_name op).0 [] (ltb-false (op_name op).0 (length names) (sym told)))

pub class_held : (names : List (List ℕ)) (t : ClassTag) → IsTagHeld names t → IsClassHeld names t
class_held names tag.List h = tt
class_held names tag.Tuple h = tt
class_held names tag.Dict h = tt
class_held names tag.Function h = tt
class_held names tag.Method h = tt
class_held names tag.Class h = tt
class_held names (tag.Declared name) h = h
class_held names tag.Other h = tt

needs_view : (permissions : List (List ℕ)) (permission : Perm) (b : Bool)
    → verdict_view permissions (if b then verdict.Allowed (Needs permission) else verdict.Denied permission)
    ≡ (if b then allowed (Some (perm_text permissions permission)) else denied (perm_text permissions permission))
needs_view permissions permission true = refl
needs_view permissions permission false = refl

needs_declared : (permissions : List (List ℕ)) (permission : Perm) (b : Bool) → permission.0 < length permissions
    → IsVerdictDeclared permissions (if b then verdict.Allowed (Needs permission) else verdict.Denied permission)
needs_declared permissions permission true h = h
needs_declared permissions permission false h = h

pub verdict_declared : (permissions : List (List ℕ)) (i : Interacting) (row : Row) → IsRowWithin (length permissions) row → IsVerdictDeclared permissions (verdict_in i row)
verdict_declared permissions i Public h = tt
verdict_declared permissions i (Needs permission) h = needs_declared permissions permission (has_in i permission) h
verdict_declared permissions i Default h = tt
verdict_declared permissions i Forbidden h = tt

verdict_by_row : (names : List (List ℕ)) (d : Placed) (i : Interacting) (row : Row) → AnswerGrants names d i → IsRowWithin (length d.permissions) row
    → verdict_view d.permissions (verdict_in i row) ≡ verdict_by (declarations_view names d) i.ids (row_view d.permissions row)
verdict_by_row names d i Public grants h = refl
verdict_by_row names d i (Needs permission) grants h =
    needs_view d.permissions permission (has_in i permission)
    ∙ ap (λ (b : Bool). if b then allowed (Some (perm_text d.permissions permission)) else denied (perm_text d.permissions permission)) (grants.has permission h)
verdict_by_row names d i Default grants h = refl
verdict_by_row names d i Forbidden grants h = refl

-- the verdict by the checkers' row and the interaction is that of the declarations
pub verdict_same : (names : List (List ℕ)) (d : Placed) (t : Tables) (i : Interacting) (class : ClassTag) (op : Op)
    → AnswerRows names d t → AreRowsWithin (length d.permissions) t → AnswerGrants names d i → IsTagHeld names class
    → verdict_view d.permissions (verdict_in i (row_in t class op))
    ≡ verdict_of (declarations_view names d) i.ids (tag_view names class) (operation_view names op)
verdict_same names d t i class op rows within grants class_is_held =
    verdict_by_row names d i (row_in t class op) grants (within class op)
    ∙ ap (verdict_by (declarations_view names d) i.ids) (rows class op class_is_held)
