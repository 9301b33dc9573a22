-- How an operation on a reference is decided (zope.security, checkers and proxies).
use Rattle.std.specs.Prelude.{ℕ, ◌+◌, nat_lt, if◌then◌else◌, List, [], ◌∷◌, ◌++◌, codes, Option, Some, None, unwrap_or, Result, Ok, Err}
use Rattle.std.specs.Option.{option_map_or}
use Rattle.rp_base.specs.declared.kind.Kind.TheVariants.{Unauthorized, ForbiddenAttribute}
use Rattle.rp_base.specs.declared.value.ClassTag.{ClassTag}
use Rattle.rp_base.specs.declared.value.ClassTag.TheVariants.{Other}
use Rattle.rp_base.specs.declared.value.Oid.{Oid}
use Rattle.rp_base.specs.declared.value.Raised.{Raised}
use Rattle.rp_base.specs.declared.value.Value.{Value}
use Rattle.rp_base.specs.declared.value.Value.TheVariants as value
use Rattle.rp_checker.specs.Answers.{tag_view}
use Rattle.rp_checker.specs.RowOf.{Tag, Operation, reading, setting, Row, public, needs, default, forbidden as no_row, row_of}
use Rattle.rp_decl.specs.Document.{public as zope_public}
use Rattle.rp_decl.specs.Records.{Declarations}
use Rattle.rp_interact.specs.Why.{has_all}
use Rattle.rp_ops.specs.Outcome.{End, raised, no_cell}
use Rattle.rp_store.specs.Heap.{Owned, tag_at}
use Rattle.rp_store.specs.Store.{Cells}
use Rattle.rp_trail.specs.Entry.{Verdict, allowed, denied, forbidden, Entry}
use Rattle.rp_trail.specs.View.{class_text}

-- what decisions read and write: the declarations, the program's names, the objects with the cells used and their limit,
-- the entries so far, the number of the session that runs, and the ids of its principals
pub record Monitor : Type 0 where
  pub declarations : Declarations
  pub names : List (List ℕ)
  pub store : Cells
  pub log : List Entry
  pub session : ℕ
  pub who : List (List ℕ)

-- the operation may be done, or why it may not: an exception is raised in place of it, or no cell is left
abbrev pub Decision : Type 0
Decision = Result (Unit {0}) End

abbrev pub go : Decision
go = Ok tt

abbrev pub refuses : Raised → Decision
refuses r = Err (raised r)

-- the verdict on principals by a row
abbrev pub verdict_by : Declarations → List (List ℕ) → Row → Verdict
verdict_by d who public = allowed (Some zope_public)
verdict_by d who (needs permission) = if has_all d who permission then allowed (Some permission) else denied permission
verdict_by d who default = allowed None
verdict_by d who no_row = forbidden

-- the verdict on principals that ask an operation of an object of a class
abbrev pub verdict_of : Declarations → List (List ℕ) → Tag → Operation → Verdict
verdict_of d who tag op = verdict_by d who (row_of d tag op)

abbrev pub operation_word : Operation → List ℕ
operation_word (reading name) = codes "get"
operation_word (setting name) = codes "set"

abbrev pub operation_name : Operation → List ℕ
operation_name (reading name) = name
operation_name (setting name) = name

-- the exception in place of reading or setting a name, where the verdict does not allow it
abbrev pub refusal : List ℕ → Verdict → Option Raised
refusal name (allowed permission) = None
refusal name (denied permission) = Some (record { kind = Unauthorized; text = permission })
refusal name forbidden = Some (record { kind = ForbiddenAttribute; text = name })

abbrev pub outcome : List ℕ → Verdict → Decision
outcome name verdict = option_map_or refuses (refusal name verdict) go

-- the entry of an operation on an object of a class
abbrev pub entry_of : Monitor → Operation → ClassTag → Entry
entry_of m op class = record {
  session = m.session;
  op = operation_word op;
  class = class_text m.names class;
  name = operation_name op;
  verdict = verdict_of m.declarations m.who (tag_view m.names class) op;
}

-- the class of the object at a place
abbrev pub class_at : List Owned → Oid → ClassTag
class_at heap at = unwrap_or (tag_at heap at) Other

abbrev pub logged : Monitor → Entry → Monitor
logged m entry = record m { store = record m.store { used = m.store.used + 1 }; log = m.log ++ entry ∷ [] }

-- An operation through a proxy costs a cell; where one is left it is logged, and its verdict decides.
abbrev pub decide_entry : Monitor → Entry → Decision × Monitor
decide_entry m entry = if nat_lt m.store.limit (m.store.used + 1) then (Err no_cell, m) else (outcome entry.name entry.verdict, logged m entry)

-- an operation on a value: only a proxy has it decided
abbrev pub decide : Value → Operation → Monitor → Decision × Monitor
decide (value.Rock rock) op m = (go, m)
decide (value.Ref at) op m = (go, m)
decide (value.Prox at) op m = decide_entry m (entry_of m op (class_at m.store.heap at))
