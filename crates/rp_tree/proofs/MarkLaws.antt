-- Laws of guard marks: taking them off, setting them, and when a tree is another one rewritten.
use Rattle.std.proofs.Common.{◌≡◌, ap, sym, ◌∙◌}
use Rattle.rp_tree.specs.StatementTrees.{Stmts}
use Rattle.rp_tree.specs.Marks.{erase, guard, no_marks, table, HasNoGuards, Rewrites}
use Rattle.rp_tree.proofs.MapLaws.{stmts_after}

-- taking the marks off twice is taking them off once
pub erase_again : {A : Type 0} (x : Stmts A) → erase (erase x) ≡ erase x
erase_again x = stmts_after no_marks no_marks x

-- what has had its marks taken off has none
pub erased : {A : Type 0} (x : Stmts A) → HasNoGuards (erase x)
erased x = erase_again x

-- marks that are set may be taken off
pub erase_guarded : {A : Type 0} (x : Stmts A) → erase (guard x) ≡ erase x
erase_guarded x = stmts_after table no_marks x

-- marks are set whatever marks stood there
pub guard_erased : {A : Type 0} (x : Stmts A) → guard (erase x) ≡ guard x
guard_erased x = stmts_after no_marks table x

-- on a tree without marks, taking off undoes setting
pub erase_undoes : {A : Type 0} (x : Stmts A) → HasNoGuards x → erase (guard x) ≡ x
erase_undoes x bare = erase_guarded x ∙ bare

-- a tree is rewritten from one without marks, by setting those of the table, and from no other
pub rewrites_as : {A : Type 0} (source result : Stmts A) → HasNoGuards source → guard source ≡ result → Rewrites source result
rewrites_as source result bare same =
    record {
      is_source = ap erase (sym same) ∙ erase_undoes source bare;
      has_marks = ap guard (ap erase (sym same) ∙ erase_undoes source bare) ∙ same;
    }

pub rewritten : {A : Type 0} (source result : Stmts A) → Rewrites source result → HasNoGuards source × (guard source ≡ result)
rewritten source result r = (ap erase (sym r.is_source) ∙ erase_again result ∙ r.is_source, ap guard (sym r.is_source) ∙ r.has_marks)
