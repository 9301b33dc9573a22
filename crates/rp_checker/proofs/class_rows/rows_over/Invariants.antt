use Rattle.std.proofs.Common.{◌≡◌, map, take}
use Rattle.rp_base.specs.declared.value.Name.{Name}
use Rattle.rp_decl.specs.declared.records.Perm.{Perm}
use Rattle.rp_decl.specs.declared.row.Row.{Row}
use Rattle.rp_checker.specs.Chain.{row_needing}
use Rattle.rp_checker.proofs.class_rows.rows_over.Given as goal

abbrev pub invariant-loop-name : goal.invariant-loop-name
invariant-loop-name l = l.rows.items ≡ map {A = Name × Perm} {B = Name × Row} (λ e. (e.0, row_needing l.permissions e.1)) (take l.name-index l.own)
