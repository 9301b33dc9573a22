use Rattle.std.proofs.Common.{◌≡◌, ◌++◌, ap, ◌∙◌, map, arith, List}
use Rattle.std.specs.Map.{lookup}
use Rattle.std.specs.Option.{option_or}
use Rattle.std.proofs.lemmas.Result.{IfOk-weaker}
use Rattle.std.proofs.lemmas.Map.Made.{lookup-map_values}
use Rattle.std.proofs.lemmas.List.{take_all}
use Rattle.rp_base.specs.declared.value.Name.{Name}
use Rattle.rp_decl.specs.declared.row.Row.{Row}
use Rattle.rp_checker.specs.Chain.{row_needing}
use Rattle.rp_checker.specs.Lookup.{is_name}
use Rattle.rp_checker.proofs.Lookups.{lookup-append}
use Rattle.rp_checker.proofs.class_rows.rows_over.Goals as goal

pub returns : goal.returns
returns c =
    let rows : List (Name × Row) = map (λ e. (e.0, row_needing c.args.permissions.now e.1)) c.args.own.now in
    let pairs : c.extend_from_slice.new.self.items ≡ rows ++ c.args.others.now = c.in_ok-extend_from_slice.ensures.items ∙ ap (λ r. r ++ c.args.others.now) (c.loop-name.invariant ∙ ap (map (λ e. (e.0, row_needing c.args.permissions.now e.1))) (take_all c.loop-name.name-index c.args.own.now (omega arith))) in
    IfOk-weaker c.new.result _ _ (λ t same name. same name ∙ ap (lookup (is_name name)) pairs ∙ lookup-append (is_name name) rows c.args.others.now ∙ ap (λ o. option_or o (lookup (is_name name) c.args.others.now)) (lookup-map_values (row_needing c.args.permissions.now) (is_name name) c.args.own.now)) c.new.ensures
