use Rattle.std.proofs.Common.{rules, ap, ◌∙◌}
use Rattle.std.specs.Map.{lookup}
use Rattle.std.proofs.lemmas.Fn.{dedup_same}
use Rattle.std.proofs.lemmas.List.Sorted.{answers_always}
use Rattle.rp_checker.specs.Lookup.{is_name}
use Rattle.rp_checker.proofs.Lookups.{lookup-stable, lookup-dedup, ascending-dedup}
use Rattle.rp_checker.proofs.table.Table.new.Goals as goal

pub invariant_of-result : goal.invariant_of-result
invariant_of-result g c =
    let sorted = c.in_ok-sort_by_key.ensures.sorted (λ e. e.0) (answers_always _ _ _ (λ f a r f' called. search rules)) in
    let kept = dedup_same _ (λ x y. is_name x.0 y.0) _ (λ x y b f' x' y' k. search rules) _ _ c.dedup_by_key.ensures.filtered in
    rw kept (ascending-dedup _ sorted)

pub returns : goal.returns
returns g c name =
    let stable = c.sort_by_key.ensures.stable (λ e. e.0) (answers_always _ _ _ (λ f a r f' called. search rules)) in
    let kept = dedup_same _ (λ x y. is_name x.0 y.0) _ (λ x y b f' x' y' k. search rules) _ _ c.dedup_by_key.ensures.filtered in
    ap (lookup (is_name name)) kept ∙ lookup-dedup name _ ∙ lookup-stable _ _ name stable
