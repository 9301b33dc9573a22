use Rattle.std.specs.Map.{lookup}
use Rattle.std.proofs.Common.{arith}
use Rattle.rp_store.specs.Key.{same_name}
use Rattle.rp_store.specs.Object.{Content}
use Rattle.rp_store.specs.Parts.{fields}
use Rattle.rp_store.specs.Writers.{with_field}
use Rattle.rp_store.proofs.HeapLemmas.{cells-view, grown-view, kept-view, not_over, on_err, same-view, shape-view}
use Rattle.rp_store.proofs.Shapes.{Allows-field, Allows-same}
use Rattle.rp_store.proofs.store.Store.set_field.Goals as goal

pub returns-in_err-cells-clause-same : goal.returns-in_err-cells-clause-same
returns-in_err-cells-clause-same c =
    on_err c.from_residual.result _ (same-view c.self.inside.slots.items c.self.inside.used c.self.inside.limit c.args.self.now c.self.view_is c.args.at c.index_mut.result.now c.index_mut.ensures.value
    c.set_field.new.self c.in_err-cells.ensures.same)

pub overflow_add-self : goal.overflow_add-self
overflow_add-self c =
    let cells = cells-view c.self.inside.slots.items c.self.inside.used c.self.inside.limit c.args.self.now c.self.view_is c.args.at c.index_mut.result.now c.index_mut.ensures.value
    (λ (o : Content). lookup (same_name c.args.name) (fields o)) c.in_ok-cells.cells c.requires.held c.in_ok-cells.ensures.cells in
    let within = not_over c.self.inside.slots.items c.self.inside.used c.self.inside.limit c.args.self.now c.self.view_is c.is_over_for_field.result c.in_ok-cells.cells _ c.if-is_over_for_field.false c.is_over_for_field.ensures cells in
    omega arith

pub invariant_of-self-2 : goal.invariant_of-self-2
invariant_of-self-2 c =
    let cells = cells-view c.self.inside.slots.items c.self.inside.used c.self.inside.limit c.args.self.now c.self.view_is c.args.at c.index_mut.result.now c.index_mut.ensures.value
    (λ (o : Content). lookup (same_name c.args.name) (fields o)) c.in_ok-cells.cells c.requires.held c.in_ok-cells.ensures.cells in (
      not_over c.self.inside.slots.items c.self.inside.used c.self.inside.limit c.args.self.now c.self.view_is c.is_over_for_field.result c.in_ok-cells.cells _ c.if-is_over_for_field.false c.is_over_for_field.ensures cells,
      kept-view c.self.inside.slots.items c.self.inside.used c.self.inside.limit c.args.self.now c.self.view_is c.args.at c.index_mut.result.now c.index_mut.ensures.value
          c.set_field.new.self (with_field c.args.name c.args.value) c.in_ok-cells.ensures.ok (Allows-field c.args.self.now.heap c.args.at c.args.name c.args.value c.requires.value) c.self.invariant.1,
    )

pub returns-clause-set : goal.returns-clause-set
returns-clause-set c =
    let cells = cells-view c.self.inside.slots.items c.self.inside.used c.self.inside.limit c.args.self.now c.self.view_is c.args.at c.index_mut.result.now c.index_mut.ensures.value
    (λ (o : Content). lookup (same_name c.args.name) (fields o)) c.in_ok-cells.cells c.requires.held c.in_ok-cells.ensures.cells in
    grown-view c.self.inside.slots.items c.self.inside.used c.self.inside.limit c.args.self.now c.self.view_is c.args.at c.index_mut.result.now c.index_mut.ensures.value
    c.set_field.new.self (with_field c.args.name c.args.value) c.in_ok-cells.cells _ c.in_ok-cells.ensures.ok cells

pub invariant_of-self : goal.invariant_of-self
invariant_of-self c = (
  c.self.invariant.0,
  kept-view c.self.inside.slots.items c.self.inside.used c.self.inside.limit c.args.self.now c.self.view_is c.args.at c.index_mut.result.now c.index_mut.ensures.value
      c.set_field.new.self (λ k. k) c.in_err-cells.ensures.same (Allows-same c.args.self.now.heap c.args.at) c.self.invariant.1,
)

pub returns-in_err-cells-clause-shape : goal.returns-in_err-cells-clause-shape
returns-in_err-cells-clause-shape c = shape-view c.self.inside.slots.items c.self.inside.used c.self.inside.limit c.args.self.now c.self.view_is c.args.at c.index_mut.result.now c.index_mut.ensures.value
    c.set_field.new.self (λ k. k) c.in_err-cells.ensures.same (Allows-same c.args.self.now.heap c.args.at)

pub returns-clause-shape : goal.returns-clause-shape
returns-clause-shape c = shape-view c.self.inside.slots.items c.self.inside.used c.self.inside.limit c.args.self.now c.self.view_is c.args.at c.index_mut.result.now c.index_mut.ensures.value
    c.set_field.new.self (with_field c.args.name c.args.value) c.in_ok-cells.ensures.ok (Allows-field c.args.self.now.heap c.args.at c.args.name c.args.value c.requires.value)
