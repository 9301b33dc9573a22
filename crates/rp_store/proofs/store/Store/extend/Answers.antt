use Rattle.std.specs.Prelude.{length}
use Rattle.std.proofs.Common.{◌∙◌, refl}
use Rattle.rp_store.specs.Writers.{extended}
use Rattle.rp_store.proofs.HeapLemmas.{grown-view, kept-view, not_over, on_err, same-view, shape-view}
use Rattle.rp_store.proofs.Shapes.{Allows-extended, Allows-same}
use Rattle.rp_store.proofs.store.Store.extend.Goals as goal

pub returns-in_err-extend-clause-same : goal.returns-in_err-extend-clause-same
returns-in_err-extend-clause-same c =
    on_err c.from_residual.result _ (same-view c.self.inside.slots.items c.self.inside.used c.self.inside.limit c.args.self.now c.self.view_is c.args.at c.index_mut.result.now c.index_mut.ensures.value
    c.extend.new.self c.in_err-extend.ensures.same)

pub returns-clause-extended : goal.returns-clause-extended
returns-clause-extended c =
    grown-view c.self.inside.slots.items c.self.inside.used c.self.inside.limit c.args.self.now c.self.view_is c.args.at c.index_mut.result.now c.index_mut.ensures.value
    c.extend.new.self (extended c.args.values.items) c.len-cells.result (length c.args.values.items) c.in_ok-extend.ensures.ok (c.len-cells.ensures ∙ c.args.values.ok.0)

pub invariant_of-self : goal.invariant_of-self
invariant_of-self c = (
  c.self.invariant.0,
  kept-view c.self.inside.slots.items c.self.inside.used c.self.inside.limit c.args.self.now c.self.view_is c.args.at c.index_mut.result.now c.index_mut.ensures.value
      c.extend.new.self (λ k. k) c.in_err-extend.ensures.same (Allows-same c.args.self.now.heap c.args.at) c.self.invariant.1,
)

pub returns-in_err-extend-clause-shape : goal.returns-in_err-extend-clause-shape
returns-in_err-extend-clause-shape c = shape-view c.self.inside.slots.items c.self.inside.used c.self.inside.limit c.args.self.now c.self.view_is c.args.at c.index_mut.result.now c.index_mut.ensures.value
    c.extend.new.self (λ k. k) c.in_err-extend.ensures.same (Allows-same c.args.self.now.heap c.args.at)

pub invariant_of-self-2 : goal.invariant_of-self-2
invariant_of-self-2 c = (
  not_over c.self.inside.slots.items c.self.inside.used c.self.inside.limit c.args.self.now c.self.view_is c.is_over.result c.len-cells.result c.len-cells.result c.if-is_over.false c.is_over.ensures.over refl,
  kept-view c.self.inside.slots.items c.self.inside.used c.self.inside.limit c.args.self.now c.self.view_is c.args.at c.index_mut.result.now c.index_mut.ensures.value
      c.extend.new.self (extended c.args.values.items) c.in_ok-extend.ensures.ok (Allows-extended c.args.self.now.heap c.args.at c.args.values.items c.requires.values) c.self.invariant.1,
)

pub returns-clause-shape : goal.returns-clause-shape
returns-clause-shape c = shape-view c.self.inside.slots.items c.self.inside.used c.self.inside.limit c.args.self.now c.self.view_is c.args.at c.index_mut.result.now c.index_mut.ensures.value
    c.extend.new.self (extended c.args.values.items) c.in_ok-extend.ensures.ok (Allows-extended c.args.self.now.heap c.args.at c.args.values.items c.requires.values)
