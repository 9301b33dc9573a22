use Rattle.std.specs.Map.{lookup}
use Rattle.std.specs.Option.{option_map_or}
use Rattle.std.proofs.Common.{◌≡◌, ◌+◌, ◌≤◌, None, Option, refl, subst, sym}
use Rattle.rp_store.specs.Key.{same_key}
use Rattle.rp_store.specs.Object.{Content}
use Rattle.rp_store.specs.Parts.{entries}
use Rattle.rp_store.specs.Store.{Cells}
use Rattle.rp_store.specs.Writers.{with_entry}
use Rattle.rp_store.proofs.HeapLemmas.{content-view, grown-view, kept-view, on_err, same-view, shape-view}
use Rattle.rp_store.proofs.Shapes.{Allows-entry, Allows-same}
use Rattle.rp_store.proofs.store.Store.push_entry.Goals as goal

pub push_entry-requires : goal.push_entry-requires
push_entry-requires c =
    subst (λ (o : Option Content). option_map_or (λ k. lookup (same_key c.args.key) (entries k)) o None ≡ None)
    (content-view c.self.inside.slots.items c.self.inside.used c.self.inside.limit c.args.self.now c.self.view_is c.args.at c.index_mut.result.now c.index_mut.ensures.value c.requires.held) c.requires.absent

pub returns-in_err-push_entry-clause-same : goal.returns-in_err-push_entry-clause-same
returns-in_err-push_entry-clause-same c =
    on_err c.from_residual.result _ (same-view c.self.inside.slots.items c.self.inside.used c.self.inside.limit c.args.self.now c.self.view_is c.args.at c.index_mut.result.now c.index_mut.ensures.value
    c.push_entry.new.self c.in_err-push_entry.ensures.same)

pub returns-clause-put : goal.returns-clause-put
returns-clause-put c =
    grown-view c.self.inside.slots.items c.self.inside.used c.self.inside.limit c.args.self.now c.self.view_is c.args.at c.index_mut.result.now c.index_mut.ensures.value
    c.push_entry.new.self (with_entry c.args.key c.args.rock c.args.value) 1 1 c.in_ok-push_entry.ensures.ok refl

pub invariant_of-self : goal.invariant_of-self
invariant_of-self c = (
  c.self.invariant.0,
  kept-view c.self.inside.slots.items c.self.inside.used c.self.inside.limit c.args.self.now c.self.view_is c.args.at c.index_mut.result.now c.index_mut.ensures.value
      c.push_entry.new.self (λ k. k) c.in_err-push_entry.ensures.same (Allows-same c.args.self.now.heap c.args.at) c.self.invariant.1,
)

pub returns-in_err-push_entry-clause-shape : goal.returns-in_err-push_entry-clause-shape
returns-in_err-push_entry-clause-shape c = shape-view c.self.inside.slots.items c.self.inside.used c.self.inside.limit c.args.self.now c.self.view_is c.args.at c.index_mut.result.now c.index_mut.ensures.value
    c.push_entry.new.self (λ k. k) c.in_err-push_entry.ensures.same (Allows-same c.args.self.now.heap c.args.at)

pub invariant_of-self-2 : goal.invariant_of-self-2
invariant_of-self-2 c = (
  subst (λ (v : Cells). v.used + 1 ≤ v.limit) (sym c.self.view_is) c.requires.room,
  kept-view c.self.inside.slots.items c.self.inside.used c.self.inside.limit c.args.self.now c.self.view_is c.args.at c.index_mut.result.now c.index_mut.ensures.value
      c.push_entry.new.self (with_entry c.args.key c.args.rock c.args.value) c.in_ok-push_entry.ensures.ok (Allows-entry c.args.self.now.heap c.args.at c.args.key c.args.rock c.args.value c.requires.key c.requires.value) c.self.invariant.1,
)

pub returns-clause-shape : goal.returns-clause-shape
returns-clause-shape c = shape-view c.self.inside.slots.items c.self.inside.used c.self.inside.limit c.args.self.now c.self.view_is c.args.at c.index_mut.result.now c.index_mut.ensures.value
    c.push_entry.new.self (with_entry c.args.key c.args.rock c.args.value) c.in_ok-push_entry.ensures.ok (Allows-entry c.args.self.now.heap c.args.at c.args.key c.args.rock c.args.value c.requires.key c.requires.value)
