use Rattle.std.specs.Map.{lookup}
use Rattle.std.specs.Option.{option_map_or}
use Rattle.std.specs.Prelude.{IsSome}
use Rattle.std.proofs.Common.{◌≡◌, None, Option, subst, sym}
use Rattle.rp_store.specs.Key.{same_key}
use Rattle.rp_store.specs.Object.{Content}
use Rattle.rp_store.specs.Parts.{entries}
use Rattle.rp_store.specs.Writers.{with_entry}
use Rattle.rp_store.proofs.HeapLemmas.{content-view, either, kept-view, map_err, map_ok, same-view, shape-view, written-view}
use Rattle.rp_store.proofs.Shapes.{Allows-entry, Allows-same}
use Rattle.rp_store.proofs.store.Store.set_entry.Goals as goal

pub invariant_of-self : goal.invariant_of-self
invariant_of-self c = (
  c.self.invariant.0,
  either c.set_entry.result (c.set_entry.ensures.ok c.requires.key.0) c.set_entry.ensures.same
      (λ is. kept-view c.self.inside.slots.items c.self.inside.used c.self.inside.limit c.args.self.now c.self.view_is c.args.at c.index_mut.result.now c.index_mut.ensures.value
      c.set_entry.new.self (with_entry c.args.key.now c.requires.key.0 c.args.value) is
      (Allows-entry c.args.self.now.heap c.args.at c.args.key.now c.requires.key.0 c.args.value c.requires.key.1 c.requires.value) c.self.invariant.1)
      (λ is. kept-view c.self.inside.slots.items c.self.inside.used c.self.inside.limit c.args.self.now c.self.view_is c.args.at c.index_mut.result.now c.index_mut.ensures.value
      c.set_entry.new.self (λ k. k) is (Allows-same c.args.self.now.heap c.args.at) c.self.invariant.1),
)

pub returns-clause-set : goal.returns-clause-set
returns-clause-set c rock =
    map_ok c.set_entry.result
    (λ is. written-view c.self.inside.slots.items c.self.inside.used c.self.inside.limit c.args.self.now c.self.view_is c.args.at c.index_mut.result.now c.index_mut.ensures.value
    c.set_entry.new.self (with_entry c.args.key.now rock c.args.value) is) (c.set_entry.ensures.ok rock)

pub returns-clause-held : goal.returns-clause-held
returns-clause-held c =
    map_ok c.set_entry.result
    (subst (λ (o : Option Content). IsSome (option_map_or (λ k. lookup (same_key c.args.key.now) (entries k)) o None))
    (sym (content-view c.self.inside.slots.items c.self.inside.used c.self.inside.limit c.args.self.now c.self.view_is c.args.at c.index_mut.result.now c.index_mut.ensures.value c.requires.held))) c.set_entry.ensures.held

pub returns-clause-absent : goal.returns-clause-absent
returns-clause-absent c =
    map_err c.set_entry.result
    (subst (λ (o : Option Content). option_map_or (λ k. lookup (same_key c.args.key.now) (entries k)) o None ≡ None)
    (sym (content-view c.self.inside.slots.items c.self.inside.used c.self.inside.limit c.args.self.now c.self.view_is c.args.at c.index_mut.result.now c.index_mut.ensures.value c.requires.held))) c.set_entry.ensures.absent

pub returns-clause-same : goal.returns-clause-same
returns-clause-same c =
    map_err c.set_entry.result
    (λ is. same-view c.self.inside.slots.items c.self.inside.used c.self.inside.limit c.args.self.now c.self.view_is c.args.at c.index_mut.result.now c.index_mut.ensures.value
    c.set_entry.new.self is) c.set_entry.ensures.same

pub returns-clause-shape : goal.returns-clause-shape
returns-clause-shape c =
    either c.set_entry.result (c.set_entry.ensures.ok c.requires.key.0) c.set_entry.ensures.same
    (λ is. shape-view c.self.inside.slots.items c.self.inside.used c.self.inside.limit c.args.self.now c.self.view_is c.args.at c.index_mut.result.now c.index_mut.ensures.value
    c.set_entry.new.self (with_entry c.args.key.now c.requires.key.0 c.args.value) is
    (Allows-entry c.args.self.now.heap c.args.at c.args.key.now c.requires.key.0 c.args.value c.requires.key.1 c.requires.value))
    (λ is. shape-view c.self.inside.slots.items c.self.inside.used c.self.inside.limit c.args.self.now c.self.view_is c.args.at c.index_mut.result.now c.index_mut.ensures.value
    c.set_entry.new.self (λ k. k) is (Allows-same c.args.self.now.heap c.args.at))
