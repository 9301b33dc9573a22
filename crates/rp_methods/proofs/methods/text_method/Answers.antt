use Rattle.std.proofs.Common.{subst, sym}
use Rattle.rp_base.specs.declared.native.NativeId.{NativeId}
use Rattle.rp_store.proofs.CallerLemmas.{KeepsShape-same}
use Rattle.rp_ops.specs.Outcome.{Meets, state_of}
use Rattle.rp_methods.specs.Texts.{text_method}
use Rattle.rp_methods.proofs.NoClasses.{AddsNoClass-same}
use Rattle.rp_methods.proofs.methods.text_method.Goals as goal

pub returns-in-Join-clause-sound : goal.returns-in-Join-clause-sound
returns-in-Join-clause-sound c = c.join.ensures.sound c.join.new.store.heap

pub returns-in-Join-clause-shape : goal.returns-in-Join-clause-shape
returns-in-Join-clause-shape c = KeepsShape-same c.args.store.now.heap c.join.new.store.heap c.join.ensures.same

pub returns-in-Split-clause-plain : goal.returns-in-Split-clause-plain
returns-in-Split-clause-plain c =
    let left = c.args.meter.now.left in
    subst (λ (id : NativeId). Meets c.split.result (state_of c.split.new.store left) (text_method c.args.side c.args.text.now id c.args.args.now (state_of c.args.store.now left)))
    (sym c.in-Split.is) (c.split.ensures.plain left)

pub returns-in-Strip-clause-plain : goal.returns-in-Strip-clause-plain
returns-in-Strip-clause-plain c =
    let left = c.args.meter.now.left in
    subst (λ (id : NativeId). Meets c.strip.result (state_of c.strip.new.store left) (text_method c.args.side c.args.text.now id c.args.args.now (state_of c.args.store.now left)))
    (sym c.in-Strip.is) (c.strip.ensures.plain left)

pub returns-in-Strip-clause-sound : goal.returns-in-Strip-clause-sound
returns-in-Strip-clause-sound c = c.strip.ensures.sound c.strip.new.store.heap

pub returns-in-Strip-clause-shape : goal.returns-in-Strip-clause-shape
returns-in-Strip-clause-shape c = KeepsShape-same c.args.store.now.heap c.strip.new.store.heap c.strip.ensures.same

pub returns-in-StartsWith-clause-plain : goal.returns-in-StartsWith-clause-plain
returns-in-StartsWith-clause-plain c =
    let left = c.args.meter.now.left in
    subst (λ (id : NativeId). Meets c.startswith.result (state_of c.args.store.now left) (text_method c.args.side c.args.text.now id c.args.args.now (state_of c.args.store.now left)))
    (sym c.in-StartsWith.is) (c.startswith.ensures.plain (state_of c.args.store.now left))

pub returns-in-StartsWith-clause-sound : goal.returns-in-StartsWith-clause-sound
returns-in-StartsWith-clause-sound c = c.startswith.ensures.sound c.args.store.now.heap

pub returns-in-EndsWith-clause-plain : goal.returns-in-EndsWith-clause-plain
returns-in-EndsWith-clause-plain c =
    let left = c.args.meter.now.left in
    subst (λ (id : NativeId). Meets c.endswith.result (state_of c.args.store.now left) (text_method c.args.side c.args.text.now id c.args.args.now (state_of c.args.store.now left)))
    (sym c.in-EndsWith.is) (c.endswith.ensures.plain (state_of c.args.store.now left))

pub returns-in-EndsWith-clause-sound : goal.returns-in-EndsWith-clause-sound
returns-in-EndsWith-clause-sound c = c.endswith.ensures.sound c.args.store.now.heap

pub returns-in-Find-clause-plain : goal.returns-in-Find-clause-plain
returns-in-Find-clause-plain c =
    let left = c.args.meter.now.left in
    subst (λ (id : NativeId). Meets c.find.result (state_of c.args.store.now left) (text_method c.args.side c.args.text.now id c.args.args.now (state_of c.args.store.now left)))
    (sym c.in-Find.is) (c.find.ensures.plain (state_of c.args.store.now left))

pub returns-in-Find-clause-sound : goal.returns-in-Find-clause-sound
returns-in-Find-clause-sound c = c.find.ensures.sound c.args.store.now.heap

pub returns-in-Replace-clause-plain : goal.returns-in-Replace-clause-plain
returns-in-Replace-clause-plain c =
    let left = c.args.meter.now.left in
    subst (λ (id : NativeId). Meets c.replace.result (state_of c.replace.new.store left) (text_method c.args.side c.args.text.now id c.args.args.now (state_of c.args.store.now left)))
    (sym c.in-Replace.is) (c.replace.ensures.plain left)

pub returns-in-Replace-clause-sound : goal.returns-in-Replace-clause-sound
returns-in-Replace-clause-sound c = c.replace.ensures.sound c.replace.new.store.heap

pub returns-in-Replace-clause-shape : goal.returns-in-Replace-clause-shape
returns-in-Replace-clause-shape c = KeepsShape-same c.args.store.now.heap c.replace.new.store.heap c.replace.ensures.same

pub returns-in-Count-clause-plain : goal.returns-in-Count-clause-plain
returns-in-Count-clause-plain c =
    let left = c.args.meter.now.left in
    subst (λ (id : NativeId). Meets c.count.result (state_of c.args.store.now left) (text_method c.args.side c.args.text.now id c.args.args.now (state_of c.args.store.now left)))
    (sym c.in-Count.is) (c.count.ensures.plain (state_of c.args.store.now left))

pub returns-in-Count-clause-sound : goal.returns-in-Count-clause-sound
returns-in-Count-clause-sound c = c.count.ensures.sound c.args.store.now.heap

pub returns-in-IsDigit-clause-plain : goal.returns-in-IsDigit-clause-plain
returns-in-IsDigit-clause-plain c =
    let left = c.args.meter.now.left in
    subst (λ (id : NativeId). Meets c.isdigit.result (state_of c.args.store.now left) (text_method c.args.side c.args.text.now id c.args.args.now (state_of c.args.store.now left)))
    (sym c.in-IsDigit.is) (c.isdigit.ensures.plain (state_of c.args.store.now left))

pub returns-in-IsDigit-clause-sound : goal.returns-in-IsDigit-clause-sound
returns-in-IsDigit-clause-sound c = c.isdigit.ensures.sound c.args.store.now.heap

pub returns-in-Join-clause-classes : goal.returns-in-Join-clause-classes
returns-in-Join-clause-classes c = AddsNoClass-same c.args.store.now.heap c.join.new.store.heap c.join.ensures.same

pub returns-in-Strip-clause-classes : goal.returns-in-Strip-clause-classes
returns-in-Strip-clause-classes c = AddsNoClass-same c.args.store.now.heap c.strip.new.store.heap c.strip.ensures.same

pub returns-in-Replace-clause-classes : goal.returns-in-Replace-clause-classes
returns-in-Replace-clause-classes c = AddsNoClass-same c.args.store.now.heap c.replace.new.store.heap c.replace.ensures.same
