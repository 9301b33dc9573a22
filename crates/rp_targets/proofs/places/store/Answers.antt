use Rattle.std.proofs.Common.{sym, ap, arith}
use Rattle.rp_meaning.specs.State.{next}
use Rattle.rp_meaning.specs.Statements as forms
use Rattle.rp_ops.specs.Outcome.{gives}
use Rattle.rp_engine.proofs.Doings.{does_moves}
use Rattle.rp_engine.proofs.Equations.{place_name}
use Rattle.rp_targets.proofs.PlaceEquations.{place_attr, place_item}
use Rattle.rp_engine.proofs.Worlds.{IsReady-goes}
use Rattle.rp_engine.specs.Does as does
use Rattle.rp_engine.proofs.Weights as weights
use Rattle.rp_targets.proofs.places.store.Goals as goal

pub returns-in-Name-clause-law : goal.returns-in-Name-clause-law
returns-in-Name-clause-law c =
    does_moves c.args.machine.now c.go.new.self c.args.world.now c.bind.new.world c.go.result (does.place c.args.place.now c.args.value) (forms.leave next)
    (λ base. rw (c.in-Name.is, place_name c.in-Name.name) (ap (gives next) (sym (c.bind.ensures.law base)))) c.go.ensures.law

pub returns-in-Name-clause-ready : goal.returns-in-Name-clause-ready
returns-in-Name-clause-ready c =
    c.go.ensures.ready c.bind.new.world (IsReady-goes _ _ _ c.args.world.now c.bind.new.world c.requires.ready c.bind.ensures.shape c.bind.ensures.faithful)

pub returns-in-Attr-clause-law : goal.returns-in-Attr-clause-law
returns-in-Attr-clause-law c = rw (c.in-Attr.is, place_attr) c.store_attribute.ensures.law

pub returns-in-Item-clause-law : goal.returns-in-Item-clause-law
returns-in-Item-clause-law c = rw (c.in-Item.is, place_item) c.store_item.ensures.law

pub returns-in-Name-clause-less : goal.returns-in-Name-clause-less
returns-in-Name-clause-less c = rw c.in-Name.is (grind (arith, weights.place_name c.in-Name.name))

pub returns-in-Attr-clause-less : goal.returns-in-Attr-clause-less
returns-in-Attr-clause-less c = rw c.in-Attr.is (grind (arith, weights.place_attr))

pub returns-in-Item-clause-less : goal.returns-in-Item-clause-less
returns-in-Item-clause-less c = rw c.in-Item.is (grind (arith, weights.place_item))
