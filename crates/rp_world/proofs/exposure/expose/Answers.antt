use Rattle.std.proofs.Common.{◌≡◌, Err, option_map, sym, ap, subst, ◌∙◌}
use Rattle.rp_decl.specs.View.{name_text}
use Rattle.rp_meaning.specs.Load.{not_bound}
use Rattle.rp_scope.specs.Scopes.{locals_of}
use Rattle.rp_store.specs.Store.{Cells}
use Rattle.rp_world.specs.Worlds.{ComesTo}
use Rattle.rp_world.proofs.Refusals.{refuses-on}
use Rattle.rp_world.proofs.Lookups.{comes-so, comes-unbound, exposed-so, faithful-so}
use Rattle.rp_world.proofs.Slots.{owner-there}
use Rattle.rp_world.proofs.exposure.expose.Goals as goal

pub least_unbound-requires-clause-held : goal.least_unbound-requires-clause-held
least_unbound-requires-clause-held c = owner-there c.args.world.store.heap c.args.globals _ c.requires.scope.1

pub least_unbound-requires-clause-names : goal.least_unbound-requires-clause-names
least_unbound-requires-clause-names c = c.requires.faithful.read.held

pub bind_exposed-requires-clause-owner : goal.bind_exposed-requires-clause-owner
bind_exposed-requires-clause-owner c = c.requires.scope.1

pub returns-in-Some-clause-refused : goal.returns-in-Some-clause-refused
returns-in-Some-clause-refused c =
    let w = c.args.world in
    let locals = locals_of c.args.layouts.now 0 in
    let word = name_text w.names c.in-Some.name in
    let found = sym c.least_unbound.ensures.least ∙ ap (option_map (name_text w.names)) c.in-Some.is in
    let comes = ComesTo locals c.args.globals c.args.cells w in
    refuses-on c.unbound.result (λ r. r ≡ Err (not_bound word)) comes
    (λ r same. subst comes (sym same) (comes-unbound w c.requires.faithful locals c.args.globals c.args.cells word found)) c.unbound.ensures.refuses

pub returns-clause-comes : goal.returns-clause-comes
returns-clause-comes c =
    let w = c.args.world in
    let stored = c.restart.ensures ∙ ap (λ (s : Cells). record s { used = 0; limit = c.args.cells }) c.in_ok-bind_exposed.ensures in
    comes-so w c.requires.faithful (locals_of c.args.layouts.now 0) c.args.globals c.args.cells c.restart.new.self c.new-log.result stored c.new-log.ensures
    (ap (option_map (name_text w.names)) (sym c.in_default.is) ∙ c.least_unbound.ensures.least)

pub returns-clause-faithful : goal.returns-clause-faithful
returns-clause-faithful c =
    let stored = c.restart.ensures ∙ ap (λ (s : Cells). record s { used = 0; limit = c.args.cells }) c.in_ok-bind_exposed.ensures in
    faithful-so c.args.world c.requires.faithful (locals_of c.args.layouts.now 0) c.args.globals c.args.cells c.restart.new.self c.new-log.result stored c.new-log.ensures

pub returns-clause-exposed : goal.returns-clause-exposed
returns-clause-exposed c =
    let stored = c.restart.ensures ∙ ap (λ (s : Cells). record s { used = 0; limit = c.args.cells }) c.in_ok-bind_exposed.ensures in
    exposed-so c.args.world c.requires.faithful (locals_of c.args.layouts.now 0) c.args.globals c.args.cells c.restart.new.self c.new-log.result stored c.new-log.ensures c.requires.exposing
