use Rattle.std.proofs.Common.{Option, List, Some, None, option_map, sym, ap, ◌∙◌}
use Rattle.rp_base.specs.declared.value.Name.{Name}
use Rattle.rp_meaning.specs.Exceptions as exception
use Rattle.rp_meaning.specs.Frame.{Doing}
use Rattle.rp_tree.specs.Expressions.{Named}
use Rattle.rp_tree.specs.declared.stmt.Stmt.{Stmt}
use Rattle.rp_access.specs.Moment.{state_of}
use Rattle.rp_engine.proofs.Doings.{does_as, does_goes}
use Rattle.rp_statements.proofs.Handlings.{after_same}
use Rattle.rp_statements.proofs.TryEquations.{handler_body, handler_name}
use Rattle.rp_engine.specs.Does as does
use Rattle.rp_engine.specs.Handling as steps
use Rattle.rp_engine.specs.Law.{frame_in}
use Rattle.rp_statements.proofs.handling.begin_handler.Goals as goal

pub returns-in-None-clause-law : goal.returns-in-None-clause-law
returns-in-None-clause-law c =
    let m = c.args.machine.now in
    let w = c.args.world.now in
    let x = c.args.handler.now in
    let h = does.handler x in
    let r = c.args.raised in
    does_goes m c.enter_handler.new.machine w w c.enter_handler.result (exception.handled h.name h.body r) (steps.in_handler None (does.block c.deref.result.now) r)
    (λ base.
    ap (λ (n : Option Name). exception.handled n h.body r (frame_in base m) (state_of w)) (handler_name x ∙ ap (option_map (λ (k : Named). k.name)) c.in-None.is)
    ∙ ap (λ (body : Doing). body (steps.handling (Some r) (frame_in base m)) (state_of w)) (handler_body x ∙ ap (λ (xs : List Stmt). does.block xs) (sym c.deref.ensures.value))
    ∙ sym (after_same (does.block c.deref.result.now (steps.handling (Some r) (frame_in base m)) (state_of w)))) c.enter_handler.ensures.law

pub returns-in-Some-clause-law : goal.returns-in-Some-clause-law
returns-in-Some-clause-law c =
    let m = c.args.machine.now in
    let w = c.args.world.now in
    let x = c.args.handler.now in
    let h = does.handler x in
    let r = c.args.raised in
    does_as m c.bind_raised.new.machine w c.bind_raised.new.world c.bind_raised.result (exception.handled h.name h.body r)
    (exception.handled (Some c.in-Some.named.name) (does.block c.deref-in-Some.result.now) r) w
    (λ base.
    ap (λ (n : Option Name). exception.handled n h.body r (frame_in base m) (state_of w)) (handler_name x ∙ ap (option_map (λ (k : Named). k.name)) c.in-Some.is)
    ∙ ap (λ (body : Doing). exception.handled (Some c.in-Some.named.name) body r (frame_in base m) (state_of w))
    (handler_body x ∙ ap (λ (xs : List Stmt). does.block xs) (sym c.deref-in-Some.ensures.value))) c.bind_raised.ensures.law
