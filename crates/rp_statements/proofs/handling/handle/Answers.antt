use Rattle.std.proofs.Common.{List, ◌∷◌, ◌-◌, length, take, drop, sym, ap, arith}
use Rattle.rp_base.specs.declared.value.OpEnd.TheVariants as end
use Rattle.rp_meaning.specs.Exceptions as exception
use Rattle.rp_tree.specs.declared.stmt.Except.{Except}
use Rattle.rp_access.proofs.Lists.{first_rest, none_left}
use Rattle.rp_access.specs.Moment.{state_of}
use Rattle.rp_engine.proofs.Doings.{does_as, does_end}
use Rattle.rp_engine.specs.Does as does
use Rattle.rp_engine.specs.Law.{frame_in}
use Rattle.rp_engine.proofs.Weights as weights
use Rattle.rp_statements.proofs.handling.handle.Goals as goal

pub returns-in-empty-clause-law : goal.returns-in-empty-clause-law
returns-in-empty-clause-law c =
    let m = c.args.machine.now in
    let w = c.args.world.now in
    let hs = c.args.handlers.now in
    let r = c.args.raised in
    does_end m c.cut_off.new.self w w c.cut_off.result (exception.handle (does.handlers hs) r) (end.Raised r)
    (λ base. ap (λ (hs : List Except). exception.handle (does.handlers hs) r (frame_in base m) (state_of w)) (none_left hs (omega arith))) c.cut_off.ensures.law

pub returns-in-len1-up-clause-law : goal.returns-in-len1-up-clause-law
returns-in-len1-up-clause-law c =
    let m = c.args.machine.now in
    let w = c.args.world.now in
    let hs = c.args.handlers.now in
    let h = c.handler-item.result in
    let r = c.args.raised in
    does_as m c.try_handler.new.machine w c.try_handler.new.world c.try_handler.result (exception.handle (does.handlers hs) r)
    (exception.handle (does.handler h ∷ does.handlers (take (length hs - 1) (drop 1 hs))) r) w
    (λ base. ap (λ (hs : List Except). exception.handle (does.handlers hs) r (frame_in base m) (state_of w)) (sym (first_rest hs h c.in-len1-up.len_at_least c.handler-item.is)))
    c.try_handler.ensures.law

pub returns-in-len1-up-clause-less : goal.returns-in-len1-up-clause-less
returns-in-len1-up-clause-less c =
    grind (arith, weights.excepts_front c.args.handlers.now c.handler-item.result c.in-len1-up.len_at_least c.handler-item.is)
