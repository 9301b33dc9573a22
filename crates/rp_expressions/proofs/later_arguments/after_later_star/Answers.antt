use Rattle.std.proofs.Common.{drop, suc}
use Rattle.rp_frame.specs.Top.{top}
use Rattle.rp_access.specs.Moment.{state_of}
use Rattle.rp_meaning.specs.Calls.{with_plain}
use Rattle.rp_expressions.proofs.Spreads.{behind_ends, behind_gives, left_as, left_end}
use Rattle.rp_engine.proofs.Worlds.{IsReady-goes}
use Rattle.rp_engine.specs.ArgumentSteps.{with_all, with_spread_behind}
use Rattle.rp_engine.specs.Does as does
use Rattle.rp_engine.specs.HandSteps.{held_by, size_of}
use Rattle.rp_engine.specs.Law.{frame_in}
use Rattle.rp_store.proofs.CallerLemmas.{KeepsShape-trans}
use Rattle.rp_expressions.proofs.later_arguments.after_later_star.Goals as goal

pub returns-in-Ok-clause-law : goal.returns-in-Ok-clause-law
returns-in-Ok-clause-law c =
    let m = c.args.machine.now in
    let w = c.args.world.now in
    let u = c.spread.new.world in
    let h = c.args.hand in
    let as' = does.args c.args.args.now in
    let ts = does.trailers c.args.rest.now in
    let f = top (drop (size_of h) m.values) in
    let a = held_by h m.values in
    let us = c.in-Ok.values.items in
    left_as m c.plain_over.new.machine c.plain_over.new.world c.plain_over.result (suc (size_of h)) (λ base. with_spread_behind as' ts f a c.args.value (frame_in base m) (state_of w))
    (λ base. with_all as' ts f (with_plain a us) (frame_in base m) (state_of u)) (behind_gives m w u as' ts f c.args.value a us c.in-Ok.ensures.law) c.plain_over.ensures.law

pub plain_over-requires-clause-ready : goal.plain_over-requires-clause-ready
plain_over-requires-clause-ready c = IsReady-goes _ _ _ c.args.world.now c.spread.new.world c.requires.ready c.spread.ensures.shape c.spread.ensures.faithful

pub returns-clause-law : goal.returns-clause-law
returns-clause-law c =
    let m = c.args.machine.now in
    let w = c.args.world.now in
    let u = c.spread.new.world in
    let h = c.args.hand in
    let as' = does.args c.args.args.now in
    let ts = does.trailers c.args.rest.now in
    let f = top (drop (size_of h) m.values) in
    let a = held_by h m.values in
    left_end m c.without_hand.new.machine u c.without_hand.result (suc (size_of h)) (λ base. with_spread_behind as' ts f a c.args.value (frame_in base m) (state_of w)) c.in-Err.end
    (behind_ends m w u as' ts f c.args.value a c.in-Err.end c.in-Err.ensures.law) c.without_hand.ensures.law

pub returns-clause-ready : goal.returns-clause-ready
returns-clause-ready c =
    c.without_hand.ensures.ready c.spread.new.world (IsReady-goes _ _ _ c.args.world.now c.spread.new.world c.requires.ready c.spread.ensures.shape c.spread.ensures.faithful)

pub spread-requires-clause-faithful : goal.spread-requires-clause-faithful
spread-requires-clause-faithful c = c.requires.ready.faithful

pub spread-requires-clause-sound : goal.spread-requires-clause-sound
spread-requires-clause-sound c = c.requires.value.0

pub plain_over-requires-clause-fit : goal.plain_over-requires-clause-fit
plain_over-requires-clause-fit c = c.in-Ok.ensures.fit

pub returns-in-Ok-clause-ready : goal.returns-in-Ok-clause-ready
returns-in-Ok-clause-ready c = c.plain_over.ensures.ready

pub returns-in-Ok-clause-shape : goal.returns-in-Ok-clause-shape
returns-in-Ok-clause-shape c = KeepsShape-trans _ _ _ c.spread.ensures.shape c.plain_over.ensures.shape

pub returns-clause-shape : goal.returns-clause-shape
returns-clause-shape c = c.spread.ensures.shape
