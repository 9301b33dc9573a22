use Rattle.std.proofs.Common.{drop, suc}
use Rattle.rp_frame.specs.Top.{top}
use Rattle.rp_access.specs.Moment.{state_of}
use Rattle.rp_meaning.specs.Calls.{with_named}
use Rattle.rp_expressions.proofs.Spreads.{left_as, left_end, named_ends, named_gives}
use Rattle.rp_engine.proofs.Worlds.{IsReady-goes}
use Rattle.rp_engine.specs.ArgumentSteps.{with_all, with_spread_named}
use Rattle.rp_engine.specs.Does as does
use Rattle.rp_engine.specs.HandSteps.{held_by, size_of}
use Rattle.rp_engine.specs.Law.{frame_in}
use Rattle.rp_store.proofs.CallerLemmas.{KeepsShape-trans}
use Rattle.rp_expressions.proofs.named_arguments.after_stars.Goals as goal

pub returns-in-Ok-clause-law : goal.returns-in-Ok-clause-law
returns-in-Ok-clause-law c =
    let m = c.args.machine.now in
    let w = c.args.world.now in
    let u = c.spread_named.new.world in
    let h = c.args.hand in
    let as' = does.args c.args.args.now in
    let ts = does.trailers c.args.rest.now in
    let f = top (drop (size_of h) m.values) in
    let a = held_by h m.values in
    let ns = c.in-Ok.named.items in
    left_as m c.named_over.new.machine c.named_over.new.world c.named_over.result (suc (size_of h)) (λ base. with_spread_named as' ts f a c.args.value (frame_in base m) (state_of w))
    (λ base. with_all as' ts f (with_named a ns) (frame_in base m) (state_of u)) (named_gives m w u as' ts f c.args.value a ns c.in-Ok.ensures.law) c.named_over.ensures.law

pub named_over-requires-clause-ready : goal.named_over-requires-clause-ready
named_over-requires-clause-ready c = IsReady-goes _ _ _ c.args.world.now c.spread_named.new.world c.requires.ready c.spread_named.ensures.shape c.spread_named.ensures.faithful

pub returns-clause-law : goal.returns-clause-law
returns-clause-law c =
    let m = c.args.machine.now in
    let w = c.args.world.now in
    let u = c.spread_named.new.world in
    let h = c.args.hand in
    let as' = does.args c.args.args.now in
    let ts = does.trailers c.args.rest.now in
    let f = top (drop (size_of h) m.values) in
    let a = held_by h m.values in
    left_end m c.without_hand.new.machine u c.without_hand.result (suc (size_of h)) (λ base. with_spread_named as' ts f a c.args.value (frame_in base m) (state_of w)) c.in-Err.end
    (named_ends m w u as' ts f c.args.value a c.in-Err.end c.in-Err.ensures.law) c.without_hand.ensures.law

pub returns-clause-ready : goal.returns-clause-ready
returns-clause-ready c =
    c.without_hand.ensures.ready c.spread_named.new.world (IsReady-goes _ _ _ c.args.world.now c.spread_named.new.world c.requires.ready c.spread_named.ensures.shape c.spread_named.ensures.faithful)

pub spread_named-requires-clause-faithful : goal.spread_named-requires-clause-faithful
spread_named-requires-clause-faithful c = c.requires.ready.faithful

pub spread_named-requires-clause-sound : goal.spread_named-requires-clause-sound
spread_named-requires-clause-sound c = c.requires.value.0

pub named_over-requires-clause-fit : goal.named_over-requires-clause-fit
named_over-requires-clause-fit c = c.in-Ok.ensures.fit

pub returns-in-Ok-clause-ready : goal.returns-in-Ok-clause-ready
returns-in-Ok-clause-ready c = c.named_over.ensures.ready

pub returns-in-Ok-clause-shape : goal.returns-in-Ok-clause-shape
returns-in-Ok-clause-shape c = KeepsShape-trans _ _ _ c.spread_named.ensures.shape c.named_over.ensures.shape

pub returns-clause-shape : goal.returns-clause-shape
returns-clause-shape c = c.spread_named.ensures.shape
