use Rattle.std.proofs.Common.{◌≡◌, Err, rules, sym, ap, ◌∙◌}
use Rattle.rp_ops.specs.Outcome.{gives}
use Rattle.rp_access.proofs.Changed.{augmented_ends, augmented_gives}
use Rattle.rp_access.specs.Moment.{state_of}
use Rattle.rp_access.proofs.augmenting.augment.Goals as goal

pub returns-in_err-value-clause-law : goal.returns-in_err-value-clause-law
returns-in_err-value-clause-law c =
    let e : c.from_residual-in_err-value.result ≡ Err c.in_err-value.field-0.0 = search rules in
    rw e (augmented_ends c.args.side c.args.op c.args.a.now c.args.b.now (state_of c.args.world.now) (state_of c.ask.new.world) (state_of c.ask-2.new.world) _ _
    c.in_place_name.ensures c.augmented_name-name.ensures c.in_ok-ask.ensures.law c.in_ok-ask-2.ensures.law
    (state_of c.inplace.new.world) c.in_err-value.field-0.0 c.in_err-value.ensures.law)

pub returns-clause-law : goal.returns-clause-law
returns-clause-law c =
    augmented_gives c.args.side c.args.op c.args.a.now c.args.b.now (state_of c.args.world.now) (state_of c.ask.new.world) (state_of c.ask-2.new.world) _ _
    c.in_place_name.ensures c.augmented_name-name.ensures c.in_ok-ask.ensures.law c.in_ok-ask-2.ensures.law
    c.in_ok-value.value (state_of c.inplace.new.world) c.in_ok-value.ensures.law
    ∙ ap (λ v. gives v (state_of c.inplace.new.world)) (sym c.taken.ensures.value)
