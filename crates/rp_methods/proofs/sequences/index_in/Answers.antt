use Rattle.rp_ops.specs.Outcome.{gives, state_of}
use Rattle.rp_methods.specs.Lists.{number, sought}
use Rattle.rp_ops.proofs.CallerLemmas.{passes-on}
use Rattle.rp_methods.proofs.sequences.index_in.Goals as goal

pub returns-in_err-place-clause-plain : goal.returns-in_err-place-clause-plain
returns-in_err-place-clause-plain c =
    passes-on c.from_residual.result c.in_err-place.field-0.0 (state_of c.args.store.now c.place_of.new.meter.left)
    (sought 0 c.args.x.now c.args.elements.now (state_of c.args.store.now c.args.meter.now.left)) (λ n s. gives (number n) s)
    c.from_residual.ensures.1 c.in_err-place.ensures.plain
