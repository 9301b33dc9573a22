use Rattle.std.proofs.Common.{length}
use Rattle.rp_store.specs.Writers.{extended}
use Rattle.rp_ops.specs.Outcome.{state_of}
use Rattle.rp_ops.specs.Walk.{elements}
use Rattle.rp_methods.specs.Lists.{grows}
use Rattle.rp_ops.proofs.CallerLemmas.{passes-on}
use Rattle.rp_methods.proofs.list_changes.extend_by.Goals as goal

pub returns-in_err-values-clause-plain : goal.returns-in_err-values-clause-plain
returns-in_err-values-clause-plain c =
    passes-on c.from_residual.result c.in_err-values.field-0.0 (state_of c.elements.new.store c.elements.new.meter.left)
    (elements c.args.w.now (state_of c.args.store.now c.args.meter.now.left)) (λ vs s. grows (length vs) c.args.at (extended vs) s)
    c.from_residual.ensures.1 c.in_err-values.ensures.plain
