use Rattle.std.proofs.Common.{sym, ◌∙◌}
use Rattle.rp_access.proofs.NamedReads.{default_given, default_not}
use Rattle.rp_access.proofs.named_attributes.default_for.Goals as goal

pub returns-then-is_kind-clause-law : goal.returns-then-is_kind-clause-law
returns-then-is_kind-clause-law c = λ s.
    default_given c.args.raised c.args.default.now _ s (sym c.is_kind.ensures.value ∙ c.if-is_kind.true) c.in_ok-copy.ensures

pub returns-clause-law : goal.returns-clause-law
returns-clause-law c = λ s. default_not c.args.raised c.args.default.now s (sym c.is_kind.ensures.value ∙ c.if-is_kind.false)
