use Rattle.std.proofs.Common.{◌≡◌, [], sym, ap}
use Rattle.std.specs.Str.{chars}
use Rattle.rp_base.specs.declared.value.Rock.TheVariants as rock
use Rattle.rp_base.specs.declared.value.Value.TheVariants as value
use Rattle.rp_ops.specs.Outcome.{gives}
use Rattle.rp_access.proofs.calls.exception_alone.Goals as goal

pub returns-clause-law : goal.returns-clause-law
unfolding chars
returns-clause-law c = λ s.
    let h : c.in_ok-new.field-0 ≡ [] = c.in_ok-new.ensures in
    ap (λ t. gives (value.Rock (rock.Exc c.args.kind t)) s) (sym h)
