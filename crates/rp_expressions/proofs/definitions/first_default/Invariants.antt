use Rattle.std.proofs.Common.{◌≡◌, ◌≤◌, length}
use Rattle.rp_engine.specs.Does.{defaults}
use Rattle.rp_engine.specs.Loads.{params}
use Rattle.rp_expressions.proofs.definitions.first_default.Given as goal

-- none of the parameters so far has a default
abbrev pub invariant-params : goal.invariant-params
invariant-params l =
    record {
      same : defaults l.fn.params ≡ defaults l.rest;
      less : params l.rest ≤ params l.fn.params;
    }

abbrev pub decreases-params : goal.decreases-params
decreases-params l = length l.rest
