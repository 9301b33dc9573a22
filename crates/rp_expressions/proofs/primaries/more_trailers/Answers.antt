use Rattle.std.proofs.Common.{List, ap, arith}
use Rattle.rp_meaning.specs.Expressions as forms
use Rattle.rp_tree.specs.declared.expr.Trailer.{Trailer}
use Rattle.rp_engine.proofs.Firsts.{gives_any, goes_any}
use Rattle.rp_access.proofs.Lists.{none_left}
use Rattle.rp_engine.specs.Does as does
use Rattle.rp_engine.specs.Law.{frame_in}
use Rattle.rp_expressions.proofs.primaries.more_trailers.Goals as goal

pub returns-in-empty-clause-law : goal.returns-in-empty-clause-law
returns-in-empty-clause-law c =
    let m = c.args.machine.now in
    let ts = c.args.rest.now in
    gives_any m c.back.new.self c.back.result (forms.trailers (does.trailers ts) c.args.value) c.args.value
    (λ base s. ap (λ (ys : List Trailer). forms.trailers (does.trailers ys) c.args.value (frame_in base m) s) (none_left ts (omega arith))) c.back.ensures.law

pub returns-in_default-clause-law : goal.returns-in_default-clause-law
returns-in_default-clause-law c =
    goes_any c.args.machine.now c.wait_with.new.self c.wait_with.result (forms.trailers (does.trailers c.args.rest.now) c.args.value) c.wait_with.ensures.law
