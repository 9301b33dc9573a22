use Rattle.std.proofs.Common.{List, ap, arith}
use Rattle.rp_meaning.specs.Expressions as forms
use Rattle.rp_tree.specs.declared.expr.Trailer.{Trailer}
use Rattle.rp_engine.proofs.Firsts.{gives_ok, of_first}
use Rattle.rp_access.proofs.Lists.{none_left}
use Rattle.rp_engine.specs.Does as does
use Rattle.rp_engine.specs.Law.{Evaluates, frame_in}
use Rattle.rp_access.specs.Moment.{state_of}
use Rattle.rp_expressions.proofs.primaries.trailers.Goals as goal

pub returns-in-len1-up-clause-law : goal.returns-in-len1-up-clause-law
returns-in-len1-up-clause-law c =
    of_first c.trailer.result
    (λ (ys : List Trailer). Evaluates (forms.trailers (does.trailers ys) c.args.value) c.args.machine.now c.args.world.now c.trailer.new.machine c.trailer.new.world)
    c.args.rest.now c.trailer-item.result c.in-len1-up.len_at_least c.trailer-item.is c.trailer.ensures.law

pub returns-in-empty-clause-law : goal.returns-in-empty-clause-law
returns-in-empty-clause-law c =
    let m = c.args.machine.now in
    let w = c.args.world.now in
    let ts = c.args.rest.now in
    gives_ok m c.back.new.self c.back.result (forms.trailers (does.trailers ts) c.args.value) c.args.value w
    (λ base. ap (λ (ys : List Trailer). forms.trailers (does.trailers ys) c.args.value (frame_in base m) (state_of w)) (none_left ts (omega arith))) c.back.ensures.law
