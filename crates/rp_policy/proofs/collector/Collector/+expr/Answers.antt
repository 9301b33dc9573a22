use Rattle.std.proofs.Common.{◌≡◌, OnOk, map, ap, sym, subst, ◌∙◌}
use Rattle.rp_tree.specs.declared.expr.Arg.TheViews.{out-Params}
use Rattle.rp_tree.specs.ExpressionViews.{plain_of, view_plain}
use Rattle.rp_tree.proofs.ExpressionEquations.{params_out}
use Rattle.rp_policy.specs.CollectionSteps.{Collection, with_name, with_params, with_plain}
use Rattle.rp_policy.proofs.collector.Collector.+expr.Goals as goal

pub params-returns : goal.params-returns
params-returns t c =
    let params = out-Params c.args.params.now in
    let names = λ (d : Collection). with_name params.dict (with_name params.list d) in
    subst (λ x. OnOk c.bind_option-2.result (c.bind_option-2.new.self ≡ x))
    (ap (with_name params.dict) c.in_ok-bind_option.ensures
    ∙ (ap names c.in_ok-plain.ensures
    ∙ (ap (λ xs. names (with_plain (plain_of (map view_plain xs)) c.args.self.now)) c.deref.ensures.value
    ∙ sym (ap (λ x. with_params x c.args.self.now) (params_out c.args.params.now)))))
    c.bind_option-2.ensures
