use Rattle.std.proofs.Common.{Option, Some, ◌∙◌, ap, sym, subst}
use Rattle.std.specs.Option.{option_map_or}
use Rattle.rp_store.specs.declared.object.Object.{Object}
use Rattle.rp_store.specs.Object.{Content, content_of}
use Rattle.rp_ops.specs.Outcome.{Meets, state_of}
use Rattle.rp_methods.specs.Faults.{no_method}
use Rattle.rp_methods.specs.Methods.{content_method}
use Rattle.rp_methods.proofs.methods.object_method.Goals as goal

pub returns-in-Dict-clause-plain : goal.returns-in-Dict-clause-plain
returns-in-Dict-clause-plain c =
    let s = state_of c.args.store.now c.args.meter.now.left in
    subst (λ (x : Option Content). Meets c.dict_method.result (state_of c.dict_method.new.store c.args.meter.now.left)
    (option_map_or (λ d. content_method c.args.at d c.args.id c.args.args.now s) x (no_method s)))
    (sym (c.object.ensures.content ∙ ap (λ (o : Object). Some (content_of o)) c.in-Dict.is)) (c.dict_method.ensures.plain c.args.meter.now.left)
