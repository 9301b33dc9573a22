use Rattle.std.proofs.Common.{sym, subst}
use Rattle.rp_base.specs.declared.native.NativeId.{NativeId}
use Rattle.rp_ops.specs.Outcome.{Meets, state_of}
use Rattle.rp_methods.specs.Lists.{list_method}
use Rattle.rp_methods.proofs.methods.list_method.Goals as goal

pub returns-in-Append-clause-plain : goal.returns-in-Append-clause-plain
returns-in-Append-clause-plain c =
    let left = c.args.meter.now.left in
    subst (λ (id : NativeId). Meets c.append.result (state_of c.append.new.store left) (list_method c.args.at id c.args.args.now (state_of c.args.store.now left))) (sym c.in-Append.is)
    (c.append.ensures.plain left)

pub returns-in-Insert-clause-plain : goal.returns-in-Insert-clause-plain
returns-in-Insert-clause-plain c =
    let left = c.args.meter.now.left in
    subst (λ (id : NativeId). Meets c.insert.result (state_of c.insert.new.store left) (list_method c.args.at id c.args.args.now (state_of c.args.store.now left))) (sym c.in-Insert.is)
    (c.insert.ensures.plain left)

pub returns-in-Pop-clause-plain : goal.returns-in-Pop-clause-plain
returns-in-Pop-clause-plain c =
    let left = c.args.meter.now.left in
    subst (λ (id : NativeId). Meets c.pop.result (state_of c.pop.new.store left) (list_method c.args.at id c.args.args.now (state_of c.args.store.now left))) (sym c.in-Pop.is)
    (c.pop.ensures.plain left)

pub returns-in-Reverse-clause-plain : goal.returns-in-Reverse-clause-plain
returns-in-Reverse-clause-plain c =
    let left = c.args.meter.now.left in
    subst (λ (id : NativeId). Meets c.reverse.result (state_of c.reverse.new.store left) (list_method c.args.at id c.args.args.now (state_of c.args.store.now left))) (sym c.in-Reverse.is)
    (c.reverse.ensures.plain left)
