use Rattle.std.proofs.Common.{subst, sym}
use Rattle.rp_base.specs.declared.native.NativeId.{NativeId}
use Rattle.rp_ops.specs.Outcome.{Meets, state_of}
use Rattle.rp_methods.specs.Dicts.{dict_method}
use Rattle.rp_methods.proofs.methods.dict_method.Goals as goal

pub returns-in-Get-clause-plain : goal.returns-in-Get-clause-plain
returns-in-Get-clause-plain c =
    (λ steps. subst (λ (id : NativeId). Meets c.get.result (state_of c.args.store.now steps) (dict_method c.args.at id c.args.args.now (state_of c.args.store.now steps)))
    (sym c.in-Get.is) (c.get.ensures.plain steps))

pub returns-in-Keys-clause-plain : goal.returns-in-Keys-clause-plain
returns-in-Keys-clause-plain c =
    (λ steps. subst (λ (id : NativeId). Meets c.keys.result (state_of c.keys.new.store steps) (dict_method c.args.at id c.args.args.now (state_of c.args.store.now steps)))
    (sym c.in-Keys.is) (c.keys.ensures.plain steps))

pub returns-in-Values-clause-plain : goal.returns-in-Values-clause-plain
returns-in-Values-clause-plain c =
    (λ steps. subst (λ (id : NativeId). Meets c.values.result (state_of c.values.new.store steps) (dict_method c.args.at id c.args.args.now (state_of c.args.store.now steps)))
    (sym c.in-Values.is) (c.values.ensures.plain steps))

pub returns-in-Items-clause-plain : goal.returns-in-Items-clause-plain
returns-in-Items-clause-plain c =
    (λ steps. subst (λ (id : NativeId). Meets c.items.result (state_of c.items.new.store steps) (dict_method c.args.at id c.args.args.now (state_of c.args.store.now steps)))
    (sym c.in-Items.is) (c.items.ensures.plain steps))

pub returns-in-Pop-clause-plain : goal.returns-in-Pop-clause-plain
returns-in-Pop-clause-plain c =
    (λ steps. subst (λ (id : NativeId). Meets c.pop.result (state_of c.pop.new.store steps) (dict_method c.args.at id c.args.args.now (state_of c.args.store.now steps)))
    (sym c.in-Pop.is) (c.pop.ensures.plain steps))

pub returns-in-SetDefault-clause-plain : goal.returns-in-SetDefault-clause-plain
returns-in-SetDefault-clause-plain c =
    (λ steps. subst (λ (id : NativeId). Meets c.setdefault.result (state_of c.setdefault.new.store steps) (dict_method c.args.at id c.args.args.now (state_of c.args.store.now steps)))
    (sym c.in-SetDefault.is) (c.setdefault.ensures.plain steps))

pub returns-in-Update-clause-plain : goal.returns-in-Update-clause-plain
returns-in-Update-clause-plain c =
    (λ steps. subst (λ (id : NativeId). Meets c.update.result (state_of c.update.new.store steps) (dict_method c.args.at id c.args.args.now (state_of c.args.store.now steps)))
    (sym c.in-Update.is) (c.update.ensures.plain steps))

pub returns-in-Copy-clause-plain : goal.returns-in-Copy-clause-plain
returns-in-Copy-clause-plain c =
    (λ steps. subst (λ (id : NativeId). Meets c.copy.result (state_of c.copy.new.store steps) (dict_method c.args.at id c.args.args.now (state_of c.args.store.now steps)))
    (sym c.in-Copy.is) (c.copy.ensures.plain steps))
