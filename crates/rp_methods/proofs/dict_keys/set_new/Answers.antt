use Rattle.rp_base.specs.declared.value.Value.TheVariants as value
use Rattle.rp_ops.specs.Outcome.{gives, state_of}
use Rattle.rp_items.specs.Items.{set_item}
use Rattle.rp_ops.proofs.CallerLemmas.{passes-on}
use Rattle.rp_methods.proofs.dict_keys.set_new.Goals as goal

pub returns-in_err-put-clause-plain : goal.returns-in_err-put-clause-plain
returns-in_err-put-clause-plain c =
    (λ steps. passes-on c.from_residual-in_err-put.result c.in_err-put.field-0.0 (state_of c.put.new.store steps)
    (set_item (value.Ref c.args.at) (value.Rock c.args.rock.now) c.args.value.now (state_of c.args.store.now steps)) (λ _ s. gives c.args.value.now s)
    c.from_residual-in_err-put.ensures.1 (c.in_err-put.ensures.plain steps))
