use Rattle.std.proofs.Common.{sym, ap, ◌∙◌}
use Rattle.std.specs.Option.{is_some, option_map}
use Rattle.rp_meaning.specs.Scopes.{held, slot_in}
use Rattle.rp_base.proofs.CallerLemmas.{is_some-copied}
use Rattle.rp_world.proofs.exposure.is_bound.Goals as goal

pub returns-in-Some : goal.returns-in-Some
returns-in-Some c =
    c.is_some.ensures ∙ sym (is_some-copied c.slot.result) ∙ ap is_some c.slot.ensures.value
    ∙ ap (λ o. is_some (held c.args.store.now.heap (option_map (slot_in c.args.globals) o))) (sym c.in-Some.is ∙ c.global.ensures)

pub returns-in-None : goal.returns-in-None
returns-in-None c =
    ap (λ o. is_some (held c.args.store.now.heap (option_map (slot_in c.args.globals) o))) (sym c.in-None.is ∙ c.global.ensures)
