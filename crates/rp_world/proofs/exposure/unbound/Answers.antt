use Rattle.std.proofs.Common.{◌≡◌, [], Err, chars, sym, ap, ◌∙◌}
use Rattle.std.proofs.lemmas.Option.{get_or_from_slice_get}
use Rattle.rp_decl.specs.View.{name_text}
use Rattle.rp_meaning.specs.Load.{not_bound}
use Rattle.rp_world.proofs.exposure.unbound.Goals as goal

pub returns-in-Ok-clause-refuses : goal.returns-in-Ok-clause-refuses
returns-in-Ok-clause-refuses c =
    let names = c.args.names.now in
    let name = c.args.name in
    let text : name_text names name ≡ chars c.text.result.now = get_or_from_slice_get names name.0 _ [] c.text.ensures.word in
    ap (λ word. Err (not_bound word)) (c.in-Ok.ensures ∙ sym text)
