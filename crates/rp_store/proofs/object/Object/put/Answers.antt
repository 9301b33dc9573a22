use Rattle.std.specs.Option.{option_map_or}
use Rattle.std.proofs.Common.{◌≡◌, ◌∙◌, Some, sym}
use Rattle.rp_store.specs.Key.{key_form}
use Rattle.rp_store.specs.Object.{content_of}
use Rattle.rp_store.specs.Writers.{with_entry}
use Rattle.rp_store.proofs.object.Object.put.Goals as goal

pub returns-in_default-set_entry-clause-put : goal.returns-in_default-set_entry-clause-put
returns-in_default-set_entry-clause-put c =
    let form : Some c.in-Some.form ≡ key_form c.args.key = sym c.in-Some.ensures.form in
    let content = content_of c.args.self.now in
    c.in_default-set_entry.ensures.ok c.args.key
    ∙ (λ j. option_map_or (λ key. with_entry key c.args.key c.args.value content) (form j) content)
