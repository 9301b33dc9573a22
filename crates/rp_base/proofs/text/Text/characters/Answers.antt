use Rattle.std.proofs.Common.{◌≡◌, ◌∙◌, ap, chars, string_bytes}
use Rattle.std.specs.Str.{IsAscii}
use Rattle.rp_base.proofs.Plain.{ascii_bytes, none_is}
use Rattle.rp_base.proofs.text.Text.characters.Goals as goal

pub returns-in-None : goal.returns-in-None
returns-in-None c =
    let bytes : c.as_str.result.now ≡ string_bytes c.self.inside.shared.value.text = c.as_str.ensures.value ∙ ap (λ l. string_bytes l.text) c.deref-in-None.ensures in
    let ascii : IsAscii (chars (string_bytes c.self.inside.shared.value.text)) = none_is c.self.inside.shared.value.wide _ _ (cc) c.self.invariant.1 in
    let is = ascii_bytes c.as_str.result.now c.as_str.utf8 (rw bytes ascii) in
    (is.0 ∙ ap chars bytes ∙ c.self.view_is, is.1)
