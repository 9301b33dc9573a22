use Rattle.std.proofs.Common.{encode_utf8_all, length, string_bytes, sym, ap, ◌∙◌}
use Rattle.std.proofs.lemmas.Str.{encodes-chars, IsUtf8-string_bytes}
use Rattle.rp_show.proofs.rock_texts.Line.len.Goals as goal

pub returns : goal.returns
returns c =
    ap length (c.as_str.ensures.value ∙ sym (encodes-chars (string_bytes c.self.inside.text) (IsUtf8-string_bytes c.self.inside.text)) ∙ ap encode_utf8_all c.self.view_is)
