use Rattle.std.proofs.lemmas.Str.{chars-append, IsUtf8-string_bytes}
use Rattle.rp_show.proofs.rock_texts.Line.add.Goals as goal

pub returns : goal.returns
returns c = rw (c.in_ok-push_str.ensures.bytes, ← c.self.view_is) (chars-append _ _ (IsUtf8-string_bytes c.self.inside.text))
