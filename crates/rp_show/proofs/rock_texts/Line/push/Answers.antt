use Rattle.std.proofs.lemmas.Str.{IsUtf8-string_bytes}
use Rattle.rp_show.proofs.Escapes.{chars-push}
use Rattle.rp_show.proofs.rock_texts.Line.push.Goals as goal

pub returns : goal.returns
returns c = rw (c.in_ok-push.ensures.bytes, ← c.self.view_is) (chars-push _ c.args.c (IsUtf8-string_bytes c.self.inside.text) c.ranges.c.0)
