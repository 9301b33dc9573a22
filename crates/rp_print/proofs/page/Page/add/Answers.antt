use Rattle.std.proofs.lemmas.Str.{chars-append, IsUtf8-string_bytes}
use Rattle.rp_print.specs.PageSteps.{written}
use Rattle.rp_print.proofs.page.Page.add.Goals as goal

pub returns : goal.returns
unfolding written
returns c = rw (c.in_ok-push_str.ensures.bytes, ← c.self.view_is) (chars-append _ _
    (IsUtf8-string_bytes c.self.inside.text))
