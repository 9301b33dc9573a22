use Rattle.std.proofs.Common.{◌≡◌, ◌∙◌, ap, chars}
use Rattle.rp_run.proofs.scripts.add_refusal.Goals as goal

pub returns-clause-added : goal.returns-clause-added
returns-clause-added c =
    rw (c.as_str-2.ensures, c.in_ok-lines.ensures.said.0, c.as_str.ensures, c.in_ok-prefix.ensures) at
    c.add.ensures.added
