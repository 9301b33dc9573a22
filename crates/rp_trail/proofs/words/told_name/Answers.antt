use Rattle.std.proofs.lemmas.Str.{chars-nil}
use Rattle.rp_trail.proofs.words.told_name.Goals as goal

pub name_text-requires : goal.name_text-requires
name_text-requires c = rw c.if-named.true at c.requires

pub returns-then-named : goal.returns-then-named
returns-then-named c = rw c.if-named.true c.name_text.ensures

pub returns-else-named : goal.returns-else-named
returns-else-named c = rw c.if-named.false chars-nil
