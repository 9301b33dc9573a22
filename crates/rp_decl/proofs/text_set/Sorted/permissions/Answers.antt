use Rattle.std.proofs.Common.{refl}
use Rattle.std.proofs.lemmas.Str.{chars-IsAscii}
use Rattle.rp_decl.specs.Document.{public}
use Rattle.rp_decl.proofs.Words.{IsAscii-is_ascii}
use Rattle.rp_decl.proofs.text_set.Sorted.permissions.Goals as goal

pub returns : goal.returns
returns c =
    rw (c.in_ok-insert_texts_at.ensures, c.in_ok-insert.ensures.keys, c.new-ids.ensures.empty, c.in_ok-new.ensures, chars-IsAscii public (IsAscii-is_ascii public refl)) at c.from_set.ensures
