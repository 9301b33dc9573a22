use Rattle.std.proofs.Common.{[]}
use Rattle.std.proofs.lemmas.Option.{get_or_from_slice_get}
use Rattle.std.proofs.lemmas.Str.{chars-nil}
use Rattle.rp_decl.proofs.fault.fault_line.Goals as goal

pub returns-in-NotToml : goal.returns-in-NotToml
returns-in-NotToml c = rw c.in-NotToml.is (rw chars-nil at c.line.ensures)

pub returns-in-Version : goal.returns-in-Version
returns-in-Version c = rw c.in-Version.is (rw chars-nil at c.line-in-Version.ensures)

pub returns-in-Class : goal.returns-in-Class
returns-in-Class c =
    rw (c.in-Class.is, get_or_from_slice_get c.args.names.now c.in-Class.name.0 _ [] c.text.ensures.word) c.line-in-Class.ensures
